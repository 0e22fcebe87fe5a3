use Rattle.std.proofs.Common.{length, refl}
use Rattle.hub_core.proofs.RowsAreGiven.{all_given, none_given}
use Rattle.hub_core.proofs.feeds.feeds_are_given.Goals as goal

pub returns-clause-first : goal.returns-clause-first
returns-clause-first c = λ feeds short. none_given feeds feeds (length feeds) refl refl short

pub returns-clause-last : goal.returns-clause-last
returns-clause-last c = λ feeds given rests was are. all_given feeds given rests was are
