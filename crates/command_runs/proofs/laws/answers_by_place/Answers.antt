-- `answers_by_place` of `ColumnsByPlace`, which needs no other law.
use Rattle.command_runs.proofs.ColumnsByPlace.{answers_by_place as law}
use Rattle.command_runs.proofs.laws.answers_by_place.Goals as goal

pub returns : goal.returns
returns c = law
