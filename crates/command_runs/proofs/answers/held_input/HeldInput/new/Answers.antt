-- Nothing is taken of a source at first, and nothing held.
use Rattle.std.proofs.Common.{refl}
use Rattle.std.proofs.KnownBytes.{Consumes-nil}
use Rattle.command_runs.proofs.answers.held_input.HeldInput.new.Goals as goal

pub returns : goal.returns
returns g c = (record { same = refl; came = Consumes-nil _; room = refl; works = refl }, refl, refl)
