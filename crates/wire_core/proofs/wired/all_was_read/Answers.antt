use Rattle.std.proofs.Common.{◌≡◌, refl}
use Rattle.std.proofs.KnownBytes.{Consumes-whole}
use Rattle.wire_core.specs.Events.{was_read}
use Rattle.wire_core.proofs.wired.all_was_read.Goals as goal

pub returns : goal.returns
returns g c = λ start wire events did ended. Consumes-whole _ _ (was_read events) (λ bytes. was_read events ≡ bytes) did.0 ended refl
