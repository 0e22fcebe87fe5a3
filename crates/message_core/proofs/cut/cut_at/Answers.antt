-- The first part ends at the first such byte, or is all.
use Rattle.std.proofs.Common.{◌==◌, arith}
use Rattle.message_core.proofs.TextsCutAtByte.{parted, whole}
use Rattle.message_core.proofs.cut.cut_at.Goals as goal

pub returns-then-place-text-clause-parts : goal.returns-then-place-text-clause-parts
returns-then-place-text-clause-parts c =
    whole (λ b. b == c.args.byte) c.args.text.now (omega (arith, c.place_of-place.ensures.value, c.if-place-text.true))

pub returns-clause-parts : goal.returns-clause-parts
returns-clause-parts c =
    let place = c.place_of-place.ensures in
    parted (λ b. b == c.args.byte) c.args.text.now c.place_of-place.result place.value (omega (arith, place.within, c.if-place-text.false))
