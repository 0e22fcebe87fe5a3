use Rattle.std.proofs.Common.{◌≡◌, IfErr, Some, subst}
use Rattle.digits_core.specs.Gtins.{gtin_fault}
use Rattle.answer_core.proofs.ShortPlaces.{gtin_short, short_as}
use Rattle.answer_core.proofs.answer.Answer.read_gtin.Goals as goal

pub refuse_said-requires : goal.refuse_said-requires
refuse_said-requires c =
    let digits = c.args.digits.now in
    let wrong = subst (λ r. IfErr r (λ f. gtin_fault digits ≡ Some f)) c.in-Err.is c.read.ensures.refused in
    short_as _ _ c.refusal.ensures (gtin_short digits c.in-Err.fault wrong)
