use Rattle.std.proofs.Common.{IfErr, subst}
use Rattle.element_core.specs.Elements.{FirstFault}
use Rattle.message_core.specs.Spellings.{spelled}
use Rattle.answer_core.proofs.ShortPlaces.{element_short, short_as}
use Rattle.answer_core.proofs.answer.Answer.read_spelled.Goals as goal

pub refuse_said-requires : goal.refuse_said-requires
refuse_said-requires c =
    let text = spelled c.args.text.now in
    let first = subst (λ r. IfErr r (λ f. FirstFault c.args.terms text f)) c.in-Err.is c.read_spelled.ensures.err in
    short_as _ _ c.refusal.ensures (element_short c.args.terms text c.in-Err.fault first)
