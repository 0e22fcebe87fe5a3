use Rattle.std.proofs.Common.{◌∙◌, List, subst, sym, ℕ}
use Rattle.answer_core.specs.Texts.{IsKindAnswer, text_kind}
use Rattle.answer_core.specs.declared.text.TextKind.{TextKind}
use Rattle.answer_core.proofs.answer.Answer.read_text.Goals as goal

pub returns-in-Sent : goal.returns-in-Sent
returns-in-Sent c =
    let t = c.trimmed-text.result.now in
    let a = c.read_message.new.self in
    subst (λ (s : List ℕ). IsKindAnswer (text_kind s) c.args.terms s a) c.trimmed-text.ensures
    (subst (λ (k : TextKind). IsKindAnswer k c.args.terms t a) (sym c.in-Sent.is ∙ c.text_kind.ensures) c.read_message.ensures)
