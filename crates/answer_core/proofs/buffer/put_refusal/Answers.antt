use Rattle.std.proofs.Common.{◌∙◌, ◌++◌, ◌∷◌, List, ap, ap₂, subst, sym, ℕ}
use Rattle.digits_core.specs.Buffers.{IsPut}
use Rattle.digits_core.specs.Refusals.{refusal_text}
use Rattle.answer_core.proofs.buffer.put_refusal.Goals as goal

pub returns-in-Some : goal.returns-in-Some
returns-in-Some c =
    let words = c.as_bytes-words.ensures.value ∙ c.words.ensures in
    let digits = c.as_bytes.ensures.value ∙ c.format.ensures.text in
    let line = ap₂ (λ (a b : List ℕ). a ++ (32 ∷ b)) words digits ∙ ap (refusal_text c.args.refusal.kind) (sym c.in-Some.is) in
    subst (λ it. IsPut it c.args.out.now c.put_words.new.out c.put_words.result) line c.put_words.ensures
