use Rattle.std.proofs.Common.{◌≡◌, ◌∙◌, ◌++◌, ◌∷◌, List, ap, ap₂, arith, length, map, min, refl, subst, sym, take, true, ℕ}
use Rattle.std.specs.Prelude.{◌==◌}
use Rattle.std.proofs.lemmas.List.{take_min}
use Rattle.digits_core.specs.Buffers.{IsPut}
use Rattle.element_core.specs.Elements.{Entry}
use Rattle.element_core.specs.Lines.{elements_text}
use Rattle.answer_core.specs.Formats.{entries_in}
use Rattle.answer_core.specs.Places.{entry_at}
use Rattle.answer_core.specs.declared.place.Place.{Place}
use Rattle.answer_core.proofs.answer.Answer.put_worded.Goals as goal

pub returns : goal.returns
returns c =
    let a = c.args.self.now in
    let text_long : length a.text ≡ 192 = omega arith in
    let most : length a.elements ≡ 48 = omega arith in
    let bytes : take c.min-length.result a.text ≡ take a.length a.text =
    ap (λ (n : ℕ). take n a.text) (c.min-length.ensures ∙ ap₂ (λ (n m : ℕ). min n m) c.from.ensures (sym text_long)) ∙ take_min a.length a.text in
    let places : take c.min-count.result a.elements ≡ take a.count a.elements =
    ap (λ (n : ℕ). take n a.elements) (c.min-count.ensures ∙ ap₂ (λ (n m : ℕ). min n m) c.from-2.ensures (sym most)) ∙ take_min a.count a.elements in
    let es : map (entry_at (take c.min-length.result a.text)) (take c.min-count.result a.elements) ≡ entries_in a =
    ap₂ (λ (t : List ℕ) (ps : List Place). map (entry_at t) ps) bytes places in
    let line = ap (λ (fs : List Entry). c.args.word.now ++ (32 ∷ elements_text c.args.form fs)) es in
    let zero : a.fault ≡ 0 = omega (arith, c.if-self-ne0.false) in
    let none : (a.fault == 0) ≡ true = rw zero refl in
    let whole = line ∙ rw none refl in
    subst (λ (t : List ℕ). IsPut t c.args.out.now c.put_said.new.out c.put_said.result) whole c.put_said.ensures
