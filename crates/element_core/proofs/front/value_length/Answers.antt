use Rattle.std.proofs.Common.{◌≡◌, ◌≤◌, ◌∙◌, ℕ, zero, suc, eqb, List, [], ◌∷◌, length, take, refl, sym, ap, arith, inl, inr}
use Rattle.std.proofs.lemmas.Bool.{cases_Bool}
use Rattle.std.proofs.lemmas.List.{take_all}
use Rattle.element_core.specs.Elements.{field_of}
use Rattle.element_core.proofs.front.value_length.Goals as goal
use Rattle.element_core.proofs.front.value_length.Goals.{then-family+else-greatest-text, else-family}

-- the field of the first bytes is the first bytes of the field
first_field : (n : ℕ) (text : List ℕ) → field_of (take n text) ≡ take n (field_of text)
first_field zero text = refl
first_field (suc n) [] = refl
first_field (suc n) (b ∷ text) =
    elim (cases_Bool (eqb b 29)) [
      | inl here ↦ rw here refl
      | inr other ↦ rw other (ap (λ (t : List ℕ). b ∷ t) (first_field n text))
    ]

field_within : (text : List ℕ) → length (field_of text) ≤ length text
field_within [] = omega arith
field_within (b ∷ text) =
    elim (cases_Bool (eqb b 29)) [
      | inl here ↦ rw here (omega arith)
      | inr other ↦ let shorter = field_within text in rw other (omega arith)
    ]

pub returns-then-greatest-text : goal.returns-then-greatest-text
returns-then-greatest-text c =
    rw (c.if-family.true, ← c.greatest_length-greatest.ensures)
    (c.field_length.ensures ∙ ap length (first_field c.greatest_length-greatest.result c.args.text.now))

pub returns : goal.returns
returns c =
    elim c.if-family.branch [
      | then-family+else-greatest-text w ↦ rw (w.if-family.true, ← w.greatest_length-greatest.ensures)
          (c.field_length-2.ensures
          ∙ ap length (sym (take_all w.greatest_length-greatest.result (field_of c.args.text.now) (let within = field_within c.args.text.now in omega arith))))
      | else-family w ↦ rw w.if-family.false c.field_length-2.ensures
    ]
