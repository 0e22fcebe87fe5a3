-- A value of one part.
use Rattle.std.proofs.Common.{◌≡◌, ◌∙◌, ◌+◌, ◌<◌, ◌≤◌, ℕ, Bool, List, [], ◌∷◌, ap, arith, get_or, inl, inr, length, ltb, refl, take}
use Rattle.std.proofs.lemmas.Bool.{cases_Bool, ltb-false}
use Rattle.std.proofs.lemmas.List.{take_all}
use Rattle.std.proofs.Math.Bool.{and-true}
use Rattle.element_core.specs.declared.fault.ElementFault.{ElementFault}
use Rattle.element_core.specs.declared.part.Part.{Part}
use Rattle.element_core.specs.Elements.{each_part, has_characters, has_check_digit, has_whole_steps, row_fault}
use Rattle.element_core.specs.inner.PartTests.{has_date, part_fault}

-- a test of its part is a test of the value
one : (test : Part → List ℕ → Bool) (part : Part) (value : List ℕ) → length value ≤ part.greatest → each_part test (part ∷ []) value ≡ test part value
one test part value fits = and-true (test part (take part.greatest value)) ∙ ap (test part) (take_all part.greatest value fits)

one_part : (year place : ℕ) (long : ElementFault) (part : Part) (value : List ℕ)
    → part_fault year place long part value ≡ row_fault year place long (part ∷ []) value
one_part year place long part value =
    let least : part.least + 0 ≡ part.least = omega arith in
    let greatest : part.greatest + 0 ≡ part.greatest = omega arith in
    elim (cases_Bool (ltb part.greatest (length value))) [
      | inl e ↦ rw (least, greatest, e) refl
      | inr e ↦
          let fits = ltb-false part.greatest (length value) e in
          rw (
            least,
            greatest,
            e,
            one has_whole_steps part value fits,
            one has_characters part value fits,
            one has_check_digit part value fits,
            one (has_date year) part value fits,
          ) refl
    ]

pub only_part : (year place : ℕ) (long : ElementFault) (parts : List Part) (other : Part) (value : List ℕ) → 1 ≤ length parts → length parts < 2
    → part_fault year place long (get_or parts 0 other) value ≡ row_fault year place long parts value
only_part year place long [] other value some few = absurd (omega arith)
only_part year place long (part ∷ []) other value some few = one_part year place long part value
only_part year place long (part ∷ next ∷ parts) other value some few = absurd (omega arith)
