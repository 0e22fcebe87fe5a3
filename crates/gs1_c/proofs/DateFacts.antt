-- What stands before the first `=`.
use Rattle.std.proofs.Common.{◌≡◌, ℕ, List, [], ◌∷◌, true, false, ap, cond, eqb, length, refl, take}
use Rattle.gs1_c.specs.Dates.{before_equals}

-- it is the front of the text
pub take_before : (text : List ℕ) → take (length (before_equals text)) text ≡ before_equals text
take_before [] = refl
take_before (b ∷ text) =
    elim (eqb b 61) as (λ t. take (length (cond t [] (b ∷ before_equals text))) (b ∷ text) ≡ cond t [] (b ∷ before_equals text)) [
      | true ↦ refl
      | false ↦ ap (λ (w : List ℕ). b ∷ w) (take_before text)
    ]
