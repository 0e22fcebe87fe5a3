-- What stands behind an element is the end of its text.
use Rattle.std.proofs.Common.{◌≡◌, ◌∙◌, ◌+◌, ◌-◌, ◌≤◌, ◌∷◌, [], true, false, List, ap, arith, cond, drop, eqb, length, length-drop, refl, sym, ℕ}
use Rattle.std.proofs.lemmas.List.{drop-drop}
use Rattle.element_core.specs.Fronts.{after_separator}

-- a text from a place on is as much of its end
from_end : (t : List ℕ) (n : ℕ) → n ≤ length t → drop n t ≡ drop (length t - length (drop n t)) t
from_end t n le = let e : length t - length (drop n t) ≡ n = omega (arith, length-drop n t, le) in ap (λ k. drop k t) (sym e)

-- behind a separator is a text from a place on
after_is : (t : List ℕ) → (k : ℕ) × (k ≤ length t) × (after_separator t ≡ drop k t)
after_is [] = (0, omega arith, refl)
after_is (b ∷ t) =
    elim (eqb b 29) as (λ q. (k : ℕ) × (k ≤ length (b ∷ t)) × (cond q t (b ∷ t) ≡ drop k (b ∷ t))) [
      | true ↦ (1, omega arith, refl)
      | false ↦ (0, omega arith, refl)
    ]

pub rest_from_end : (t : List ℕ) (a v : ℕ) → a + v ≤ length t
    → after_separator (drop v (drop a t)) ≡ drop (length t - length (after_separator (drop v (drop a t)))) t
rest_from_end t a v le =
    let s = after_is (drop v (drop a t)) in
    let whole : after_separator (drop v (drop a t)) ≡ drop (a + v + s.0) t = s.2 ∙ ap (drop s.0) (drop-drop v a t) ∙ drop-drop s.0 (a + v) t in
    let within : a + v + s.0 ≤ length t = omega (arith, s.1, le, length-drop v (drop a t), length-drop a t) in
    whole ∙ from_end t (a + v + s.0) within ∙ ap (λ (r : List ℕ). drop (length t - length r) t) (sym whole)
