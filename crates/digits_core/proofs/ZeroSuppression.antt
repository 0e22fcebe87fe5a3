-- The lines of the zero-suppression table.
use Rattle.std.proofs.Common.{◌≡◌, ◌≢◌, ℕ, ◌-◌, ◌<◌, ◌≤◌, List, [], ◌∷◌, length, refl, arith, get_or}
use Rattle.std.proofs.lemmas.Bool.{le-leb, lt-leb, ne_eqb}
use Rattle.digits_core.specs.Digits.{digits_of}
use Rattle.digits_core.specs.Upce.{upce_expanded, upce_line}

pub six_digits : (text : List ℕ) → length text ≡ 6
    → digits_of text ≡ (get_or text 0 0 - 48) ∷ (get_or text 1 0 - 48) ∷ (get_or text 2 0 - 48) ∷ (get_or text 3 0 - 48) ∷ (get_or text 4 0 - 48) ∷
    (get_or text 5 0 - 48) ∷ []
six_digits [] e = absurd (omega arith)
six_digits (a ∷ []) e = absurd (omega arith)
six_digits (a ∷ b ∷ []) e = absurd (omega arith)
six_digits (a ∷ b ∷ c ∷ []) e = absurd (omega arith)
six_digits (a ∷ b ∷ c ∷ d ∷ []) e = absurd (omega arith)
six_digits (a ∷ b ∷ c ∷ d ∷ f ∷ []) e = absurd (omega arith)
six_digits (a ∷ b ∷ c ∷ d ∷ f ∷ g ∷ []) e = refl
six_digits (a ∷ b ∷ c ∷ d ∷ f ∷ g ∷ h ∷ text) e = absurd (omega arith)

module _ (a b c d e f check : ℕ) where
  pub first_line : f ≤ 2 → upce_expanded (a ∷ b ∷ c ∷ d ∷ e ∷ f ∷ []) check ≡ 0 ∷ a ∷ b ∷ f ∷ 0 ∷ 0 ∷ 0 ∷ 0 ∷ c ∷ d ∷ e ∷ check ∷ []
  first_line h = rw (le-leb f 2 h) refl

  pub second_line : f ≡ 3 → upce_expanded (a ∷ b ∷ c ∷ d ∷ e ∷ f ∷ []) check ≡ 0 ∷ a ∷ b ∷ c ∷ 0 ∷ 0 ∷ 0 ∷ 0 ∷ 0 ∷ d ∷ e ∷ check ∷ []
  second_line h = rw h refl

  pub third_line : f ≡ 4 → upce_expanded (a ∷ b ∷ c ∷ d ∷ e ∷ f ∷ []) check ≡ 0 ∷ a ∷ b ∷ c ∷ d ∷ 0 ∷ 0 ∷ 0 ∷ 0 ∷ 0 ∷ e ∷ check ∷ []
  third_line h = rw h refl

  pub fourth_line : 5 ≤ f → upce_expanded (a ∷ b ∷ c ∷ d ∷ e ∷ f ∷ []) check ≡ 0 ∷ a ∷ b ∷ c ∷ d ∷ e ∷ 0 ∷ 0 ∷ 0 ∷ 0 ∷ f ∷ check ∷ []
  fourth_line h =
      let above : 2 < f = omega arith in
      let three : f ≢ 3 = λ is. absurd (omega arith) in
      let four : f ≢ 4 = λ is. absurd (omega arith) in
      rw (lt-leb f 2 above, ne_eqb f 3 three, ne_eqb f 4 four) refl

  pub line_of_first : f ≤ 2 → upce_line (a ∷ b ∷ c ∷ d ∷ e ∷ f ∷ []) ≡ 0
  line_of_first h = rw (le-leb f 2 h) refl

  pub line_of_second : f ≡ 3 → upce_line (a ∷ b ∷ c ∷ d ∷ e ∷ f ∷ []) ≡ 1
  line_of_second h = rw h refl

  pub line_of_third : f ≡ 4 → upce_line (a ∷ b ∷ c ∷ d ∷ e ∷ f ∷ []) ≡ 2
  line_of_third h = rw h refl

  pub line_of_fourth : 5 ≤ f → upce_line (a ∷ b ∷ c ∷ d ∷ e ∷ f ∷ []) ≡ 3
  line_of_fourth h =
      let above : 2 < f = omega arith in
      let three : f ≢ 3 = λ is. absurd (omega arith) in
      let four : f ≢ 4 = λ is. absurd (omega arith) in
      rw (lt-leb f 2 above, ne_eqb f 3 three, ne_eqb f 4 four) refl
