-- Six digits are given by their line of the zero-suppression table and the twelve digits that they stand for.
use Rattle.std.proofs.Common.{◌≡◌, ℕ, List, [], ◌∷◌, length, sym, ap, ap₂, ◌∙◌, inl, inr, arith, get_or}
use Rattle.std.specs.Prelude.{◌==◌, if◌then◌else◌}
use Rattle.std.proofs.lemmas.Bool.{cases_lt}
use Rattle.digits_core.specs.Laws.{OneFirstSpelling}
use Rattle.digits_core.specs.Upce.{upce_expanded, upce_line}
use Rattle.digits_core.proofs.ZeroSuppression.{first_line, second_line, third_line, fourth_line, line_of_first, line_of_second, line_of_third, line_of_fourth}
use Rattle.digits_core.proofs.Suppression.{expanded_shape, padded_twelve}

-- the six digits that stand for twelve by a line
abbrev six_by : ℕ → List ℕ → List ℕ
six_by line ds =
    let d : ℕ → ℕ = λ i. get_or ds i 0 in
    if line == 0 then d 1 ∷ d 2 ∷ d 8 ∷ d 9 ∷ d 10 ∷ d 3 ∷ []
    else if line == 1 then d 1 ∷ d 2 ∷ d 3 ∷ d 9 ∷ d 10 ∷ 3 ∷ []
    else if line == 2 then d 1 ∷ d 2 ∷ d 3 ∷ d 4 ∷ d 10 ∷ 4 ∷ []
    else d 1 ∷ d 2 ∷ d 3 ∷ d 4 ∷ d 5 ∷ d 10 ∷ []

given_by : (a b c d e f check : ℕ) → (let six : List ℕ = a ∷ b ∷ c ∷ d ∷ e ∷ f ∷ [] in six_by (upce_line six) (upce_expanded six check) ≡ six)
given_by a b c d e f check = elim (cases_lt f 3) [
  | inl low ↦ ap₂ six_by (line_of_first a b c d e f check (omega arith)) (first_line a b c d e f check (omega arith))
  | inr high ↦ elim (cases_lt f 4) [
    | inl low ↦
        let is : f ≡ 3 = omega arith in
        ap₂ six_by (line_of_second a b c d e f check is) (second_line a b c d e f check is) ∙ ap (λ z. a ∷ b ∷ c ∷ d ∷ e ∷ z ∷ []) (sym is)
    | inr higher ↦ elim (cases_lt f 5) [
      | inl low ↦
          let is : f ≡ 4 = omega arith in
          ap₂ six_by (line_of_third a b c d e f check is) (third_line a b c d e f check is) ∙ ap (λ z. a ∷ b ∷ c ∷ d ∷ e ∷ z ∷ []) (sym is)
      | inr highest ↦ ap₂ six_by (line_of_fourth a b c d e f check highest) (fourth_line a b c d e f check highest)
    ]
  ]
]

given : (six : List ℕ) (check : ℕ) → length six ≡ 6 → six_by (upce_line six) (upce_expanded six check) ≡ six
given (a ∷ b ∷ c ∷ d ∷ e ∷ f ∷ []) check n = given_by a b c d e f check
given (a ∷ b ∷ c ∷ d ∷ e ∷ f ∷ g ∷ six) check n = absurd (omega arith)
given _ check n = absurd (omega arith)

pub one_first_spelling : OneFirstSpelling
one_first_spelling = λ six others check last gtin a b.
    let low = a.first others last b.spelling in
    let high = b.first six check a.spelling in
    let line : upce_line six ≡ upce_line others = omega arith in
    let p = expanded_shape six check in
    let q = expanded_shape others last in
    let twelve : upce_expanded six check ≡ upce_expanded others last =
    padded_twelve (upce_expanded six check) (upce_expanded others last) p.count q.count (sym a.spelling.number ∙ b.spelling.number) in (
      sym (given six check a.spelling.six_digits) ∙ ap₂ six_by line twelve ∙ given others last b.spelling.six_digits,
      sym p.last ∙ ap (λ ds. get_or ds 11 0) twelve ∙ q.last,
    )
