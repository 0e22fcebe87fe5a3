-- Days that a time follows, and times.
use Rattle.std.proofs.Common.{◌≡◌, ◌∙◌, ◌+◌, ◌*◌, ◌<◌, ap, arith, length, get_or, ℕ, Bool, true, false, cond, eqb, List, None, refl, inl, inr}
use Rattle.std.specs.Char.{is_ascii_digit}
use Rattle.std.specs.Int.{IsInRange}
use Rattle.std.specs.List.{list_all}
use Rattle.std.proofs.lemmas.Bool.{and_parts, cases_Bool, eqb-true}
use Rattle.element_core.specs.Days.{day_in, day_of, two}
use Rattle.element_core.specs.inner.Days.{day_named, is_eight_digits, is_six_digits}
use Rattle.element_core.specs.Times.{exact_day_of, is_time_text, long_day_of, time_in, time_of, two_or_zero}
use Rattle.element_core.proofs.DayLemmas.{digits_at, day_of-other, day_of-six}

pub exact_day-none : (text : List ℕ) (reference : ℕ) → two text 4 ≡ 0 → exact_day_of text reference ≡ None
exact_day-none text reference zero_day = rw zero_day refl

pub exact_day-other : (text : List ℕ) (reference : ℕ) → is_six_digits text ≡ false → exact_day_of text reference ≡ None
exact_day-other text reference other =
    elim (cases_Bool (eqb (two text 4) 0)) [
      | inl zero_day ↦ rw zero_day refl
      | inr not_zero ↦ rw (not_zero, day_of-other text reference other) refl
    ]

pub exact_day-six : (text : List ℕ) (reference : ℕ) → is_six_digits text ≡ true → eqb (two text 4) 0 ≡ false → exact_day_of text reference
    ≡ day_named text reference
exact_day-six text reference six not_zero = ap (λ (b : Bool). cond b None (day_of text reference)) not_zero ∙ day_of-six text reference six

pub long_day-none : (text : List ℕ) → two text 6 ≡ 0 → long_day_of text ≡ None
unfolding long_day_of
long_day-none text zero_day = rw zero_day refl

pub long_day-other : (text : List ℕ) → is_eight_digits text ≡ false → long_day_of text ≡ None
unfolding long_day_of
long_day-other text other =
    elim (cases_Bool (eqb (two text 6) 0)) [
      | inl zero_day ↦ rw zero_day refl
      | inr not_zero ↦ rw (not_zero, other) refl
    ]

pub long_day-eight : (text : List ℕ) → is_eight_digits text ≡ true → eqb (two text 6) 0 ≡ false
    → long_day_of text ≡ day_in (100 * two text 0 + two text 2) (two text 4) (two text 6)
unfolding long_day_of
long_day-eight text eight not_zero = rw (not_zero, eight) refl

-- eight digits, as the code has them
pub eight_digits : (text : List ℕ) → is_eight_digits text ≡ true → (length text ≡ 8) × ((k : ℕ) → k < 8 → IsInRange 48 57 (get_or text k 0))
eight_digits text is =
    let p = and_parts (eqb (length text) 8) (list_all is_ascii_digit text) is in
    let long = eqb-true (length text) 8 p.0 in
    (long, λ k lt. digits_at text k p.1 (omega arith))

pub time_of-text : (text : List ℕ) → is_time_text text ≡ true → time_of text ≡ time_in (two_or_zero text 0) (two_or_zero text 2) (two_or_zero text 4)
unfolding time_of
time_of-text text is = rw is refl

pub time_of-other : (text : List ℕ) → is_time_text text ≡ false → time_of text ≡ None
unfolding time_of
time_of-other text other = rw other refl
