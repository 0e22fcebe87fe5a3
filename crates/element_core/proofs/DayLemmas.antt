-- The calendar of `jiff` is the one of the lengths of months.
use Rattle.std.proofs.Common.{List, [], ◌∷◌, length, leb, eqb-true, ◌≡◌, ◌∙◌, ◌<◌, ◌≤◌, ◌-◌, inl, inr, ℕ, zero, suc, Bool, true, false, Option, Some, None, ℤ, pos, ap, refl, arith, slice_index, cond, ◌==◌, ◌≤ℤ◌}
use Rattle.std.specs.Prelude.{is_some}
use Rattle.std.specs.Int.{IsInRange}
use Rattle.std.specs.Char.{is_ascii_digit}
use Rattle.std.specs.List.{list_all}
use Rattle.std.proofs.lemmas.Bool.{le-leb, lt-leb, leb-true, and_parts}
use Rattle.std.proofs.lemmas.Bool.Decides.{eqb_tells, leb_tells}
use Rattle.std.proofs.lemmas.Int.{ints}
use Rattle.jiff.specs.Types.{Date}
use Rattle.jiff.specs.Words.{IsDate, IsYmd, days_in_month, month_length}
use Rattle.element_core.specs.inner.Days.{AreSixDigits, day_named, is_six_digits}
use Rattle.element_core.specs.Days.{IsDay, day_in, day_of, is_leap, last_day, months}

-- the months of a year, each by its place
same_at : (y k : ℕ) → k < 12 → days_in_month (pos y) (suc k) ≡ slice_index (months (is_leap y)) k
same_at y zero h = refl
same_at y (suc zero) h = refl
same_at y (suc (suc zero)) h = refl
same_at y (suc (suc (suc zero))) h = refl
same_at y (suc (suc (suc (suc zero)))) h = refl
same_at y (suc (suc (suc (suc (suc zero))))) h = refl
same_at y (suc (suc (suc (suc (suc (suc zero)))))) h = refl
same_at y (suc (suc (suc (suc (suc (suc (suc zero))))))) h = refl
same_at y (suc (suc (suc (suc (suc (suc (suc (suc zero)))))))) h = refl
same_at y (suc (suc (suc (suc (suc (suc (suc (suc (suc zero))))))))) h = refl
same_at y (suc (suc (suc (suc (suc (suc (suc (suc (suc (suc zero)))))))))) h = refl
same_at y (suc (suc (suc (suc (suc (suc (suc (suc (suc (suc (suc zero))))))))))) h = refl
same_at y (suc (suc (suc (suc (suc (suc (suc (suc (suc (suc (suc (suc k)))))))))))) h = absurd (omega (arith, h))

pub same_month : (y m : ℕ) → 1 ≤ m → m ≤ 12 → days_in_month (pos y) m ≡ last_day y m
same_month y zero h k = absurd (omega (arith, h))
same_month y (suc m) h k = same_at y m (omega (arith, k)) ∙ ap (λ i. slice_index (months (is_leap y)) i) (omega arith)

month_at : (b : Bool) (k : ℕ) → k < 12 → 28 ≤ slice_index (months b) k
month_at b zero h = omega arith
month_at true (suc zero) h = omega arith
month_at false (suc zero) h = omega arith
month_at b (suc (suc zero)) h = omega arith
month_at b (suc (suc (suc zero))) h = omega arith
month_at b (suc (suc (suc (suc zero)))) h = omega arith
month_at b (suc (suc (suc (suc (suc zero))))) h = omega arith
month_at b (suc (suc (suc (suc (suc (suc zero)))))) h = omega arith
month_at b (suc (suc (suc (suc (suc (suc (suc zero))))))) h = omega arith
month_at b (suc (suc (suc (suc (suc (suc (suc (suc zero)))))))) h = omega arith
month_at b (suc (suc (suc (suc (suc (suc (suc (suc (suc zero))))))))) h = omega arith
month_at b (suc (suc (suc (suc (suc (suc (suc (suc (suc (suc zero)))))))))) h = omega arith
month_at b (suc (suc (suc (suc (suc (suc (suc (suc (suc (suc (suc zero))))))))))) h = omega arith
month_at b (suc (suc (suc (suc (suc (suc (suc (suc (suc (suc (suc (suc k)))))))))))) h = absurd (omega (arith, h))

last_at : (y m : ℕ) → 1 ≤ m → m ≤ 12 → 28 ≤ last_day y m
last_at y m low high = month_at (is_leap y) (m - 1) (omega arith)

pub day_in_yes : (y m d : ℕ) → 1 ≤ m → m ≤ 12 → d ≤ last_day y m → day_in y m d ≡ Some (y, m, cond (d == 0) (last_day y m) d)
day_in_yes y m d low high h = rw (le-leb 1 m low, le-leb m 12 high, le-leb d (last_day y m) h) refl

day_in_no : (y m d : ℕ) → 1 ≤ m → m ≤ 12 → last_day y m < d → day_in y m d ≡ None
day_in_no y m d low high h = rw (le-leb 1 m low, le-leb m 12 high, lt-leb d (last_day y m) h) refl

-- the day that was asked for lies in the month exactly where its number does
number_in : (d last : ℕ) → 1 ≤ last → (d ≤ last → (1 ≤ cond (d == 0) last d) × (cond (d == 0) last d ≤ last)) × (cond (d == 0) last d ≤ last → d ≤ last)
number_in d last h = elim (eqb_tells d 0) [
  | inl zero_day ↦ rw zero_day.0 (λ le. (h, omega arith), λ le. omega (arith, zero_day.1))
  | inr other ↦ rw other.0 (λ le. (omega (arith, other.1), le), λ le. le)
]

-- a date of the month has its length
same_length : (y m : ℕ) (first : Date) → IsYmd (pos y) (pos m) (pos 1) first → 1 ≤ m → m ≤ 12 → month_length first ≡ last_day y m
same_length y m first head low high =
    let month : first.month ≡ m = omega (arith, ints, head.1) in
    rw (head.0, month) (same_month y m low high)

pub day_found : (y m d : ℕ) (z : ℤ) (first date : Date) → IsYmd (pos y) (pos m) (pos 1) first
    → z ≡ pos (cond (d == 0) (month_length first) d) → IsDate (pos y) (pos m) z → IsYmd (pos y) (pos m) z date
    → IsDay (Some date) (day_in y m d)
day_found y m d z first date head number there is =
    let low : 1 ≤ m = omega (arith, ints, there.1.0) in
    let high : m ≤ 12 = omega (arith, ints, there.1.1) in
    let same = same_length y m first head low high in
    let days = same_month y m low high in
    let least : 1 ≤ last_day y m = omega (arith, last_at y m low high) in
    let top : z ≤ℤ pos (last_day y m) = rw days at there.2.1 in
    let is_z : z ≡ pos (cond (d == 0) (last_day y m) d) = rw same at number in
    let within : cond (d == 0) (last_day y m) d ≤ last_day y m = omega (arith, ints, rw is_z at top) in
    let fits = (number_in d (last_day y m) least).1 within in
    rw (day_in_yes y m d low high fits) (is.0, omega (arith, ints, is.1), omega (arith, ints, is.2, is_z))

pub day_missing : (y m d : ℕ) (z : ℤ) (first : Date) → IsYmd (pos y) (pos m) (pos 1) first → IsDate (pos y) (pos m) (pos 1)
    → z ≡ pos (cond (d == 0) (month_length first) d) → (IsDate (pos y) (pos m) z → ⊥)
    → IsDay None (day_in y m d)
day_missing y m d z first head month number missing =
    let low : 1 ≤ m = omega (arith, ints, month.1.0) in
    let high : m ≤ 12 = omega (arith, ints, month.1.1) in
    let same = same_length y m first head low high in
    let days = same_month y m low high in
    let least : 1 ≤ last_day y m = omega (arith, last_at y m low high) in
    let is_z : z ≡ pos (cond (d == 0) (last_day y m) d) = rw same at number in
    elim (leb_tells d (last_day y m)) [
      | inl fits ↦
          let (one, top) = (number_in d (last_day y m) least).0 fits.1 in
          let bottom : pos 1 ≤ℤ z = rw is_z (omega (arith, ints, one)) in
          let most : z ≤ℤ pos (days_in_month (pos y) m) = rw (is_z, days) (omega (arith, ints, top)) in
          absurd (missing (month.0, month.1, (bottom, most)))
      | inr past ↦ rw (day_in_no y m d low high past.1) tt
    ]

-- ---- texts of six digits

pub digits_at : (text : List ℕ) (k : ℕ) → list_all is_ascii_digit text ≡ true → k < length text → IsInRange 48 57 (slice_index text k)
digits_at [] k h lt = absurd (omega arith)
digits_at (b ∷ text) zero h lt =
    let p = and_parts (is_ascii_digit b) (list_all is_ascii_digit text) h in
    let q = and_parts (leb 48 b) (leb b 57) p.0 in
    (leb-true 48 b q.0, leb-true b 57 q.1)
digits_at (b ∷ text) (suc k) h lt = digits_at text k (and_parts (is_ascii_digit b) (list_all is_ascii_digit text) h).1 (omega arith)

pub six_digits : (text : List ℕ) → is_six_digits text ≡ true → (length text ≡ 6) × AreSixDigits text
six_digits text h =
    let p = and_parts (length text == 6) (list_all is_ascii_digit text) h in
    let six : length text ≡ 6 = eqb-true (length text) 6 p.0 in
    (six, λ k lt. digits_at text k p.1 (omega arith))

pub day_of-six : (text : List ℕ) (reference : ℕ) → is_six_digits text ≡ true → day_of text reference ≡ day_named text reference
unfolding day_of
day_of-six text reference h = rw h refl

pub day_of-other : (text : List ℕ) (reference : ℕ) → is_six_digits text ≡ false → day_of text reference ≡ None
unfolding day_of
day_of-other text reference h = rw h refl

pub some_day : (o : Option Date) (p : Option (ℕ × ℕ × ℕ)) → IsDay o p → is_some o ≡ is_some p
some_day None None h = refl
some_day None (Some p) h = absurd h
some_day (Some d) None h = absurd h
some_day (Some d) (Some p) h = refl
