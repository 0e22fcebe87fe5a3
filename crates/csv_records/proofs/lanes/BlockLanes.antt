-- The lanes of a block that are kept are what the spaces of its bytes put.
use Rattle.std.proofs.Common.{◌-◌, ◌++◌, ◌<◌, ◌≤◌, ◌==◌, ◌≡◌, ◌∙◌, ◌∷◌, List, [], ap, arith, cond, inl, inr, map, nat_le, refl, sym, true, ℕ}
use Rattle.std.specs.Char.{is_ascii_digit}
use Rattle.std.specs.Simd.Lanes.{Each1}
use Rattle.std.proofs.lemmas.Bool.{and_from, and_left, and_parts, and_right, cases_Bool, cases_lt, cond-false, cond-true, le-leb, lt-leb}
use Rattle.csv_records.specs.inner.Kept.{at_set_bits}
use Rattle.csv_records.specs.inner.LaneValues.{are_fine, digit_of, is_fine, lane_value, lane_values, puts, value_of}
use Rattle.csv_records.proofs.Decimals.{digit_range}
use Rattle.csv_records.proofs.lanes.FirstWidth.{no_space}
use Rattle.csv_records.proofs.lanes.ShortWords.{fine_byte}

-- a byte less 48 is at most 9 just if the byte is a digit
pub digit_test : (b : ℕ) → b < 256 → nat_le (digit_of b) 9 ≡ is_ascii_digit b
digit_test b byte = elim (cases_lt b 48) [
  | inl low ↦
      let far : 9 < digit_of b = omega (arith, low) in
      lt-leb (digit_of b) 9 far ∙ sym (and_left (nat_le 48 b) (nat_le b 57) (lt-leb 48 b low))
  | inr high ↦ elim (cases_lt 57 b) [
    | inl above ↦
        let far : 9 < digit_of b = omega (arith, above, byte) in
        lt-leb (digit_of b) 9 far ∙ sym (and_right (nat_le 48 b) (nat_le b 57) (lt-leb b 57 above))
    | inr within ↦
        let near : digit_of b ≤ 9 = omega (arith, high, within) in
        le-leb (digit_of b) 9 near ∙ sym (and_from (nat_le 48 b) (nat_le b 57) (le-leb 48 b high) (le-leb b 57 within))
  ]
]

-- what a lane shows, if the byte before it is a digit
pub value_is : (b a : ℕ) → b < 256 → is_ascii_digit a ≡ true → lane_value (digit_of b) (digit_of a) ≡ value_of b a
value_is b a byte unit =
    let range = digit_range a unit in
    let low : digit_of a ≡ a - 48 = omega (arith, range.0, range.1) in
    elim (cases_Bool (is_ascii_digit b)) [
      | inl tens ↦
          let more = digit_range b tens in
          let high : digit_of b ≡ b - 48 = omega (arith, more.0, more.1) in
          let first : cond (nat_le (digit_of b) 9) (digit_of b) 0 ≡ digit_of b = cond-true (nat_le (digit_of b) 9) (digit_of b) 0 (digit_test b byte ∙ tens) in
          let second : cond (is_ascii_digit b) (b - 48) 0 ≡ b - 48 = cond-true (is_ascii_digit b) (b - 48) 0 tens in
          omega (arith, first, second, low, high, more.0, more.1, range.0, range.1)
      | inr other ↦
          let first : cond (nat_le (digit_of b) 9) (digit_of b) 0 ≡ 0 = cond-false (nat_le (digit_of b) 9) (digit_of b) 0 (digit_test b byte ∙ other) in
          let second : cond (is_ascii_digit b) (b - 48) 0 ≡ 0 = cond-false (is_ascii_digit b) (b - 48) 0 other in
          omega (arith, first, second, low, range.0, range.1)
    ]

-- THE BLOCK: the lanes before spaces are the widths that the spaces put
pub kept_puts : (xs : List ℕ) (c b a : ℕ) → b < 256 → a < 256 → Each1 (λ x. x < 256) xs → are_fine c b a xs ≡ true
    → at_set_bits (map (λ x. x == 32) xs) (lane_values (digit_of b) (digit_of a) (map digit_of xs)) ≡ puts b a xs
kept_puts [] c b a bb ab each fine = refl
kept_puts (x ∷ xs) c b a bb ab each fine =
    let parts = and_parts (is_fine c b a x) (are_fine b a x xs) fine in
    let rest = puts a x xs in
    let v = lane_value (digit_of b) (digit_of a) in
    let w = value_of b a in
    let here : cond (x == 32) (v ∷ rest) rest ≡ cond (x == 32) (w ∷ rest) rest = elim (fine_byte c b a x parts.0) [
      | inl digit ↦ cond-false (x == 32) (v ∷ rest) rest (no_space x digit) ∙ sym (cond-false (x == 32) (w ∷ rest) rest (no_space x digit))
      | inr space ↦ ap (λ n. cond (x == 32) (n ∷ rest) rest) (value_is b a bb space.1)
    ] in
    ap (λ r. cond (x == 32) (v ∷ r) r) (kept_puts xs b a x ab each.0 each.1 parts.1) ∙ here

-- from block to block
abbrev pub ends : ℕ → ℕ → ℕ → List ℕ → ℕ × ℕ × ℕ
ends c b a [] = (c, b, a)
ends c b a (x ∷ xs) = ends b a x xs

pub puts_append : (xs ys : List ℕ) (c b a : ℕ) → puts b a (xs ++ ys) ≡ puts b a xs ++ puts (ends c b a xs).1 (ends c b a xs).2 ys
puts_append [] ys c b a = refl
puts_append (x ∷ xs) ys c b a = elim (cases_Bool (x == 32)) [
  | inl space ↦
      let rest = puts_append xs ys b a x in
      let e = ends b a x xs in
      cond-true (x == 32) (value_of b a ∷ puts a x (xs ++ ys)) (puts a x (xs ++ ys)) space ∙ ap (λ t. value_of b a ∷ t) rest
      ∙ ap (λ t. t ++ puts e.1 e.2 ys) (sym (cond-true (x == 32) (value_of b a ∷ puts a x xs) (puts a x xs) space))
  | inr other ↦
      let rest = puts_append xs ys b a x in
      let e = ends b a x xs in
      cond-false (x == 32) (value_of b a ∷ puts a x (xs ++ ys)) (puts a x (xs ++ ys)) other ∙ rest
      ∙ ap (λ t. t ++ puts e.1 e.2 ys) (sym (cond-false (x == 32) (value_of b a ∷ puts a x xs) (puts a x xs) other))
]

pub fine_append : (xs ys : List ℕ) (c b a : ℕ) → are_fine c b a xs ≡ true → are_fine (ends c b a xs).0 (ends c b a xs).1 (ends c b a xs).2 ys ≡ true
    → are_fine c b a (xs ++ ys) ≡ true
fine_append [] ys c b a one two = two
fine_append (x ∷ xs) ys c b a one two =
    let parts = and_parts (is_fine c b a x) (are_fine b a x xs) one in
    and_from (is_fine c b a x) (are_fine b a x (xs ++ ys)) parts.0 (fine_append xs ys b a x parts.1 two)
