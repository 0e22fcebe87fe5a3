-- Dots that are made dark byte by byte.
use Rattle.std.proofs.Common.{◌≡◌, ℕ, zero, suc, ◌+◌, ◌-◌, ◌*◌, ◌/◌, ◌%◌, ◌^◌, ◌<◌, ◌≤◌, ◌==◌, ◌&&◌, ◌||◌, nat_le, nat_lt, Bool, true, false, not, List, length, set, refl, sym, ap, ◌∙◌, inl, inr, get_or, arith, eq-eqb}
use Rattle.std.specs.Prelude.{bit_or, max, min}
use Rattle.std.specs.Int.{bit_at}
use Rattle.std.proofs.lemmas.Bool.{and_parts, cases_eq, leb-true, ltb-true, ne_eqb, le-ltb}
use Rattle.std.proofs.lemmas.Bool.Decides.{nat_tests}
use Rattle.std.proofs.lemmas.Nat.Bits.{bit_at-lt, bit_at_or}
use Rattle.std.proofs.lemmas.List.{get_or-set_same, get_or-set_other}
use Rattle.scan_core.specs.Bits.{dot_at}
use Rattle.sheet_core.proofs.WidthFacts.{all_below, all_below-at}

-- ---- the bits of a byte

-- the bits from dot a on and before dot b
abbrev span : ℕ → ℕ → ℕ
span a b = 255 / 2 ^ a - 255 / 2 ^ b

abbrev same : Bool → Bool → Bool
same true b = b
same false b = not b

same_is : (a b : Bool) → same a b ≡ true → a ≡ b
same_is true true e = refl
same_is true false e = sym e
same_is false true e = e
same_is false false e = refl

-- where the dots are in order, the bits fit a byte, and are those of the dots
abbrev is_span : ℕ → ℕ → Bool
is_span a b =
    nat_lt b a || (nat_le (255 / 2 ^ b) (255 / 2 ^ a) && (nat_lt (span a b) 256 && all_below
    (λ k. same (bit_at (span a b) (7 - k) == 1) (nat_le a k && nat_lt k b)) 8))

spans_tested : all_below (λ a. all_below (λ b. is_span a b) 9) 9 ≡ true
spans_tested = refl

pub record Span (a b : ℕ) : Type 0 where
  pub order : 255 / 2 ^ b ≤ 255 / 2 ^ a
  pub small : span a b < 256
  pub bits : (k : ℕ) → k < 8 → (bit_at (span a b) (7 - k) == 1) ≡ (nat_le a k && nat_lt k b)

pub span_of : (a b : ℕ) → a ≤ b → b ≤ 8 → Span a b
span_of a b order within =
    let all = all_below-at (λ b. is_span a b) 9 (all_below-at (λ a. all_below (λ b. is_span a b) 9) 9 spans_tested a (omega arith)) b (omega arith) in
    let rest : (nat_le (255 / 2 ^ b) (255 / 2 ^ a) && (nat_lt (span a b) 256 && all_below
    (λ k. same (bit_at (span a b) (7 - k) == 1) (nat_le a k && nat_lt k b)) 8)) ≡ true =
    sym (ap (λ t. t || (nat_le (255 / 2 ^ b) (255 / 2 ^ a) &&
    (nat_lt (span a b) 256 && all_below (λ k. same (bit_at (span a b) (7 - k) == 1) (nat_le a k && nat_lt k b)) 8))) (le-ltb b a order)) ∙ all in
    let parts = and_parts (nat_le (255 / 2 ^ b) (255 / 2 ^ a))
    (nat_lt (span a b) 256 && all_below (λ k. same (bit_at (span a b) (7 - k) == 1) (nat_le a k && nat_lt k b)) 8) rest in
    let more = and_parts (nat_lt (span a b) 256) (all_below (λ k. same (bit_at (span a b) (7 - k) == 1) (nat_le a k && nat_lt k b)) 8) parts.1 in
    record {
      order = leb-true (255 / 2 ^ b) (255 / 2 ^ a) parts.0;
      small = ltb-true (span a b) 256 more.0;
      bits = λ k low. same_is _ _ (all_below-at (λ k. same (bit_at (span a b) (7 - k) == 1) (nat_le a k && nat_lt k b)) 8 more.1 k low);
    }

-- ---- a byte of a line

either_bit : (a b : ℕ) → a < 2 → b < 2 → (max a b == 1) ≡ ((b == 1) || (a == 1))
either_bit zero zero h k = refl
either_bit zero (suc zero) h k = refl
either_bit zero (suc (suc b)) h k = absurd (omega arith)
either_bit (suc zero) zero h k = refl
either_bit (suc zero) (suc zero) h k = refl
either_bit (suc zero) (suc (suc b)) h k = absurd (omega arith)
either_bit (suc (suc a)) b h k = absurd (omega arith)

-- the dots of a byte with more bits
pub byte_dark : (line : List ℕ) (i v : ℕ) → i < length line → (k : ℕ) → dot_at (set line i (bit_or (get_or line i 0) v)) k
    ≡ (((k / 8 == i) && (bit_at v (7 - k % 8) == 1)) || dot_at line k)
byte_dark line i v low k =
    let value : ℕ = bit_or (get_or line i 0) v in
    elim (cases_eq (k / 8) i) [
      | inl same ↦
          let here : get_or (set line i value) (k / 8) 0 ≡ bit_or (get_or line (k / 8) 0) v =
          ap (λ j. get_or (set line i value) j 0) same ∙ get_or-set_same line i value 0 low ∙ ap (λ j. bit_or (get_or line j 0) v) (sym same) in
          ap (λ n. bit_at n (7 - k % 8) == 1) here
          ∙ ap (λ n. n == 1) (bit_at_or (get_or line (k / 8) 0) v (7 - k % 8))
          ∙ either_bit (bit_at (get_or line (k / 8) 0) (7 - k % 8)) (bit_at v (7 - k % 8)) (bit_at-lt _ _) (bit_at-lt _ _)
          ∙ sym (ap (λ t. (t && (bit_at v (7 - k % 8) == 1)) || dot_at line k) (eq-eqb (k / 8) i same))
      | inr other ↦
          ap (λ n. bit_at n (7 - k % 8) == 1) (get_or-set_other line i (k / 8) value 0 other)
          ∙ sym (ap (λ t. (t && (bit_at v (7 - k % 8) == 1)) || dot_at line k) (ne_eqb (k / 8) i other))
    ]

-- ---- dots, byte by byte

-- dot k is one of those from one on and before another, in the bytes before byte i
abbrev pub is_dark : ℕ → ℕ → ℕ → ℕ → Bool
is_dark from end i k = nat_le from k && (nat_lt k (8 * i) && nat_lt k end)

pub none_dark : (from end k : ℕ) (b : Bool) → b ≡ (is_dark from end (from / 8) k || b)
none_dark from end k b = grind (arith, nat_tests)

pub one_byte_more : (from end i k : ℕ) (b : Bool) → from < 8 * i + 8 → 8 * i < end
    → (((k / 8 == i) && (nat_le (max from (8 * i) - 8 * i) (k % 8) && nat_lt (k % 8) (min end (8 * i + 8) - 8 * i))) || (is_dark from end i k || b))
    ≡ (is_dark from end (i + 1) k || b)
one_byte_more from end i k b low high =
    elim (cases_eq (k / 8) i) [
      | inl same ↦ grind (arith, nat_tests)
      | inr other ↦ grind (arith, nat_tests)
    ]

pub all_dark : (from end i k : ℕ) (b : Bool) → (end + 7) / 8 ≤ i → (is_dark from end i k || b) ≡ ((nat_le from k && nat_lt k end) || b)
all_dark from end i k b past = grind (arith, nat_tests)

-- ---- at most eight dots, in two bytes

-- dot k is one of a byte's from its dot a on and before its dot b
abbrev pub in_byte : ℕ → ℕ → ℕ → ℕ → Bool
in_byte i a b k = (k / 8 == i) && (nat_le a (k % 8) && nat_lt (k % 8) b)

pub two_bytes : (from count k : ℕ) (b : Bool) → count ≤ 8
    → (in_byte (from / 8 + 1) 0 (from % 8 + count - 8) k || (in_byte (from / 8) (from % 8) (min (from % 8 + count) 8) k || b))
    ≡ ((nat_le from k && nat_lt k (from + count)) || b)
two_bytes from count k b few =
    elim (cases_eq (k / 8) (from / 8)) [
      | inl same ↦ grind (arith, nat_tests)
      | inr other ↦ elim (cases_eq (k / 8) (from / 8 + 1)) [
        | inl next ↦ grind (arith, nat_tests)
        | inr apart ↦ grind (arith, nat_tests)
      ]
    ]
