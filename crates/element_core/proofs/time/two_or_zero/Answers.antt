use Rattle.std.proofs.Common.{◌≡◌, ◌∙◌, ◌+◌, ◌-◌, ◌*◌, ◌<◌, ◌≤◌, ℕ, List, true, length, get_or, drop, add-zero, ap, refl, arith, inl, inr}
use Rattle.std.specs.Prelude.{◌⊎◌}
use Rattle.std.specs.Char.{is_ascii_digit}
use Rattle.std.specs.Int.{IsInRange}
use Rattle.std.specs.List.{list_all, slice_range}
use Rattle.std.proofs.lemmas.Bool.{le-leb, lt-leb}
use Rattle.std.proofs.lemmas.List.{get_or-drop, get_or-take}
use Rattle.element_core.specs.Times.{two_or_zero}
use Rattle.element_core.proofs.DayLemmas.{digits_at}
use Rattle.element_core.proofs.time.two_or_zero.Goals as goal

-- a byte of the two
byte_of : (s pair : List ℕ) (at k : ℕ) → pair ≡ slice_range s at (at + 2) → k < 2 → get_or pair k 0 ≡ get_or s (at + k) 0
byte_of s pair at k is lt = ap (λ (t : List ℕ). get_or t k 0) is ∙ get_or-take (at + 2 - at) (drop at s) k 0 (omega arith) ∙ get_or-drop at s k 0

digit_of : (s pair : List ℕ) (at k : ℕ) → pair ≡ slice_range s at (at + 2) → k < 2 → at + 2 ≤ length s → list_all is_ascii_digit s ≡ true
    → IsInRange 48 57 (get_or pair k 0)
digit_of s pair at k is lt fits digits = rw (byte_of s pair at k is lt) (digits_at s (at + k) digits (omega arith))

number_of : (s pair : List ℕ) (at : ℕ) → pair ≡ slice_range s at (at + 2) → at + 2 ≤ length s
    → 10 * (get_or pair 0 0 - 48) + (get_or pair 1 0 - 48) ≡ two_or_zero s at
number_of s pair at is fits =
    rw (le-leb (at + 2) (length s) fits, byte_of s pair at 0 is (omega arith), byte_of s pair at 1 is (omega arith), add-zero at) refl

zero_of : (s : List ℕ) (at : ℕ) → (at + 2 < at) ⊎ (length s < at + 2) → 0 ≡ two_or_zero s at
zero_of s at (inl past) = absurd (omega arith)
zero_of s at (inr short) = rw (lt-leb (at + 2) (length s) short) refl

pub two_digits-requires-clause-tens : goal.two_digits-requires-clause-tens
two_digits-requires-clause-tens c =
    let two = c.in-Some-len2.ensures.lookup.0 in
    digit_of c.args.digits.now c.in-Some-len2.field-0.now c.args.at 0 two.2 (omega arith) two.1 c.requires.digits

pub two_digits-requires-clause-ones : goal.two_digits-requires-clause-ones
two_digits-requires-clause-ones c =
    let two = c.in-Some-len2.ensures.lookup.0 in
    digit_of c.args.digits.now c.in-Some-len2.field-0.now c.args.at 1 two.2 (omega arith) two.1 c.requires.digits

pub returns-in-Some-len2-clause-value : goal.returns-in-Some-len2-clause-value
returns-in-Some-len2-clause-value c =
    let two = c.in-Some-len2.ensures.lookup.0 in
    c.two_digits.ensures.value ∙ number_of c.args.digits.now c.in-Some-len2.field-0.now c.args.at two.2 two.1

pub returns-in_default-clause-value : goal.returns-in_default-clause-value
returns-in_default-clause-value c =
    let two = (rw c.in_default.is at c.get.ensures.lookup).0 in
    let size : length c.in_default.field-0.now + c.args.at ≡ c.args.at + 2 = two.3 in
    absurd (grind arith)

pub returns-in_default-2-clause-value : goal.returns-in_default-2-clause-value
returns-in_default-2-clause-value c =
    let two = (rw c.in_default.is at c.get.ensures.lookup).0 in
    let size : length c.in_default.field-0.now + c.args.at ≡ c.args.at + 2 = two.3 in
    absurd (grind arith)

pub returns-in_default-3-clause-value : goal.returns-in_default-3-clause-value
returns-in_default-3-clause-value c = zero_of c.args.digits.now c.args.at (rw c.in_default.is at c.get.ensures.lookup).0
