-- What `memchr` finds of a line feed, as std's `position_or_len`: for `lines::first_line`.
use Rattle.std.proofs.Common.{◌≡◌, ◌<◌, List, None, Some, arith, length, ℕ}
use Rattle.std.specs.List.{position_or_len}
use Rattle.std.proofs.lemmas.List.Sums.{position_or_len_is}
use Rattle.memchr.specs.Find.{IsFirstByte, is_byte}
use Rattle.wire_core.specs.Lines.{is_feed}
use Rattle.std.proofs.lemmas.Bool.{false_from_ne_true}

-- `memchr` found the first line feed at k
pub first_feed_at : (xs : List ℕ) (k : ℕ) → IsFirstByte (is_byte 10) xs (Some k) → (k < length xs) × (position_or_len is_feed xs ≡ k)
first_feed_at xs k found = let high = found.0.high in
    (high, position_or_len_is is_feed xs k 0 (omega (arith, high)) (λ j low. false_from_ne_true _ (found.0.before j (omega arith) low)) (λ _. found.1))

-- it found none
pub no_first_feed : (xs : List ℕ) → IsFirstByte (is_byte 10) xs None → position_or_len is_feed xs ≡ length xs
no_first_feed xs none = position_or_len_is is_feed xs (length xs) 0 (omega arith) (λ j low. false_from_ne_true _ (none j (omega arith) low))
    (λ low. absurd (omega (arith, low)))
