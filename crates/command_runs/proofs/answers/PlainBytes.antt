-- Plain bytes (`IsPlain`), by what is looked for in them: no byte order mark (its first byte is 239), no quote (34), and no carriage return (13) inside a
-- line, which a line feed (10) ends.
use Rattle.std.proofs.Common.{Bool, true, nat_eq, slice_index_or, ◌-◌, ◌≤◌, get_or, inl, inr, length-append, length-drop, ◌≡◌, ◌<◌, ◌+◌, ◌++◌, ◌==◌, ◌∙◌, ◌∷◌, sym, All, List, None, Some, [], ap, arith, drop, false, length, refl, ℕ}
use Rattle.std.specs.List.{position_or_len}
use Rattle.std.proofs.lemmas.Bool.{cases_lt, eq-eqb, eqb-true, false_from_ne_true, or_left, or_right}
use Rattle.std.proofs.Math.Seq.{get_or-append_seam}
use Rattle.std.proofs.lemmas.List.{get_or-append-add, get_or-drop}
use Rattle.std.proofs.lemmas.List.Sums.{fails_before_first, position_or_len_is}
use Rattle.memchr.specs.Find.{IsFirstByte, Nowhere, Passes, is_byte, is_byte2}
use Rattle.csv.specs.Reading.{strip_bom}
use Rattle.command_runs.specs.live.Laws.{IsPlain, ReturnsEndLines}

module _ (c : ℕ) where
  abbrev is_it : ℕ → Bool
  is_it b = b == c

  -- a byte that is not found is none of the bytes (`no_first_feed` of wire_core: no line feed)
  pub past_all : (xs : List ℕ) → IsFirstByte (is_byte c) xs None → position_or_len is_it xs ≡ length xs
  past_all xs none = position_or_len_is is_it xs (length xs) 0 (omega arith)
      (λ j low. false_from_ne_true _ (none j (omega arith) low)) (λ low. absurd (omega (arith, low)))

  pub no_byte : (xs : List ℕ) → IsFirstByte (is_byte c) xs None → All (λ b. (b == c) ≡ false) xs
  no_byte xs none = let past = past_all xs none in λ k d low. fails_before_first is_it xs k d (omega (arith, low, past))

pub plain_if : (xs : List ℕ) → strip_bom xs ≡ xs → IsFirstByte (is_byte 34) xs None → ReturnsEndLines xs → IsPlain xs
plain_if xs mark none returns = record { no_mark = mark; no_quote = no_byte 34 xs none; returns = returns }

-- up to a place each carriage return stands before a line feed
abbrev pub EndUpTo : List ℕ → ℕ → Type 0
EndUpTo bytes from = (before after : List ℕ) (next : ℕ) → bytes ≡ before ++ 13 ∷ next ∷ after → length before < from → next ≡ 10

-- where a carriage return and the byte after it stand
return_at : (bytes before after : List ℕ) (next : ℕ) → bytes ≡ before ++ 13 ∷ next ∷ after
    → (get_or bytes (length before) 0 ≡ 13) × (get_or bytes (length before + 1) 0 ≡ next) × (length before + 1 < length bytes)
return_at bytes before after next is = (
  ap (λ xs. get_or xs (length before) 0) is ∙ get_or-append_seam before 13 (next ∷ after) 0,
  ap (λ xs. get_or xs (length before + 1) 0) is ∙ get_or-append-add before (13 ∷ next ∷ after) 1 0,
  omega (arith, ap length is, length-append {A = ℕ}),
)

-- what is looked for: a carriage return or a quote
abbrev is_sought : ℕ → Bool
is_sought = is_byte2 13 34

return_sought : (x : ℕ) → x ≡ 13 → is_sought x ≡ true
return_sought x is = or_left (x == 13) (x == 34) (eq-eqb x 13 is)

quote_sought : (x : ℕ) → x ≡ 34 → is_sought x ≡ true
quote_sought x is = or_right (x == 13) (x == 34) (eq-eqb x 34 is)

-- the byte at a place, among those from an earlier place on
byte_from : (bytes : List ℕ) (k from b : ℕ) → from ≤ k → get_or bytes k 0 ≡ b → get_or (drop from bytes) (k - from) 0 ≡ b
byte_from bytes k from b up is =
    let at : from + (k - from) ≡ k = omega (arith, up) in
    get_or-drop from bytes (k - from) 0 ∙ ap (λ n. get_or bytes n 0) at ∙ is

-- a carriage return is found from a place on
return_from : (bytes before after : List ℕ) (next from : ℕ) → bytes ≡ before ++ 13 ∷ next ∷ after → from ≤ length before
    → is_sought (get_or (drop from bytes) (length before - from) 0) ≡ true
return_from bytes before after next from is up =
    return_sought _ (byte_from bytes (length before) from 13 up (return_at bytes before after next is).0)

-- the search of `are_lines` for carriage returns: its end when nothing more is found, and a step when one is found
pub no_more_returns : (bytes : List ℕ) (from : ℕ) → EndUpTo bytes from → IsFirstByte (is_byte2 13 34) (drop from bytes) None → ReturnsEndLines bytes
no_more_returns bytes from was none before after next is =
    let high = (return_at bytes before after next is).2 in
    elim (cases_lt (length before) from) [
      | inl low ↦ was before after next is low
      | inr up ↦ absurd (none (length before - from) (omega arith) (omega (arith, up, high, length-drop from bytes)) (return_from bytes before after next from is up))
    ]

pub one_more_return : (bytes : List ℕ) (from at : ℕ) → EndUpTo bytes from → IsFirstByte (is_byte2 13 34) (drop from bytes) (Some at)
    → (from + at + 1 < length bytes → get_or bytes (from + at + 1) 0 ≡ 10) → EndUpTo bytes (from + at + 1)
one_more_return bytes from at was found feed before after next is low =
    let stands = return_at bytes before after next is in
    elim (cases_lt (length before) from) [
      | inl lower ↦ was before after next is lower
      | inr up ↦ elim (cases_lt (length before) (from + at)) [
        | inl less ↦ absurd (found.0.before (length before - from) (omega arith) (omega (arith, up, less)) (return_from bytes before after next from is up))
        | inr same ↦ let here : length before ≡ from + at = omega (arith, same, low) in
            sym stands.1 ∙ ap (λ n. get_or bytes (n + 1) 0) here ∙ feed (omega (arith, here, stands.2))
      ]
    ]

-- no quote stands before a place; the end and a step of the search for quotes follow
abbrev pub NoQuoteUpTo : List ℕ → ℕ → Type 0
NoQuoteUpTo bytes from = Nowhere (Passes (is_byte 34) bytes) 0 from

pub no_more_quotes : (bytes : List ℕ) (from : ℕ) → NoQuoteUpTo bytes from → IsFirstByte (is_byte2 13 34) (drop from bytes) None
    → IsFirstByte (is_byte 34) bytes None
no_more_quotes bytes from was none k least low is =
    elim (cases_lt k from) [
      | inl lower ↦ was k least lower is
      | inr up ↦ none (k - from) (omega arith) (omega (arith, up, low, length-drop from bytes))
          (quote_sought _ (byte_from bytes k from 34 up (eqb-true _ 34 is)))
    ]

pub one_more_unquoted : (bytes : List ℕ) (from at : ℕ) → NoQuoteUpTo bytes from → IsFirstByte (is_byte2 13 34) (drop from bytes) (Some at)
    → get_or bytes (from + at) 0 ≡ 13 → NoQuoteUpTo bytes (from + at + 1)
one_more_unquoted bytes from at was found here k least low is =
    let quote : get_or bytes k 0 ≡ 34 = eqb-true _ 34 is in
    elim (cases_lt k from) [
      | inl lower ↦ was k least lower is
      | inr up ↦ elim (cases_lt k (from + at)) [
        | inl less ↦ found.0.before (k - from) (omega arith) (omega (arith, up, less)) (quote_sought _ (byte_from bytes k from 34 up quote))
        | inr same ↦ let place : k ≡ from + at = omega (arith, same, low) in
            absurd (omega (arith, sym (ap (λ n. get_or bytes n 0) place) ∙ quote, here))
      ]
    ]

-- another first byte begins no byte order mark, and the empty text has none
pub no_mark : (xs : List ℕ) → nat_eq (slice_index_or xs 0 0) 239 ≡ false → strip_bom xs ≡ xs
unfolding strip_bom
no_mark [] other = refl
no_mark (a ∷ []) other = refl
no_mark (a ∷ b ∷ []) other = refl
no_mark (a ∷ b ∷ c ∷ rest) other = rw other refl

pub empty_no_mark : (xs : List ℕ) → length xs ≡ 0 → strip_bom xs ≡ xs
unfolding strip_bom
empty_no_mark [] none = refl
empty_no_mark (a ∷ xs) none = absurd (omega (arith, none))
