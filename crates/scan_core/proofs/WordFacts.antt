-- The bits of a word of eight bytes, and the dots that they show.
use Rattle.std.proofs.Common.{◌≡◌, ℕ, zero, suc, ◌+◌, ◌-◌, ◌*◌, ◌/◌, ◌%◌, ◌^◌, ◌<◌, ◌≤◌, ◌==◌, Bool, true, false, not, List, [], ◌∷◌, ◌++◌, length, inl, inr, refl, sym, ap, ap₂, ◌∙◌, add-zero, pow-suc, slice_index, arith}
use Rattle.std.proofs.Math.ListN.{get_or-append}
use Rattle.std.proofs.Math.Seq.{get_or-append_seam}
use Rattle.std.proofs.Math.Pow.{pow_pos}
use Rattle.std.proofs.lemmas.Bool.{cases_lt}
use Rattle.std.proofs.lemmas.List.{length-append}
use Rattle.std.proofs.lemmas.Nat.{div-add-mod', leading_length, leading_top}
use Rattle.std.proofs.lemmas.Nat.Bits.{bit_at_above, bit_at_cat_high, bit_at_cat_low, bit_at-lt, bit_at_not}
use Rattle.std.specs.Int.{bit_at, w64}
use Rattle.std.specs.Int.Count.{count_leading_zeros, leading_of_zero}
use Rattle.scan_core.specs.Bits.{dot_at, dots_at}
use Rattle.scan_core.specs.inner.Cutting.{Cut, coloured}
use Rattle.scan_core.proofs.RunsCutOfDots.{Open, closed, goes_on}

-- ---- the zeros before the first 1

pub first_zeros : (n k : ℕ) → n < 2 ^ 64 → k < count_leading_zeros 64 n → bit_at n (63 - k) ≡ 0
first_zeros n k fits lt =
    let l = leading_length 64 n fits in
    let whole : count_leading_zeros 64 n + l.0 ≡ 64 = l.1 in
    bit_at_above n l.0 (63 - k) l.2 (omega arith)

top_is_one : (n j p : ℕ) → p ≡ 2 ^ j → p ≤ n → n < p * 2 → bit_at n j ≡ 1
top_is_one n j p e from lt =
    let whole : n ≡ 1 * p + (n - p) = omega arith in
    let low : n - p < p = omega arith in
    let none : j - j ≡ 0 = omega arith in
    ap (λ x. bit_at x j) (whole ∙ ap (λ q. 1 * q + (n - p)) e) ∙ bit_at_cat_high 1 j (n - p) j (rw (sym e) low) (omega arith) ∙ ap (bit_at 1) none

pub first_one : (n : ℕ) → n < 2 ^ 64 → count_leading_zeros 64 n < 64 → bit_at n (63 - count_leading_zeros 64 n) ≡ 1
first_one zero fits lt = absurd (omega (arith, leading_of_zero 64))
first_one (suc n) fits lt =
    let t = leading_top 64 (suc n) (omega arith) fits in
    let place : 63 - count_leading_zeros 64 (suc n) ≡ t.0 = let whole : count_leading_zeros 64 (suc n) + suc t.0 ≡ 64 = t.1 in omega arith in
    let below : suc n < 2 ^ t.0 * 2 = rw (sym (pow-suc 2 t.0)) t.3 in
    ap (bit_at (suc n)) place ∙ top_is_one (suc n) t.0 (2 ^ t.0) refl t.2 below

-- ---- a word that is shifted and turned

pub shifted : (a s k : ℕ) → s + k < 64 → bit_at (a * 2 ^ s % 2 ^ 64) (63 - k) ≡ bit_at a (63 - (s + k))
shifted a s k lt =
    let x : ℕ = a * 2 ^ s in
    let place : 63 - k - s ≡ 63 - (s + k) = omega arith in
    sym (bit_at_cat_low (x / 2 ^ 64) 64 (x % 2 ^ 64) (63 - k) (omega arith))
    ∙ ap (λ y. bit_at y (63 - k)) (div-add-mod' x (2 ^ 64) ∙ sym (add-zero x))
    ∙ bit_at_cat_high a s 0 (63 - k) (pow_pos s) (omega arith)
    ∙ ap (bit_at a) place

pub flipped : (a s k : ℕ) → a < 2 ^ 64 → s + k < 64 → bit_at ((2 ^ 64 - 1 - a) * 2 ^ s % 2 ^ 64) (63 - k) ≡ 1 - bit_at a (63 - (s + k))
flipped a s k fits lt = shifted (2 ^ 64 - 1 - a) s k lt ∙ bit_at_not w64 a (63 - (s + k)) fits (omega arith)

-- ---- colours

other_colour : (b : ℕ) (dark : Bool) → b < 2 → coloured (1 - b) (not dark) ≡ coloured b dark
other_colour zero true h = refl
other_colour zero false h = refl
other_colour (suc zero) dark h = refl
other_colour (suc (suc b)) dark h = absurd (omega arith)

pub light_first : (b : ℕ) → b < 2 → (b == 1) ≡ coloured b false
light_first zero h = refl
light_first (suc zero) h = refl
light_first (suc (suc b)) h = absurd (omega arith)

pub dark_first : (b : ℕ) → b < 2 → (b == 1) ≡ coloured (1 - b) true
dark_first zero h = refl
dark_first (suc zero) h = refl
dark_first (suc (suc b)) h = absurd (omega arith)

-- ---- eight bytes

-- the number's bits are those of the bytes, from the first on
abbrev Shows : ℕ → List ℕ → Type 0
Shows n bs = (k : ℕ) → k < 8 * length bs → bit_at n (8 * length bs - 1 - k) ≡ bit_at (slice_index bs (k / 8)) (7 - k % 8)

one_more : (n b : ℕ) (bs : List ℕ) → b < 256 → Shows n bs → Shows (n * 2 ^ 8 + b) (bs ++ b ∷ [])
one_more n b bs fits h k lt =
    let more = length-append bs (b ∷ []) in
    elim (cases_lt k (8 * length bs)) [
      | inl before ↦
          let place : 8 * length (bs ++ b ∷ []) - 1 - k ≡ 8 * length bs - 1 - k + 8 = omega arith in
          let back : 8 * length bs - 1 - k + 8 - 8 ≡ 8 * length bs - 1 - k = omega arith in
          ap (bit_at (n * 2 ^ 8 + b)) place
          ∙ bit_at_cat_high n 8 b (8 * length bs - 1 - k + 8) fits (omega arith)
          ∙ ap (bit_at n) back
          ∙ h k before
          ∙ ap (λ x. bit_at x (7 - k % 8)) (sym (get_or-append bs (b ∷ []) 0 (k / 8) (omega arith)))
      | inr behind ↦
          let place : 8 * length (bs ++ b ∷ []) - 1 - k ≡ 7 - k % 8 = omega arith in
          let last : k / 8 ≡ length bs = omega arith in
          ap (bit_at (n * 2 ^ 8 + b)) place
          ∙ bit_at_cat_low n 8 b (7 - k % 8) (omega arith)
          ∙ ap (λ x. bit_at x (7 - k % 8)) (sym (ap (slice_index (bs ++ b ∷ [])) last ∙ get_or-append_seam bs b [] 0))
    ]

-- eight bytes as a list
abbrev pub eight : (ℕ → ℕ) → List ℕ
eight f = f 0 ∷ f 1 ∷ f 2 ∷ f 3 ∷ f 4 ∷ f 5 ∷ f 6 ∷ f 7 ∷ []

pub eight_at : (f : ℕ → ℕ) (j : ℕ) → j < 8 → slice_index (eight f) j ≡ f j
eight_at f zero h = refl
eight_at f (suc zero) h = refl
eight_at f (suc (suc zero)) h = refl
eight_at f (suc (suc (suc zero))) h = refl
eight_at f (suc (suc (suc (suc zero)))) h = refl
eight_at f (suc (suc (suc (suc (suc zero))))) h = refl
eight_at f (suc (suc (suc (suc (suc (suc zero)))))) h = refl
eight_at f (suc (suc (suc (suc (suc (suc (suc zero))))))) h = refl
eight_at f (suc (suc (suc (suc (suc (suc (suc (suc j)))))))) h = absurd (omega arith)

abbrev digits : (ℕ → ℕ) → ℕ
digits f = (((((((0 * 2 ^ 8 + f 0) * 2 ^ 8 + f 1) * 2 ^ 8 + f 2) * 2 ^ 8 + f 3) * 2 ^ 8 + f 4) * 2 ^ 8 + f 5) * 2 ^ 8 + f 6) * 2 ^ 8 + f 7

shows_eight : (f : ℕ → ℕ) → ((i : ℕ) → f i < 256) → Shows (digits f) (eight f)
shows_eight f fits =
    one_more _ (f 7) (f 0 ∷ f 1 ∷ f 2 ∷ f 3 ∷ f 4 ∷ f 5 ∷ f 6 ∷ []) (fits 7)
    (one_more _ (f 6) (f 0 ∷ f 1 ∷ f 2 ∷ f 3 ∷ f 4 ∷ f 5 ∷ []) (fits 6)
    (one_more _ (f 5) (f 0 ∷ f 1 ∷ f 2 ∷ f 3 ∷ f 4 ∷ []) (fits 5)
    (one_more _ (f 4) (f 0 ∷ f 1 ∷ f 2 ∷ f 3 ∷ []) (fits 4)
    (one_more _ (f 3) (f 0 ∷ f 1 ∷ f 2 ∷ []) (fits 3)
    (one_more _ (f 2) (f 0 ∷ f 1 ∷ []) (fits 2)
    (one_more _ (f 1) (f 0 ∷ []) (fits 1)
    (one_more 0 (f 0) [] (fits 0) (λ k lt. absurd (omega arith)))))))))

pub eight_bytes : (n : ℕ) (f : ℕ → ℕ) → ((i : ℕ) → f i < 256)
    → n ≡ (f 0 * 16777216 + f 1 * 65536 + f 2 * 256 + f 3) * 4294967296 + (f 4 * 16777216 + f 5 * 65536 + f 6 * 256 + f 7)
    → (k : ℕ) → k < 64 → bit_at n (63 - k) ≡ bit_at (f (k / 8)) (7 - k % 8)
eight_bytes n f fits e k lt =
    let same : n ≡ digits f = omega arith in
    ap (λ x. bit_at x (63 - k)) same ∙ shows_eight f fits k lt ∙ ap (λ b. bit_at b (7 - k % 8)) (eight_at f (k / 8) (omega arith))

-- ---- the dots that a word shows

-- the word of the byte that dot `from + at` is in
pub shown : (bits : List ℕ) (from at word : ℕ)
    → ((k : ℕ) → k < 64 → from / 8 + (from % 8 + at) / 8 + k / 8 < length bits
    → bit_at word (63 - k) ≡ bit_at (slice_index bits (from / 8 + (from % 8 + at) / 8 + k / 8)) (7 - k % 8))
    → (k : ℕ) → k < 64 - (from % 8 + at) % 8 → from + at + k < 8 * length bits
    → dot_at bits (from + (at + k)) ≡ (bit_at (word * 2 ^ ((from % 8 + at) % 8) % 2 ^ 64) (63 - k) == 1)
shown bits from at word h k lt within =
    let s : ℕ = (from % 8 + at) % 8 in
    let byte : (from + (at + k)) / 8 ≡ from / 8 + (from % 8 + at) / 8 + ((from % 8 + at) % 8 + k) / 8 = omega arith in
    let place : (from + (at + k)) % 8 ≡ ((from % 8 + at) % 8 + k) % 8 = omega arith in
    ap₂ (λ b p. bit_at (slice_index bits b) (7 - p) == 1) byte place
    ∙ ap (λ b. b == 1) (sym (h (s + k) (omega arith) (omega arith)) ∙ sym (shifted word s k (omega arith)))

pub light_shown : (dot dark : Bool) (word k : ℕ) → dot ≡ (bit_at word (63 - k) == 1) → dark ≡ false → dot ≡ coloured (bit_at word (63 - k)) dark
light_shown dot dark word k e light = e ∙ light_first (bit_at word (63 - k)) (bit_at-lt word (63 - k)) ∙ ap (coloured (bit_at word (63 - k))) (sym light)

pub dark_shown : (dot dark : Bool) (word k : ℕ) → word < 2 ^ 64 → dot ≡ (bit_at word (63 - k) == 1) → dark ≡ true
    → dot ≡ coloured (bit_at (2 ^ 64 - 1 - word) (63 - k)) dark
dark_shown dot dark word k fits e is_dark =
    e
    ∙ dark_first (bit_at word (63 - k)) (bit_at-lt word (63 - k))
    ∙ ap₂ (λ b d. coloured b d) (sym (bit_at_not w64 word (63 - k) fits (omega arith))) (sym is_dark)

-- ---- a run in a word

-- the dots from place n on, of which this many are known
abbrev pub Known : List ℕ → ℕ → ℕ → ℕ → ℕ → Bool → Type 0
Known bits from n left others dark = (k : ℕ) → k < left → dot_at bits (from + (n + k)) ≡ coloured (bit_at others (63 - k)) dark

pub alike : (bits : List ℕ) (from n left others more : ℕ) (dark : Bool) → Known bits from n left others dark → more ≤ left
    → ((k : ℕ) → k < more → bit_at others (63 - k) ≡ 0) → (k : ℕ) → n ≤ k → k < n + more → dot_at bits (from + k) ≡ dark
alike bits from n left others more dark known within zeros k some lt =
    let place : from + k ≡ from + (n + (k - n)) = omega arith in
    ap (dot_at bits) place ∙ known (k - n) (omega arith) ∙ ap (λ b. coloured b dark) (zeros (k - n) (omega arith))

pub known_on : (bits : List ℕ) (from end left others same : ℕ) (dark : Bool) → others < 2 ^ 64 → left ≤ 64 → left ≤ end → same < left
    → Known bits from (end - left) left others dark
    → Known bits from (end - (left - same)) (left - same) ((2 ^ 64 - 1 - others) * 2 ^ same % 2 ^ 64) (not dark)
known_on bits from end left others same dark fits few within lt known k less =
    let place : from + (end - (left - same) + k) ≡ from + (end - left + (same + k)) = omega arith in
    ap (dot_at bits) place
    ∙ known (same + k) (omega arith)
    ∙ sym (other_colour (bit_at others (63 - (same + k))) dark (bit_at-lt others (63 - (same + k))))
    ∙ ap (λ b. coloured b (not dark)) (sym (flipped others same k fits (omega arith)))

-- the next run has a dot
pub begins : (others same : ℕ) → others < 2 ^ 64 → same < 64 → bit_at others (63 - same) ≡ 1
    → bit_at ((2 ^ 64 - 1 - others) * 2 ^ same % 2 ^ 64) 63 ≡ 0
begins others same fits lt one =
    let place : same + 0 ≡ same = omega arith in
    flipped others same 0 fits (omega arith) ∙ ap (λ i. 1 - bit_at others (63 - i)) place ∙ ap (λ b. 1 - b) one

-- the run goes on over dots that are known
pub run_on : (bits : List ℕ) (from n left others more : ℕ) (widths : List ℕ) (run : ℕ) (dark : Bool) → Open widths run dark n (dots_at bits from n)
    → (bit_at others 63 ≡ 1 → 0 < length widths → 0 < run) → Known bits from n left others dark → more ≤ left
    → ((k : ℕ) → k < more → bit_at others (63 - k) ≡ 0) → (more ≡ 0 → bit_at others 63 ≡ 1)
    → Cut widths (run + more) dark (n + more) (dots_at bits from (n + more))
run_on bits from n left others more widths run dark cut begun known within zeros one =
    closed widths (run + more) dark (n + more) (dots_at bits from (n + more))
    (goes_on bits from n more widths run dark cut (alike bits from n left others more dark known within zeros)) (λ some. elim (cases_lt 0 more) [
      | inl lt ↦ omega arith
      | inr none ↦ let has = begun (one (omega arith)) some in omega arith
    ])

pub falls : (left same before after : ℕ) → after ≡ 0 → same < left → (same ≡ 0 → before ≡ 1) → left - same + after < left + before
falls left same before after e lt one = elim (cases_lt 0 same) [
  | inl some ↦ omega arith
  | inr none ↦ let had = one (omega arith) in omega arith
]

pub not_both : (b : ℕ) → b ≡ 0 → b ≡ 1 → ⊥
not_both b e f = omega arith
