-- The widths of a field, put block by block.
use Rattle.std.proofs.Common.{◌+◌, ◌-◌, ◌*◌, ◌++◌, ◌<◌, ◌≡◌, ◌≤◌, ◌∙◌, ◌∷◌, Bool, List, [], ap, arith, cond, drop, false, get_or, inl, inr, length, length-append, map, nat_lt, refl, replicate, suc, sum, sym, take, true, zero, ℕ}
use Rattle.std.specs.Char.{is_ascii_digit}
use Rattle.std.specs.Simd.Lanes.{Each1}
use Rattle.std.proofs.lemmas.Bool.{and_from, and_parts, cases_Bool, cond-false, cond-true, eqb-true, le-ltb}
use Rattle.std.proofs.lemmas.Simd.{Each1-replicate}
use Rattle.std.proofs.lemmas.List.{append-nil, append_assoc, length-drop, length-replicate, take-append-drop}
use Rattle.std.proofs.lemmas.List.Sums.{sum_by-cons}
use Rattle.csv_records.specs.inner.FrontWidths.{has_wide}
use Rattle.csv_records.specs.inner.LaneValues.{are_fine, digit_of, is_fine, puts, value_of}
use Rattle.csv_records.specs.lanes.Widths.{are_widths, widths_in, words_of}
use Rattle.csv_records.proofs.Decimals.{digit_range}
use Rattle.csv_records.proofs.lanes.BlockLanes.{ends, fine_append, puts_append}
use Rattle.csv_records.proofs.lanes.ShortWords.{fine_byte, passed, put, puts_widths}

-- the last three bytes, part after part
ends_append : (xs ys : List ℕ) (c b a : ℕ) → ends c b a (xs ++ ys) ≡ ends (ends c b a xs).0 (ends c b a xs).1 (ends c b a xs).2 ys
ends_append [] ys c b a = refl
ends_append (x ∷ xs) ys c b a = ends_append xs ys b a x

ends_last : (n : ℕ) (ys : List ℕ) (c b a : ℕ) → length ys ≡ n + 3 → ends c b a ys ≡ (get_or ys n 0, get_or ys (suc n) 0, get_or ys (suc (suc n)) 0)
ends_last zero [] c b a long = absurd (omega (arith, long))
ends_last zero (x ∷ []) c b a long = absurd (omega (arith, long))
ends_last zero (x ∷ y ∷ []) c b a long = absurd (omega (arith, long))
ends_last zero (x ∷ y ∷ z ∷ []) c b a long = refl
ends_last zero (x ∷ y ∷ z ∷ w ∷ ws) c b a long = absurd (omega (arith, long))
ends_last (suc n) [] c b a long = absurd (omega (arith, long))
ends_last (suc n) (y ∷ ys) c b a long = ends_last n ys b a y (omega (arith, long))

abbrev one_if : Bool → ℕ
one_if b = cond b 1 0

-- bytes that are all fine put at most a width for each two of them
pub few_puts : (xs : List ℕ) (c b a : ℕ) → are_fine c b a xs ≡ true → 2 * length (puts b a xs) ≤ length xs + one_if (is_ascii_digit a)
few_puts [] c b a fine = omega arith
few_puts (x ∷ xs) c b a fine =
    let parts = and_parts (is_fine c b a x) (are_fine b a x xs) fine in
    let rest = few_puts xs b a x parts.1 in
    elim (fine_byte c b a x parts.0) [
      | inl digit ↦
          let one : one_if (is_ascii_digit x) ≡ 1 = cond-true (is_ascii_digit x) 1 0 digit in
          let same : length (puts b a (x ∷ xs)) ≡ length (puts a x xs) = ap length (passed b a x xs digit) in
          omega (arith, rest, one, same)
      | inr space ↦
          let none : one_if (is_ascii_digit x) ≡ 0 = cond-false (is_ascii_digit x) 1 0 (ap is_ascii_digit (eqb-true x 32 space.0)) in
          let one : one_if (is_ascii_digit a) ≡ 1 = cond-true (is_ascii_digit a) 1 0 space.1 in
          let more : length (puts b a (x ∷ xs)) ≡ length (value_of b a ∷ puts a x xs) = ap length (put b a x xs space.0) in
          omega (arith, rest, none, one, more)
    ]

-- and each of them is below 100
value_small : (b a : ℕ) → is_ascii_digit a ≡ true → value_of b a < 100
value_small b a unit =
    let range = digit_range a unit in
    elim (cases_Bool (is_ascii_digit b)) [
      | inl tens ↦
          let more = digit_range b tens in
          let is : cond (is_ascii_digit b) (b - 48) 0 ≡ b - 48 = cond-true (is_ascii_digit b) (b - 48) 0 tens in
          omega (arith, is, range.0, range.1, more.0, more.1)
      | inr other ↦
          let is : cond (is_ascii_digit b) (b - 48) 0 ≡ 0 = cond-false (is_ascii_digit b) (b - 48) 0 other in
          omega (arith, is, range.0, range.1)
    ]

-- so none is wide
narrow_puts : (xs : List ℕ) (c b a : ℕ) → are_fine c b a xs ≡ true → has_wide (puts b a xs) ≡ false
narrow_puts [] c b a fine = refl
narrow_puts (x ∷ xs) c b a fine =
    let parts = and_parts (is_fine c b a x) (are_fine b a x xs) fine in
    let rest = narrow_puts xs b a x parts.1 in
    elim (fine_byte c b a x parts.0) [
      | inl digit ↦ ap has_wide (passed b a x xs digit) ∙ rest
      | inr space ↦
          let small = value_small b a space.1 in
          let narrow : nat_lt 65535 (value_of b a) ≡ false = le-ltb 65535 (value_of b a) (omega (arith, small)) in
          ap has_wide (put b a x xs space.0) ∙ rw (narrow, rest) refl
    ]

-- and they are not wide together
sum_puts : (xs : List ℕ) (c b a : ℕ) → are_fine c b a xs ≡ true → sum (puts b a xs) ≤ 99 * length xs
sum_puts [] c b a fine = omega arith
sum_puts (x ∷ xs) c b a fine =
    let parts = and_parts (is_fine c b a x) (are_fine b a x xs) fine in
    let rest = sum_puts xs b a x parts.1 in
    elim (fine_byte c b a x parts.0) [
      | inl digit ↦ let same : sum (puts b a (x ∷ xs)) ≡ sum (puts a x xs) = ap sum (passed b a x xs digit) in omega (arith, rest, same)
      | inr space ↦
          let small = value_small b a space.1 in
          let same : sum (puts b a (x ∷ xs)) ≡ value_of b a + sum (puts a x xs) =
          ap sum (put b a x xs space.0) ∙ sum_by-cons (λ w. w) (value_of b a) (puts a x xs) in
          omega (arith, rest, small, same)
    ]

-- zeros put nothing
puts_zeros : (n b a : ℕ) → puts b a (replicate n 48) ≡ []
puts_zeros zero b a = refl
puts_zeros (suc n) b a = puts_zeros n a 48

fine_front : (xs ys : List ℕ) (c b a : ℕ) → are_fine c b a (xs ++ ys) ≡ true → are_fine c b a xs ≡ true
fine_front [] ys c b a fine = refl
fine_front (x ∷ xs) ys c b a fine =
    let parts = and_parts (is_fine c b a x) (are_fine b a x (xs ++ ys)) fine in
    and_from (is_fine c b a x) (are_fine b a x xs) parts.0 (fine_front xs ys b a x parts.1)

-- the bytes `seen` are fine, `at` widths are put, and the lanes are the digits of the bytes before the next
pub record ArePut (seen widths lanes : List ℕ) (at : ℕ) : Type 0 where
  pub prior : List ℕ
  pub small : Each1 (λ b. b < 256) prior
  pub digits : lanes ≡ map digit_of prior
  pub last : ends 32 32 32 seen ≡ (get_or prior 13 0, get_or prior 14 0, get_or prior 15 0)
  pub fine : are_fine 32 32 32 seen ≡ true
  pub put : take at widths ≡ puts 32 32 seen
  pub count : at ≡ length (puts 32 32 seen)

-- before the first byte
pub none_put : (widths lanes : List ℕ) → lanes ≡ map digit_of (replicate 16 32) → ArePut [] widths lanes 0
none_put widths lanes is = record {
  prior = replicate 16 32;
  small = Each1-replicate (λ b. b < 256) 16 32 (omega arith);
  digits = is;
  last = refl;
  fine = refl;
  put = refl;
  count = refl;
}

-- there is room for the widths of a block
pub room_left : (seen widths lanes : List ℕ) (at : ℕ) → ArePut seen widths lanes at → 2 * at ≤ length seen
room_left seen widths lanes at state = omega (arith, few_puts seen 32 32 32 state.fine, state.count)

-- what a block puts behind some bytes
abbrev pub BlockPuts : List ℕ → List ℕ → List ℕ → List ℕ → ℕ → ℕ → Type 0
BlockPuts prior bytes old new at count =
    (are_fine (get_or prior 13 0) (get_or prior 14 0) (get_or prior 15 0) bytes ≡ true)
    × (take (at + count) new ≡ take at old ++ puts (get_or prior 14 0) (get_or prior 15 0) bytes)
    × (count ≡ length (puts (get_or prior 14 0) (get_or prior 15 0) bytes))

-- one block more
pub block_put : (seen bytes old new lanes : List ℕ) (at count : ℕ) (state : ArePut seen old lanes at) → length bytes ≡ 16 → Each1 (λ b. b < 256) bytes
    → BlockPuts state.prior bytes old new at count → ArePut (seen ++ bytes) new (map digit_of bytes) (at + count)
block_put seen bytes old new lanes at count state long each block =
    let p = state.prior in
    let here = puts (get_or p 14 0) (get_or p 15 0) bytes in
    let more : puts 32 32 (seen ++ bytes) ≡ puts 32 32 seen ++ here =
    puts_append seen bytes 32 32 32 ∙ ap (λ (t : ℕ × ℕ × ℕ). puts 32 32 seen ++ puts t.1 t.2 bytes) state.last in
    record {
      prior = bytes;
      small = each;
      digits = refl;
      last =
          ends_append seen bytes 32 32 32 ∙ ap (λ (t : ℕ × ℕ × ℕ). ends t.0 t.1 t.2 bytes) state.last
          ∙ ends_last 13 bytes (get_or p 13 0) (get_or p 14 0) (get_or p 15 0) (omega (arith, long));
      fine = fine_append seen bytes 32 32 32 state.fine (ap (λ (t : ℕ × ℕ × ℕ). are_fine t.0 t.1 t.2 bytes) state.last ∙ block.0);
      put = block.1 ∙ ap (λ t. t ++ here) state.put ∙ sym more;
      count = omega (arith, state.count, block.2, ap length more, length-append (puts 32 32 seen) here);
    }

-- the bytes of all blocks are those of the field, a space and zeros
pub field_ended : (field rest last : List ℕ) (done n : ℕ) → rest ≡ drop done field → last ≡ rest ++ 32 ∷ replicate n 48
    → take done field ++ last ≡ field ++ 32 ∷ replicate n 48
field_ended field rest last done n is ended =
    ap (λ t. take done field ++ t) (ended ∙ ap (λ t. t ++ 32 ∷ replicate n 48) is)
    ∙ sym (append_assoc (take done field) (drop done field) (32 ∷ replicate n 48))
    ∙ ap (λ t. t ++ 32 ∷ replicate n 48) (take-append-drop done field)

-- behind the last block, a space and zeros, all widths are put
all_put : (field seen widths lanes : List ℕ) (n at : ℕ) → seen ≡ field ++ 32 ∷ replicate n 48 → ArePut seen widths lanes at
    → (are_widths (words_of field) ≡ true) × (take at widths ≡ widths_in field) × (sum (widths_in field) ≤ 99 * length field + 99) × (has_wide (widths_in field) ≡ false)
all_put field seen widths lanes n at is state =
    let ended = field ++ 32 ∷ [] in
    let zeros : List ℕ = replicate n 48 in
    let parted : seen ≡ ended ++ zeros = is ∙ sym (append_assoc field (32 ∷ []) zeros) in
    let fine : are_fine 32 32 32 ended ≡ true = fine_front ended zeros 32 32 32 (ap (are_fine 32 32 32) (sym parted) ∙ state.fine) in
    let e = ends 32 32 32 ended in
    let same : puts 32 32 seen ≡ puts 32 32 ended =
    ap (puts 32 32) parted ∙ puts_append ended zeros 32 32 32 ∙ ap (λ t. puts 32 32 ended ++ t) (puts_zeros n e.1 e.2) ∙ append-nil (puts 32 32 ended) in
    let shown = puts_widths field fine in (
      shown.0,
      state.put ∙ same ∙ sym shown.1,
      omega (arith, ap sum shown.1, sum_puts ended 32 32 32 fine, length-append field (32 ∷ [])),
      ap has_wide shown.1 ∙ narrow_puts ended 32 32 32 fine,
    )

-- behind the last block of a field
pub field_put : (field rest last old new lanes : List ℕ) (done at count : ℕ) (state : ArePut (take done field) old lanes at) → done ≤ length field
    → length field - done < 16 → rest ≡ drop done field → last ≡ rest ++ 32 ∷ replicate (15 - length rest) 48 → Each1 (λ b. b < 256) last
    → BlockPuts state.prior last old new at count
    → (are_widths (words_of field) ≡ true) × (take (at + count) new ≡ widths_in field) × (sum (widths_in field) ≤ 99 * length field + 99) × (has_wide (widths_in field) ≡ false)
field_put field rest last old new lanes done at count state within short is ended each block =
    let zeros : List ℕ = replicate (15 - length rest) 48 in
    let count_zeros : length zeros ≡ 15 - length rest = length-replicate (15 - length rest) 48 in
    let count_rest : length rest ≡ length field - done = ap length is ∙ length-drop done field in
    let long : length last ≡ 16 =
    omega (arith, within, short, count_rest, ap length ended, length-append rest (32 ∷ zeros), count_zeros) in
    all_put field (take done field ++ last) new (map digit_of last) (15 - length rest) (at + count)
    (field_ended field rest last done (15 - length rest) is ended)
    (block_put (take done field) last old new lanes at count state long each block)
