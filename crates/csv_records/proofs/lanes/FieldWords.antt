-- The words of a field, as `read_widths` reads their widths off its front.
use Rattle.std.proofs.Common.{◌&&◌, ◌+◌, ◌-◌, ◌++◌, ◌<◌, ◌==◌, ◌||◌, ◌≡◌, ◌≤◌, ◌∙◌, ◌∷◌, Bool, List, Some, [], ap, arith, drop, false, get_or, length, length-append, map, min, nat_lt, refl, subst, sym, take, true, ℕ}
use Rattle.std.specs.Char.{is_ascii_digit}
use Rattle.std.specs.Str.Parse.{digits_value}
use Rattle.std.proofs.Math.Bool.{or-false}
use Rattle.std.proofs.lemmas.List.{drop_more, length-drop, map_more, map_push, take-append-drop}
use Rattle.std.proofs.lemmas.Bool.{and_right, le-ltb}
use Rattle.std.proofs.lemmas.List.Splits.{length-slice_split}
use Rattle.std.proofs.lemmas.List.Folds.{list_all-append, list_all_more, list_any-append}
use Rattle.csv_records.specs.inner.FrontWidths.{IsFirstWidth, capped, has_wide}
use Rattle.csv_records.specs.lanes.Widths.{are_widths, field_fault, is_number, words_of}
use Rattle.csv_records.specs.declared.input.fault.RecordFault.TheVariants as fault
use Rattle.csv_records.proofs.Decimals.{digit_range}
use Rattle.csv_records.proofs.lanes.FirstWidth.{next_width, one_more_digit, one_more_value, word_before_space}

-- the next word and those after it
next_word : (words others : List (List ℕ)) (word : List ℕ) (i : ℕ) → i < length words → drop i words ≡ word ∷ others
    → (get_or words i [] ≡ word) × (drop (i + 1) words ≡ others)
next_word words others word i low is =
    let both : get_or words i [] ∷ drop (i + 1) words ≡ word ∷ others = sym (drop_more words i [] low) ∙ is in (cc both, cc both)

-- `i` of the words are read, those left are the words of `text`, and its first width is `width`, with `rest` behind it
module _ (words : List (List ℕ)) (i width : ℕ) (text rest : List ℕ) (low : i < length words) (left : drop i words ≡ words_of text)
    (first : IsFirstWidth text width rest) where
  -- the next word is the first of the text
  next : (get_or words i [] ≡ first.word) × (drop (i + 1) words ≡ first.others)
  next = next_word words first.others first.word i low (left ∙ first.words)

  -- if there are words behind it, they are those of `rest`
  pub rest_left : i + 1 < length words → drop (i + 1) words ≡ words_of rest
  rest_left more = next.1 ∙ first.after (λ none.
      let over = ap length (next.1 ∙ none) in
      omega (arith, more, over, length-drop (i + 1) words))

  -- if the words so far are numbers, they are with the next word
  pub more_numbers : are_widths (take i words) ≡ true → are_widths (take (i + 1) words) ≡ true
  more_numbers all = rw (list_all_more (is_number 5) words i [] low, all, next.0, first.number) refl

  -- the widths of the words so far and of the next
  values : map (digits_value 10) (take (i + 1) words) ≡ map (digits_value 10) (take i words) ++ width ∷ []
  values = map_more (digits_value 10) words i [] low
      ∙ ap (λ n. map (digits_value 10) (take i words) ++ n ∷ []) (ap (digits_value 10) (next.0) ∙ sym first.value)

  -- the widths as they are kept, with the next
  pub more_widths : capped (map (digits_value 10) (take (i + 1) words)) ≡ capped (map (digits_value 10) (take i words)) ++ min 65535 width ∷ []
  more_widths = ap capped values ∙ map_push (min 65535) (map (digits_value 10) (take i words)) width

  -- there is a wide one if there was one before, or the next is wide
  pub more_wide : has_wide (map (digits_value 10) (take (i + 1) words)) ≡ has_wide (map (digits_value 10) (take i words)) || nat_lt 65535 width
  more_wide = ap has_wide values ∙ list_any-append (nat_lt 65535) (map (digits_value 10) (take i words)) (width ∷ [])
      ∙ ap (λ b. has_wide (map (digits_value 10) (take i words)) || b) (or-false (nat_lt 65535 width))

-- the widths of the first words were found, and the words after them are those of the text
pub record AreRead (words : List (List ℕ)) (text found : List ℕ) (is_wide : Bool) : Type 0 where
  pub rest : length found < length words → drop (length found) words ≡ words_of text
  pub numbers : are_widths (take (length found) words) ≡ true
  pub widths : found ≡ capped (map (digits_value 10) (take (length found) words))
  pub wide : is_wide ≡ has_wide (map (digits_value 10) (take (length found) words))

-- one word more is read
pub one_word_read : (words : List (List ℕ)) (n : ℕ) (text rest found : List ℕ) (is_wide : Bool) → length found < length words → AreRead words text found is_wide
    → IsFirstWidth text n rest
    → AreRead words rest (found ++ min 65535 n ∷ []) (is_wide || nat_lt 65535 n)
one_word_read words n text rest found is_wide low read first =
    let k = length found in
    let left = read.rest low in
    let next : length (found ++ min 65535 n ∷ []) ≡ k + 1 = length-append found (min 65535 n ∷ []) in
    record {
      rest = λ more. ap (λ j. drop j words) next ∙ rest_left words k n text rest low left first (omega (arith, next, more));
      numbers = ap (λ j. are_widths (take j words)) next ∙ more_numbers words k n text rest low left first read.numbers;
      widths =
          ap (λ t. t ++ min 65535 n ∷ []) read.widths ∙ sym (more_widths words k n text rest low left first)
          ∙ ap (λ j. capped (map (digits_value 10) (take j words))) (sym next);
      wide =
          ap (λ b. b || nat_lt 65535 n) read.wide ∙ sym (more_wide words k n text rest low left first)
          ∙ ap (λ j. has_wide (map (digits_value 10) (take j words))) (sym next);
    }

-- if the text begins with a digit before a space, one word more is read, and another is left
pub one_digit : (words : List (List ℕ)) (n : ℕ) (text rest found : List ℕ) (is_wide : Bool) → length found < length words → AreRead words text found is_wide
    → 2 ≤ length text → is_ascii_digit (get_or text 0 0) ≡ true → get_or text 1 0 ≡ 32 → n ≡ get_or text 0 0 - 48 → rest ≡ take (length text - 2) (drop 2 text)
    → (length found + 1 < length words) × AreRead words rest (found ++ n ∷ []) is_wide
one_digit words n text rest found is_wide low read some digit space is after =
    let digits = one_more_digit text 0 (omega arith) refl digit in
    let value : digits_value 10 (take 1 text) ≡ 0 + (get_or text 0 0 - 48) = one_more_value text 0 (omega arith) digit in
    let first : IsFirstWidth text n rest = next_width text rest 1 n after (omega arith) (omega arith) (omega arith) digits space (omega (arith, is, value)) in
    let range = digit_range (get_or text 0 0) digit in
    let small : n < 65535 = omega (arith, is, range.0, range.1) in
    let narrow : nat_lt 65535 n ≡ false = le-ltb 65535 n (omega (arith, small)) in
    let uncapped : min 65535 n ≡ n = omega (arith, small) in
    let words_left = ap length (read.rest low ∙ word_before_space text 1 (omega arith) digits space) in
    let one_at_least = length-slice_split (λ b. b == 32) (drop 2 text) in (
      omega (arith, words_left, one_at_least, length-drop (length found) words),
      subst (λ m. AreRead words rest (found ++ m ∷ []) is_wide) uncapped
          (subst (AreRead words rest (found ++ min 65535 n ∷ [])) (ap (λ b. is_wide || b) narrow ∙ or-false is_wide)
          (one_word_read words n text rest found is_wide low read first)),
    )

-- if the words that are left are no widths, the field has the fault `BadRuns`
pub bad_rest : (field : List ℕ) (i : ℕ) (rest : List ℕ) → drop i (words_of field) ≡ words_of rest → are_widths (words_of rest) ≡ false
    → field_fault field ≡ Some fault.BadRuns
bad_rest field i rest left none =
    let words = words_of field in
    let all : are_widths words ≡ false =
    ap are_widths (sym (take-append-drop i words)) ∙ list_all-append (is_number 5) (take i words) (drop i words)
    ∙ ap (λ t. are_widths (take i words) && are_widths t) left ∙ ap (λ b. are_widths (take i words) && b) none ∙ and_right (are_widths (take i words)) false refl in
    rw all refl
