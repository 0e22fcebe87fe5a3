-- A line by its first comma: a field of widths has no comma, so a second comma is too many (for `read_line`).
use Rattle.std.proofs.Common.{◌≡◌, ◌+◌, ◌<◌, ◌&&◌, ◌==◌, ◌∙◌, ◌∷◌, All, Bool, Err, List, None, Ok, Option, Some, [], ap, arith, cond, drop, false, if◌then◌else◌, length, nat_le, refl, sym, take, true, ℕ}
use Rattle.std.specs.Char.{is_ascii_digit}
use Rattle.std.specs.List.{list_all, onto_first}
use Rattle.std.specs.Str.Parse.{digits_value}
use Rattle.std.proofs.lemmas.Bool.{and_from, and_parts, eqb-true}
use Rattle.std.proofs.lemmas.List.Elements.{All-cons, All-nil}
use Rattle.std.proofs.lemmas.List.Splits.{length-slice_split, slice_split_none}
use Rattle.memchr.specs.Find.{IsFirstByte, is_byte}
use Rattle.command_runs.specs.live.Text.{fields_in, is_comma}
use Rattle.command_runs.proofs.live.LineMeanings.{first_field, only_field, row_of_fields}
use Rattle.csv_records.proofs.Decimals.{digit_differs}
use Rattle.csv_records.specs.lanes.Feeds.{LaneRow, is_lane, lane_row}
use Rattle.csv_records.specs.lanes.Widths.{are_widths, field_fault, is_number, of_runs, widths_in, words_of}
use Rattle.csv_records.specs.declared.input.fault.RecordFault.{RecordFault}
use Rattle.csv_records.specs.declared.input.fault.RecordFault.TheVariants as fault
use Rattle.scan_core.specs.Row.{runs_fault}

-- each byte of the words is a digit
abbrev are_digit_words : List (List ℕ) → Bool
are_digit_words words = list_all (list_all is_ascii_digit) words

-- those of widths are: a width has at most five digits
word_digits : (word : List ℕ) → is_number 5 word ≡ true → list_all is_ascii_digit word ≡ true
word_digits word is =
    let some = and_parts (nat_le 1 (length word)) (nat_le (length word) 5 && list_all is_ascii_digit word) is in
    (and_parts (nat_le (length word) 5) (list_all is_ascii_digit word) some.1).1

widths_are_digits : (words : List (List ℕ)) → are_widths words ≡ true → are_digit_words words ≡ true
widths_are_digits [] is = refl
widths_are_digits (word ∷ words) is =
    let both = and_parts (is_number 5 word) (are_widths words) is in
    and_from (list_all is_ascii_digit word) (are_digit_words words) (word_digits word both.0) (widths_are_digits words both.1)

-- a byte at the front of the first word
first_digits : (b : ℕ) (words : List (List ℕ)) → are_digit_words (onto_first b words) ≡ true → (is_ascii_digit b ≡ true) × (are_digit_words words ≡ true)
first_digits b [] is = ((and_parts (is_ascii_digit b) true (and_parts (is_ascii_digit b && true) true is).0).0, refl)
first_digits b (word ∷ words) is =
    let both = and_parts (is_ascii_digit b && list_all is_ascii_digit word) (are_digit_words words) is in
    let first = and_parts (is_ascii_digit b) (list_all is_ascii_digit word) both.0 in
    (first.0, and_from (list_all is_ascii_digit word) (are_digit_words words) first.1 both.1)

-- a byte before words is a space, 32, or begins the first of them: it is no comma, 44
byte_before_words : (b : ℕ) (words : List (List ℕ)) (is_space : Bool) → (b == 32) ≡ is_space
    → are_digit_words (cond is_space ([] ∷ words) (onto_first b words)) ≡ true → ((b == 44) ≡ false) × (are_digit_words words ≡ true)
byte_before_words b words true e is = (ap (λ n. n == 44) (eqb-true b 32 e), is)
byte_before_words b words false e is = let first = first_digits b words is in (digit_differs b 44 first.0 refl, first.1)

-- so a field whose words are digits has no comma
no_commas : (field : List ℕ) → are_digit_words (words_of field) ≡ true → All (λ b. is_comma b ≡ false) field
no_commas [] is = All-nil (λ b. is_comma b ≡ false)
no_commas (b ∷ field) is =
    let first = byte_before_words b (words_of field) (b == 32) refl is in
    All-cons (λ b. is_comma b ≡ false) b field first.0 (no_commas field first.1)

-- b is whether the words are widths
widths_if : (b : Bool) (x : Option RecordFault) → (if b then x else Some fault.BadRuns) ≡ None → b ≡ true
widths_if true x is = refl
widths_if false x is = cc is

-- widths are one field
one_field : (field : List ℕ) → field_fault field ≡ None → fields_in field ≡ field ∷ []
one_field field none =
    slice_split_none is_comma field
    (no_commas field (widths_are_digits (words_of field) (widths_if (are_widths (words_of field)) (of_runs (runs_fault (widths_in field))) none)))

-- ---- a line by what stands before and behind its first comma

module _ (lanes : ℕ) (line first second : List ℕ) (cut : fields_in line ≡ first ∷ fields_in second) where
  -- a row stands before and behind it
  pub row_of_line : (row : LaneRow) → Ok row ≡ lane_row lanes (first ∷ second ∷ []) → Ok row ≡ lane_row lanes (fields_in line)
  row_of_line row is =
      let none = (row_of_fields (is_lane lanes first) (field_fault second) row (digits_value 10 first, widths_in second) is).1 in
      is ∙ ap (lane_row lanes) (ap (λ fs. first ∷ fs) (sym (one_field second none)) ∙ sym cut)

  -- with a second one it has more fields than two
  pub many_fields : (k : ℕ) → IsFirstByte (is_byte 44) second (Some k) → Err fault.Csv ≡ lane_row lanes (fields_in line)
  many_fields k found =
      let rest = drop (k + 1) second in
      csv (take k second) (fields_in rest) (omega (arith, length-slice_split is_comma rest)) ∙ ap (lane_row lanes) (ap (λ fs. first ∷ fs) (sym (first_field second k found).1) ∙ sym cut)
    where
      csv : (a : List ℕ) (fs : List (List ℕ)) → 0 < length fs → Err fault.Csv ≡ lane_row lanes (first ∷ a ∷ fs)
      csv a [] some = absurd (omega (arith, some))
      csv a (b ∷ fs) some = refl

  -- without one it has two
  pub no_more_fields : (f : RecordFault) → IsFirstByte (is_byte 44) second None → Err f ≡ lane_row lanes (first ∷ second ∷ [])
      → Err f ≡ lane_row lanes (fields_in line)
  no_more_fields f none is = is ∙ ap (lane_row lanes) (ap (λ fs. first ∷ fs) (sym (only_field second none).0) ∙ sym cut)
