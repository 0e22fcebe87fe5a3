-- A field of widths begins as no message does: the law `messages_are_no_rows`.
use Rattle.std.proofs.Common.{◌≡◌, ◌<◌, ◌≤◌, ◌+◌, ◌&&◌, ◌||◌, ◌==◌, ◌∙◌, ◌∷◌, ⊎_elim, Bool, List, Some, [], ap, arith, cond, false, get_or, length, nat_le, nat_lt, not, refl, sym, take, true, ℕ}
use Rattle.std.specs.Prelude.{codes}
use Rattle.std.specs.Char.{is_ascii_digit, to_ascii_lowercase}
use Rattle.std.specs.List.{after_first, before_first, list_all, position_or_len, slice_split}
use Rattle.std.proofs.lemmas.Bool.{and_left, and_parts, and_right, both_ways, cases_lt, cond-false, cond-true, eqb-true, false_from_ne_true, leb-true, lt-leb, lt-ltb, or_from}
use Rattle.std.proofs.lemmas.List.{get_or-take, length-take-le, take_all}
use Rattle.std.proofs.lemmas.List.Elements.{All-get_or}
use Rattle.std.proofs.lemmas.List.Folds.{list_all_at}
use Rattle.std.proofs.lemmas.List.Splits.{slice_split_first}
use Rattle.std.proofs.lemmas.List.Sums.{AllPass-from_list_all, passes_at_first, prefix_len-le-length}
use Rattle.message_core.specs.Heads.{begins_bracketed, begins_separated, begins_with_eight, is_message}
use Rattle.message_core.specs.Links.{begins_any_case, begins_http, begins_https, begins_link}
use Rattle.message_core.proofs.TextsCutAtByte.{whole}
use Rattle.csv_records.specs.Laws.{MessagesAreNoRows}
use Rattle.csv_records.specs.lanes.Widths.{are_widths, is_number, words_of}
use Rattle.csv_records.specs.declared.input.fault.RecordFault.TheVariants as fault
use Rattle.csv_records.proofs.Decimals.{digit_differs, digit_range}

-- the test by which `words_of` parts a field
abbrev is_space : ℕ → Bool
is_space b = b == 32

-- ---- the first word of a field

-- the first part of a text ends before the first byte that passes the test
first_part_is : (p : ℕ → Bool) (xs : List ℕ) → (rest : List (List ℕ)) × (slice_split p xs ≡ before_first p xs ∷ rest)
first_part_is p xs = ⊎_elim
    (λ (low : position_or_len p xs < length xs). (slice_split p (after_first p xs), slice_split_first p xs 0 low))
    (λ (past : length xs ≤ position_or_len p xs). ([], whole p xs past ∙ ap (λ ys. ys ∷ []) (sym (take_all (position_or_len p xs) xs past))))
    (cases_lt (position_or_len p xs) (length xs))

-- the first word of a field of widths is a number of at most five digits
first_word : (field : List ℕ) → are_widths (words_of field) ≡ true → is_number 5 (before_first is_space field) ≡ true
first_word field are =
    let f = first_part_is is_space field in
    (and_parts (is_number 5 (before_first is_space field)) (are_widths f.0) (sym (ap are_widths f.1) ∙ are)).0

-- ---- a field of widths begins as no message does

-- a digit has no lower case: it stays as it is
same_case : (a : ℕ) → is_ascii_digit a ≡ true → to_ascii_lowercase a ≡ a
same_case a is =
    let few = (digit_range a is).1 in
    cond-true (nat_lt a 65) a (cond (nat_lt a 91) (a + 32) a) (lt-ltb a 65 (omega (arith, few)))

-- if the first byte of a text, in lower case, is not the first letter of a scheme, the text does not begin with the scheme
other_scheme : (first : ℕ) (small : List ℕ) (a : ℕ) (t : List ℕ) → (to_ascii_lowercase a == first) ≡ false → begins_any_case (first ∷ small) (a ∷ t) ≡ false
other_scheme first small a t differs = and_left (to_ascii_lowercase a == first) (begins_any_case small t) differs

-- a text that begins with a digit is no link: links begin with an `h` (104) in either case
no_link_by : (a : ℕ) (t : List ℕ) → is_ascii_digit a ≡ true → begins_link (a ∷ t) ≡ false
no_link_by a t is =
    let differs : (to_ascii_lowercase a == 104) ≡ false = ap (λ n. n == 104) (same_case a is) ∙ digit_differs a 104 is refl in
    or_from (begins_http (a ∷ t)) (begins_https (a ∷ t)) (other_scheme 104 (codes "ttp://") a t differs) (other_scheme 104 (codes "ttps://") a t differs)

-- a text that begins with a digit, but not with eight, is no message: a message begins with `]` (93), a separator (29, or 94 for `^`), eight digits or a link
not_message_by : (a : ℕ) (t : List ℕ) → is_ascii_digit a ≡ true → begins_with_eight (a ∷ t) ≡ false → is_message (a ∷ t) ≡ false
not_message_by a t is no_eight_digits =
    let text = a ∷ t in
    or_from (begins_bracketed text) (begins_separated text || (begins_with_eight text || begins_link text)) (digit_differs a 93 is refl)
    (or_from (begins_separated text) (begins_with_eight text || begins_link text) (or_from (a == 29) (a == 94) (digit_differs a 29 is refl) (digit_differs a 94 is refl))
    (or_from (begins_with_eight text) (begins_link text) no_eight_digits (no_link_by a t is)))

-- a text whose first word has at most five bytes does not begin with eight digits: it is shorter, or has a space among them
no_eight : (xs : List ℕ) → position_or_len is_space xs ≤ 5 → begins_with_eight xs ≡ false
no_eight xs few =
    let k = position_or_len is_space xs in
    ⊎_elim
    (λ (short : length xs < 8). ap (λ b. b && list_all is_ascii_digit (take 8 xs)) (lt-leb 8 (length xs) short))
    (λ (long : 8 ≤ length xs). and_right (nat_le 8 (length xs)) (list_all is_ascii_digit (take 8 xs))
    (list_all_at is_ascii_digit (take 8 xs) k 0 (omega (arith, few, length-take-le 8 xs long))
    (ap is_ascii_digit (get_or-take 8 xs k 0 (omega (arith, few))
    ∙ eqb-true (get_or xs k 0) 32 (passes_at_first is_space xs 0 (omega (arith, few, long)))))))
    (cases_lt (length xs) 8)

-- a text that has digits alone in its first `k` bytes, and one at least, begins with a digit
first_is_digit : (xs : List ℕ) (k : ℕ) → k ≤ length xs → 0 < k → list_all is_ascii_digit (take k xs) ≡ true → is_ascii_digit (get_or xs 0 0) ≡ true
first_is_digit xs k low some all =
    ap is_ascii_digit (sym (get_or-take k xs 0 0 some))
    ∙ All-get_or (λ b. is_ascii_digit b ≡ true) (take k xs) 0 0 (omega (arith, some, length-take-le k xs low)) (AllPass-from_list_all is_ascii_digit (take k xs) all)

-- a field of widths is no message
widths_no_message : (field : List ℕ) → are_widths (words_of field) ≡ true → is_message field ≡ false
widths_no_message [] are = refl
widths_no_message (a ∷ t) are =
    let xs = a ∷ t in
    let k = position_or_len is_space xs in
    let w = before_first is_space xs in
    let low : k ≤ length xs = prefix_len-le-length (λ x. not (is_space x)) xs in
    let size : length w ≡ k = length-take-le k xs low in
    let some = and_parts (nat_le 1 (length w)) (nat_le (length w) 5 && list_all is_ascii_digit w) (first_word xs are) in
    let few = and_parts (nat_le (length w) 5) (list_all is_ascii_digit w) some.1 in
    let one : 1 ≤ length w = leb-true 1 (length w) some.0 in
    let five : length w ≤ 5 = leb-true (length w) 5 few.0 in
    not_message_by a t (first_is_digit xs k low (omega (arith, one, size)) few.1) (no_eight xs (omega (arith, five, size)))

-- ---- so no message is a row

pub messages_are_no_rows : MessagesAreNoRows
messages_are_no_rows text is =
    cond-false (are_widths (words_of text)) _ (Some fault.BadRuns)
    (false_from_ne_true (are_widths (words_of text)) (λ are. both_ways (is_message text) (widths_no_message text are) is))
