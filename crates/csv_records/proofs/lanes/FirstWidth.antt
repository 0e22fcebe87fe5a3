-- The first word of a text, by its bytes: a width, or none.
use Rattle.std.proofs.Common.{◌&&◌, ◌+◌, ◌-◌, ◌*◌, ◌++◌, ◌<◌, ◌==◌, ◌≡◌, ◌≢◌, ◌≤◌, ◌⊎◌, ◌∙◌, ◌∷◌, List, [], ap, arith, drop, false, get_or, inl, inr, length, length-append, nat_le, refl, sym, take, true, ℕ}
use Rattle.std.specs.Char.{digit_value, is_ascii_digit}
use Rattle.std.specs.List.{All, list_all, onto_first}
use Rattle.std.specs.Str.Parse.{digits_value}
use Rattle.std.proofs.lemmas.Bool.{and_left, and_parts, and_right, cases_eq, le-leb, lt-leb, ne_eqb}
use Rattle.std.proofs.lemmas.Int.Digits.{digits_value_more}
use Rattle.std.proofs.lemmas.List.{drop_more, length-drop, length-take-le, take-append-drop, take_all}
use Rattle.std.proofs.lemmas.List.Elements.{All-weaker}
use Rattle.std.proofs.lemmas.List.Folds.{list_all-append, list_all_more}
use Rattle.std.proofs.lemmas.List.Splits.{slice_split-cons_no, slice_split_at, slice_split_none}
use Rattle.std.proofs.lemmas.List.Sums.{AllPass-from_list_all}
use Rattle.std.proofs.lemmas.Str.{digit_value_digit}
use Rattle.csv_records.specs.inner.FrontWidths.{IsFirstWidth}
use Rattle.csv_records.specs.lanes.Widths.{are_widths, is_number, words_of}
use Rattle.csv_records.proofs.Decimals.{digit_differs, digit_range, few_digits}

-- a digit is no space
pub no_space : (c : ℕ) → is_ascii_digit c ≡ true → (c == 32) ≡ false
no_space c digit = digit_differs c 32 digit refl

-- so digits have no space among them
pub no_spaces : (ds : List ℕ) → list_all is_ascii_digit ds ≡ true → All (λ b. (b == 32) ≡ false) ds
no_spaces ds all = All-weaker (λ b. is_ascii_digit b ≡ true) (λ b. (b == 32) ≡ false) no_space ds (AllPass-from_list_all is_ascii_digit ds all)

-- one to five digits are a number
pub digits_are_number : (word : List ℕ) → list_all is_ascii_digit word ≡ true → 0 < length word → length word ≤ 5 → is_number 5 word ≡ true
digits_are_number word all some few = rw (le-leb 1 (length word) some, le-leb (length word) 5 few, all) refl

-- a text is what stands before one of its bytes, this byte, and what stands behind it
split_at_byte : (text : List ℕ) (i : ℕ) → i < length text → text ≡ take i text ++ get_or text i 0 ∷ drop (i + 1) text
split_at_byte text i low = sym (take-append-drop i text) ∙ ap (λ t. take i text ++ t) (drop_more text i 0 low)

-- one to five digits and nothing else: their width is the first, and the last
pub last_width : (text rest : List ℕ) (n : ℕ) → list_all is_ascii_digit text ≡ true → 0 < length text → length text ≤ 5 → n ≡ digits_value 10 text
    → IsFirstWidth text n rest
last_width text rest n all some few is = record {
  word = text;
  others = [];
  words = slice_split_none (λ b. b == 32) text (no_spaces text all);
  number = digits_are_number text all some few;
  value = is;
  after = λ no_others. absurd (no_others refl);
}

-- if digits, maybe none, stand before a space, they are the first word
pub word_before_space : (text : List ℕ) (i : ℕ) → i < length text → list_all is_ascii_digit (take i text) ≡ true → get_or text i 0 ≡ 32
    → words_of text ≡ take i text ∷ words_of (drop (i + 1) text)
word_before_space text i low all space =
    ap words_of (split_at_byte text i low ∙ ap (λ b. take i text ++ b ∷ drop (i + 1) text) space)
    ∙ slice_split_at (λ b. b == 32) (take i text) 32 (drop (i + 1) text) (no_spaces (take i text) all) refl

-- one to five digits before a space: their width is the first
pub next_width : (text rest : List ℕ) (i n : ℕ) → rest ≡ take (length text - (i + 1)) (drop (i + 1) text) → i < length text → 0 < i → i ≤ 5
    → list_all is_ascii_digit (take i text) ≡ true → get_or text i 0 ≡ 32 → n ≡ digits_value 10 (take i text)
    → IsFirstWidth text n rest
next_width text rest i n after low some few all space is =
    let long = length-take-le i text (omega arith) in
    record {
      word = take i text;
      others = words_of (drop (i + 1) text);
      words = word_before_space text i low all space;
      number = digits_are_number (take i text) all (omega (arith, long)) (omega (arith, long));
      value = is;
      after = λ _. ap words_of (sym (after ∙ take_all (length text - (i + 1)) (drop (i + 1) text) (omega (arith, length-drop (i + 1) text))));
    }

-- digits at the front of a text belong to its first word
front_word : (ds ys word : List ℕ) (words : List (List ℕ)) → list_all is_ascii_digit ds ≡ true → words_of ys ≡ word ∷ words → words_of (ds ++ ys)
    ≡ (ds ++ word) ∷ words
front_word [] ys word words all is = is
front_word (d ∷ ds) ys word words all is =
    let parts = and_parts (is_ascii_digit d) (list_all is_ascii_digit ds) all in
    slice_split-cons_no (λ b. b == 32) d (ds ++ ys) (no_space d parts.0) ∙ ap (onto_first d) (front_word ds ys word words parts.1 is)

-- a byte at the front of words begins the first word, or is a word alone if there is none
first_with_byte : (b : ℕ) (words : List (List ℕ)) → (word : List ℕ) × (others : List (List ℕ)) × (onto_first b words ≡ (b ∷ word) ∷ others)
first_with_byte b [] = ([], [], refl)
first_with_byte b (word ∷ others) = (word, others, refl)

-- if no number begins with digits and the byte behind them, which is no space, the words are no widths
bad_word : (ds : List ℕ) (b : ℕ) (rest : List ℕ) → list_all is_ascii_digit ds ≡ true → b ≢ 32 → ((word : List ℕ) → is_number 5 (ds ++ b ∷ word) ≡ false)
    → are_widths (words_of (ds ++ b ∷ rest)) ≡ false
bad_word ds b rest all other none =
    let first = first_with_byte b (words_of rest) in
    let words : words_of (ds ++ b ∷ rest) ≡ (ds ++ b ∷ first.0) ∷ first.1 =
    front_word ds (b ∷ rest) (b ∷ first.0) first.1 all (slice_split-cons_no (λ c. c == 32) b rest (ne_eqb b 32 other) ∙ first.2) in
    rw (words, none first.0) refl

-- no number has a byte that is no digit
not_with_other : (ds : List ℕ) (b : ℕ) (word : List ℕ) → is_ascii_digit b ≡ false → is_number 5 (ds ++ b ∷ word) ≡ false
not_with_other ds b word other =
    let all : list_all is_ascii_digit (ds ++ b ∷ word) ≡ false =
    list_all-append is_ascii_digit ds (b ∷ word)
    ∙ and_right (list_all is_ascii_digit ds) (list_all is_ascii_digit (b ∷ word)) (and_left (is_ascii_digit b) (list_all is_ascii_digit word) other) in
    let few = nat_le (length (ds ++ b ∷ word)) 5 in
    and_right (nat_le 1 (length (ds ++ b ∷ word))) (few && list_all is_ascii_digit (ds ++ b ∷ word)) (and_right few (list_all is_ascii_digit (ds ++ b ∷ word)) all)

-- no number of at most five digits has a sixth byte
not_with_sixth : (ds : List ℕ) (b : ℕ) (word : List ℕ) → length ds ≡ 5 → is_number 5 (ds ++ b ∷ word) ≡ false
not_with_sixth ds b word five =
    let long : 5 < length (ds ++ b ∷ word) = omega (arith, five, length-append ds (b ∷ word)) in
    let few = nat_le (length (ds ++ b ∷ word)) 5 in
    and_right (nat_le 1 (length (ds ++ b ∷ word))) (few && list_all is_ascii_digit (ds ++ b ∷ word))
    (and_left few (list_all is_ascii_digit (ds ++ b ∷ word)) (lt-leb (length (ds ++ b ∷ word)) 5 long))

-- a text shows no widths if a byte behind its first digits is a sixth or no digit, and is no space that ends a word
pub no_width : (text : List ℕ) (i : ℕ) → i < length text → list_all is_ascii_digit (take i text) ≡ true → (get_or text i 0 ≡ 32 → 0 < i → ⊥)
    → (i ≡ 5) ⊎ (is_ascii_digit (get_or text i 0) ≡ false) → are_widths (words_of text) ≡ false
no_width text i low all unended why =
    let b = get_or text i 0 in
    elim (cases_eq b 32) [
      | inl space ↦
          let start : i ≡ 0 = omega (arith, unended space) in
          ap (λ t. are_widths (words_of t)) (split_at_byte text i low ∙ ap (λ c. take i text ++ c ∷ drop (i + 1) text) space
          ∙ ap (λ k. take k text ++ 32 ∷ drop (k + 1) text) start)
      | inr other ↦
          ap (λ t. are_widths (words_of t)) (split_at_byte text i low)
          ∙ bad_word (take i text) b (drop (i + 1) text) all other (λ word. elim why [
            | inl five ↦ not_with_sixth (take i text) b word (length-take-le i text (omega arith) ∙ five)
            | inr no_digit_is ↦ not_with_other (take i text) b word no_digit_is
          ])
    ]

-- the number of at most five digits at the front of a text
pub front_small : (text : List ℕ) (i n : ℕ) → list_all is_ascii_digit (take i text) ≡ true → i ≤ 5 → i ≤ length text → n ≡ digits_value 10 (take i text)
    → n < 100000
front_small text i n all few low is =
    let less = few_digits (take i text) all (omega (arith, length-take-le i text low)) in
    omega (arith, less, is)

-- if the byte behind some digits is a digit, there is one more
pub one_more_digit : (text : List ℕ) (i : ℕ) → i < length text → list_all is_ascii_digit (take i text) ≡ true → is_ascii_digit (get_or text i 0) ≡ true
    → list_all is_ascii_digit (take (i + 1) text) ≡ true
one_more_digit text i low all digit = rw (list_all_more is_ascii_digit text i 0 low, all, digit) refl

-- with one more digit the number is ten times as large, plus the digit
pub one_more_value : (text : List ℕ) (i : ℕ) → i < length text → is_ascii_digit (get_or text i 0) ≡ true
    → digits_value 10 (take (i + 1) text) ≡ digits_value 10 (take i text) * 10 + (get_or text i 0 - 48)
one_more_value text i low digit =
    let range = digit_range (get_or text i 0) digit in
    let shows : digit_value (get_or text i 0) ≡ get_or text i 0 - 48 = omega (arith, digit_value_digit (get_or text i 0) range) in
    rw (← shows) (digits_value_more 10 text i low)
