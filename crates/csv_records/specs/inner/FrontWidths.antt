-- Widths at the front of a text, as `lanes/widths.rt` finds them, and widths as it keeps them.
use Rattle.std.specs.Prelude.{◌≡◌, ◌≢◌, ◌<◌, ◌+◌, ◌-◌, ◌*◌, get_or, map, min, nat_lt, ℕ, Bool, List, [], ◌∷◌, true, length}
use Rattle.std.specs.Char.{is_ascii_digit}
use Rattle.std.specs.List.{list_any}
use Rattle.std.specs.Str.Parse.{digits_value}
use Rattle.csv_records.specs.lanes.Widths.{is_number, words_of}

-- the first word of the text is one to five digits and shows this width; the words behind it, if there are any, are those of the rest
pub record IsFirstWidth (text : List ℕ) (width : ℕ) (rest : List ℕ) : Type 0 where
  pub word : List ℕ
  pub others : List (List ℕ)
  pub words : words_of text ≡ word ∷ others
  pub number : is_number 5 word ≡ true
  pub value : width ≡ digits_value 10 word
  pub after : others ≢ [] → others ≡ words_of rest

-- this width is a word of one digit before a space, if `i` such words stand before it
abbrev pub IsDigitWord : List ℕ → ℕ → ℕ → Type 0
IsDigitWord text i width = (is_ascii_digit (get_or text (2 * i) 0) ≡ true) × (get_or text (2 * i + 1) 0 ≡ 32) × (width ≡ get_or text (2 * i) 0 - 48)

-- the text begins with these widths, each a digit before a space
abbrev pub BeginsWithDigits : List ℕ → List ℕ → Type 0
BeginsWithDigits text widths = (i : ℕ) → i < length widths → IsDigitWord text i (get_or widths i 0)

-- widths as `read_widths` keeps them in a `u16` each: 65,535, its largest number, in place of a larger one
abbrev pub capped : List ℕ → List ℕ
capped widths = map (min 65535) widths

-- one of these widths is above 65,535
abbrev pub has_wide : List ℕ → Bool
has_wide widths = list_any (nat_lt 65535) widths
