-- The characters of Code 128 that ends show: each is nearer to its pattern than to every other.
use Rattle.std.specs.Prelude.{◌≡◌, ◌≢◌, ℕ, ◌+◌, ◌-◌, ◌*◌, ◌/◌, ◌<◌, ◌≤◌, ◌++◌, List, [], ◌∷◌, length, slice_index_or}
use Rattle.std.specs.Int.{abs_diff}
use Rattle.code128_code.specs.Characters.{patterns}
use Rattle.line_core.specs.Digits.{square}
use Rattle.line_core.specs.Ends.{at}
use Rattle.line_core.specs.declared.codes.Five.{Five}

-- the widths of the characters, and of the first six runs of the stop character
abbrev pub code_patterns : List (List ℕ)
code_patterns = patterns ++ (2 ∷ 3 ∷ 3 ∷ 1 ∷ 1 ∷ 1 ∷ []) ∷ []

abbrev pub code_pattern : ℕ → List ℕ
code_pattern value = slice_index_or code_patterns value []

-- a distance in 1/48 module, where so much is eleven modules
abbrev pub code_place : ℕ → ℕ → ℕ
code_place distance eleven = (distance * 528 + eleven / 2) / eleven

-- the five inner ends of a character that begins at an end, on its own scale
abbrev pub five_at : List ℕ → ℕ → Five
five_at ends first = record {
  one = code_place (at ends (first + 1) - at ends first) (at ends (first + 6) - at ends first);
  two = code_place (at ends (first + 2) - at ends first) (at ends (first + 6) - at ends first);
  three = code_place (at ends (first + 3) - at ends first) (at ends (first + 6) - at ends first);
  four = code_place (at ends (first + 4) - at ends first) (at ends (first + 6) - at ends first);
  five = code_place (at ends (first + 5) - at ends first) (at ends (first + 6) - at ends first);
}

-- how far inner ends are from those of a character that is so wide: the squares of what is missing; bars end as many 48ths of a module farther as `ink` is more
-- than 64
unfoldable pub code_misfit : Five → ℕ → ℕ → ℕ → ℕ → ℕ → ℕ → ℕ
code_misfit seen ink one two three four five =
    square (abs_diff (seen.one + 64) (48 * one + ink))
    + square (abs_diff seen.two (48 * (one + two)))
    + square (abs_diff (seen.three + 64) (48 * (one + two + three) + ink))
    + square (abs_diff seen.four (48 * (one + two + three + four)))
    + square (abs_diff (seen.five + 64) (48 * (one + two + three + four + five) + ink))

abbrev pub code_misfit_of : Five → ℕ → List ℕ → ℕ
code_misfit_of seen ink widths = code_misfit seen ink (at widths 0) (at widths 1) (at widths 2) (at widths 3) (at widths 4)

-- inner ends are those of this character more than of any other, and near enough: one end alone is away by 32/48 module at most
pub record IsNearestCode (seen : Five) (ink value : ℕ) : Type 0 where
  pub within : value < 107
  pub near : code_misfit_of seen ink (code_pattern value) ≤ 1024
  pub nearest : (other : ℕ) → other < 107 → other ≢ value → code_misfit_of seen ink (code_pattern value) < code_misfit_of seen ink (code_pattern other)

-- six widths, in 1/48 module, are those of a character
pub record AreCodeWidths (widths : List ℕ) (first value : ℕ) : Type 0 where
  pub each : (run : ℕ) → run < 6 → at widths (first + run) ≡ 48 * at (code_pattern value) run

-- the ends from one on show the character that the widths mean; their first is that of the quiet zone
pub record IsCodeAt (ends widths : List ℕ) (ink first : ℕ) : Type 0 where
  pub value : ℕ
  pub said : AreCodeWidths widths (first + 1) value
  pub nearest : IsNearestCode (five_at ends first) ink value

-- the ends show this many characters from the first end on, with one ink
pub record ShowsCodes (ends widths : List ℕ) (count : ℕ) : Type 0 where
  pub ink : ℕ
  pub within : 6 * count < length ends
  pub each : (number : ℕ) → number < count → IsCodeAt ends widths ink (6 * number)
