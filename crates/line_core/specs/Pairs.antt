-- The digits of ITF-14 that ends show: each is nearer to its elements than to those of every other.
use Rattle.std.specs.Prelude.{◌≡◌, ◌≢◌, ℕ, ◌+◌, ◌-◌, ◌*◌, ◌/◌, ◌<◌, ◌≤◌, List, length, nat_eq, if◌then◌else◌}
use Rattle.std.specs.Int.{abs_diff}
use Rattle.ean_code.specs.TwoOfFive.{five_widths}
use Rattle.line_core.specs.Digits.{square}
use Rattle.line_core.specs.Ends.{at}
use Rattle.line_core.specs.declared.codes.Five.{Five}

-- a width in 1/48 of a mean module, where a pair of digits is so wide, which has 17
abbrev pub element_width : ℕ → ℕ → ℕ
element_width distance pair = (distance * 816 + pair / 2) / pair

-- the elements of one colour, bars (0) or spaces (1), of the pair that begins at an end
abbrev pub element_at : List ℕ → ℕ → ℕ → ℕ → ℕ
element_at ends first colour number =
    element_width (at ends (first + 2 * number + colour + 1) - at ends (first + 2 * number + colour)) (at ends (first + 10) - at ends first)

abbrev pub five_elements_at : List ℕ → ℕ → ℕ → Five
five_elements_at ends first colour = record {
  one = element_at ends first colour 0;
  two = element_at ends first colour 1;
  three = element_at ends first colour 2;
  four = element_at ends first colour 3;
  five = element_at ends first colour 4;
}

-- how wide an element is: narrow ones are all so wide, and wide ones so
abbrev pub element : ℕ → ℕ → ℕ → ℕ
element narrow wide modules = if nat_eq modules 1 then narrow else wide

-- how far elements are from those of a digit
unfoldable pub pair_misfit : Five → ℕ → ℕ → List ℕ → ℕ
pair_misfit seen narrow wide modules =
    square (abs_diff seen.one (element narrow wide (at modules 0)))
    + square (abs_diff seen.two (element narrow wide (at modules 1)))
    + square (abs_diff seen.three (element narrow wide (at modules 2)))
    + square (abs_diff seen.four (element narrow wide (at modules 3)))
    + square (abs_diff seen.five (element narrow wide (at modules 4)))

-- elements are those of this digit more than of any other, and near enough: one alone is away by 36/48 module at most
pub record IsNearestFive (seen : Five) (narrow wide digit : ℕ) : Type 0 where
  pub within : digit < 10
  pub near : pair_misfit seen narrow wide (five_widths digit) ≤ 1296
  pub nearest : (other : ℕ) → other < 10 → other ≢ digit → pair_misfit seen narrow wide (five_widths digit) < pair_misfit seen narrow wide (five_widths other)

-- five widths of one colour, from a run on, in 1/48 module, are those of a digit
pub record AreFiveWidths (widths : List ℕ) (first digit : ℕ) : Type 0 where
  pub each : (number : ℕ) → number < 5 → at widths (first + 2 * number) ≡ 48 * at (five_widths digit) number

-- the pair that begins at an end shows, in one colour, the digit that the widths mean; their first is that of the quiet zone
pub record IsFiveAt (ends widths : List ℕ) (narrow wide colour first : ℕ) : Type 0 where
  pub digit : ℕ
  pub said : AreFiveWidths widths (first + 1 + colour) digit
  pub nearest : IsNearestFive (five_elements_at ends first colour) narrow wide digit

-- so is each of the seven digits of a colour, whose narrow elements are all so wide, and whose wide ones so
pub record ShowsFives (ends widths : List ℕ) (colour : ℕ) : Type 0 where
  pub narrow : ℕ
  pub wide : ℕ
  pub within : 74 < length ends
  pub each : (number : ℕ) → number < 7 → IsFiveAt ends widths narrow wide colour (4 + 10 * number)
