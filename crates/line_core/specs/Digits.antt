-- The digits of EAN and UPC that ends show: each is nearer to its pattern than to every other.
use Rattle.std.specs.Prelude.{◌≡◌, ◌≢◌, ℕ, ◌+◌, ◌-◌, ◌*◌, ◌/◌, ◌<◌, ◌≤◌, ◌++◌, List, [], length, slice_index_or}
use Rattle.std.specs.Int.{abs_diff}
use Rattle.ean_code.specs.NumberSets.{set_a, set_b}
use Rattle.line_core.specs.Ends.{at}
use Rattle.line_core.specs.declared.digits.Inner.{Inner}

-- the widths of the digits in number sets A and B, which are also those of a digit from its other side
abbrev pub digit_patterns : List (List ℕ)
digit_patterns = set_a ++ set_b

abbrev pub digit_pattern : ℕ → List ℕ
digit_pattern character = slice_index_or digit_patterns character []

-- a distance in 1/48 module, where so much is seven modules
abbrev pub digit_place : ℕ → ℕ → ℕ
digit_place distance seven = (distance * 336 + seven / 2) / seven

-- the three inner ends of a digit that begins at an end, on its own scale
abbrev pub inner_at : List ℕ → ℕ → Inner
inner_at ends first = record {
  one = digit_place (at ends (first + 1) - at ends first) (at ends (first + 4) - at ends first);
  two = digit_place (at ends (first + 2) - at ends first) (at ends (first + 4) - at ends first);
  three = digit_place (at ends (first + 3) - at ends first) (at ends (first + 4) - at ends first);
}

abbrev pub square : ℕ → ℕ
square n = n * n

-- how far inner ends are from those of a digit that is so wide: 32 times the square of what is missing between the first end and the third, 16 times that between the
-- second and the fourth (these are like ends, which ink does not move), and 9 times that of the sum of the second and the fourth, which ink moves: bars are
-- too wide by as many 96ths of a module as `ink` is more than 64, or less
unfoldable pub misfit : Inner → ℕ → ℕ → ℕ → ℕ → ℕ
misfit seen ink one two three =
    32 * square (abs_diff seen.two (48 * (one + two)))
    + 16 * square (abs_diff (seen.three + 48 * one) (seen.one + 48 * (one + two + three)))
    + 9 * square (abs_diff (seen.one + seen.three + ink) (48 * one + 48 * (one + two + three) + 64))

abbrev pub misfit_of : Inner → ℕ → List ℕ → ℕ
misfit_of seen ink widths = misfit seen ink (at widths 0) (at widths 1) (at widths 2)

-- inner ends are those of this digit more than of any other, and near enough: the third end alone is away by 28/48 module at most
pub record IsNearest (seen : Inner) (ink character : ℕ) : Type 0 where
  pub within : character < 20
  pub near : misfit_of seen ink (digit_pattern character) ≤ 25600
  pub nearest : (other : ℕ) → other < 20 → other ≢ character → misfit_of seen ink (digit_pattern character) < misfit_of seen ink (digit_pattern other)

-- four widths, in 1/48 module, are those of a digit
pub record AreWidthsOf (widths : List ℕ) (first character : ℕ) : Type 0 where
  pub each : (run : ℕ) → run < 4 → at widths (first + run) ≡ 48 * at (digit_pattern character) run

-- the ends from one on show the digit that the widths mean; their first is that of the quiet zone
pub record ShowsDigitAt (ends widths : List ℕ) (ink first : ℕ) : Type 0 where
  pub character : ℕ
  pub said : AreWidthsOf widths (first + 1) character
  pub nearest : IsNearest (inner_at ends first) ink character

-- the ends show this many digits, with one ink
pub record ShowsDigits (ends widths : List ℕ) (first count : ℕ) : Type 0 where
  pub ink : ℕ
  pub within : first + 4 * count < length ends
  pub each : (number : ℕ) → number < count → ShowsDigitAt ends widths ink (first + 4 * number)
