-- Samples of lines that are laid through a picture: linear across the picture's rows, cubic along them (Keys).
use Rattle.std.specs.Prelude.{◌≡◌, ◌⊎◌, ℕ, zero, suc, ◌+◌, ◌-◌, ◌*◌, ◌/◌, ◌%◌, ◌<◌, ◌≤◌, Bool, true, false, List, length, min, slice_index_or}
use Rattle.picture_core.specs.Lines.{down_at, grey_at, mix, right_at}
use Rattle.picture_core.specs.Pictures.{Greys}
use Rattle.picture_core.specs.declared.seen_line.Sampling.{Sampling}
use Rattle.picture_core.specs.declared.seen_line.Sampling.TheVariants.{Dots, Halves}
use Rattle.picture_core.specs.declared.seen_line.SeenLine.{SeenLine}

-- ---- the value at a place

-- how much the dot before a place and the one behind it count, of 2 ^ 25, if it is this many 256ths of the way from one to the other
abbrev pub weight_before : ℕ → ℕ
weight_before part = 33554432 + 3 * (part * part * part) - 1280 * (part * part)

abbrev pub weight_behind : ℕ → ℕ
weight_behind part = 65536 * part + 1024 * (part * part) - 3 * (part * part * part)

-- by how much the two beside them make it less
abbrev pub less_by : ℕ → ℕ → ℕ → ℕ
less_by one four part = part * (256 - part) * ((256 - part) * one + part * four)

-- the place, in 1/65536 dot from the middle of the first of so many dots, that is nearest to one from the corner of the picture
abbrev pub inside : ℕ → ℕ → ℕ
inside dots place = min (place - 32768) (65536 * (dots - 1))

-- 256 times the value of a column, this many 256ths of the way from a row down to the next; beyond its edge a picture goes on as it is there
abbrev pub mixed_at : Greys → ℕ → ℕ → ℕ → ℕ
mixed_at picture column row down = mix (grey_at picture column row) (grey_at picture column (min (row + 1) (picture.height - 1))) down

-- a place, in 1/65536 dot from the corner of the picture, is in it
pub record IsInPicture (picture : Greys) (x y : ℕ) : Type 0 where
  pub across : x / 65536 < picture.width
  pub down : y / 65536 < picture.height

-- the value at a part of a dot to the right and down of the middle of one, in 1/256 grey value, and 64 grey values more, so that it is never below 0
unfoldable pub cubic_beside : Greys → ℕ → ℕ → ℕ → ℕ → ℕ
cubic_beside picture column row right down =
    (weight_before right * mixed_at picture column row down
    + weight_behind right * mixed_at picture (min (column + 1) (picture.width - 1)) row down
    + 549755813888
    - less_by (mixed_at picture (column - 1) row down) (mixed_at picture (min (column + 2) (picture.width - 1)) row down) right)
    / 33554432

-- the value at a place
abbrev pub cubic_at : Greys → ℕ → ℕ → ℕ
cubic_at picture x y =
    cubic_beside picture (inside picture.width x / 65536) (inside picture.height y / 65536) (inside picture.width x / 256 % 256)
    (inside picture.height y / 256 % 256)

-- ---- samples of lines

-- how many samples this many dots have, and their distance, in 1/256 dot
abbrev pub samples_in : Sampling → ℕ → ℕ
samples_in Dots dots = dots
samples_in Halves dots = 2 * dots - 1

abbrev pub step_of : Sampling → ℕ
step_of Dots = 256
step_of Halves = 128

-- where a sample stands, by the places of dots: at one, or half way between two
abbrev pub place_of : Sampling → (ℕ → ℕ) → ℕ → ℕ
place_of Dots place sample = place sample
place_of Halves place sample = (place (sample / 2) + place (sample / 2 + sample % 2)) / 2

abbrev pub sample_right : SeenLine → ℕ → ℕ → ℕ
sample_right line sample lower = place_of line.sampling (λ dot. right_at line dot lower) sample

abbrev pub sample_down : SeenLine → ℕ → ℕ → ℕ
sample_down line sample lower = place_of line.sampling (λ dot. down_at line dot lower) sample

-- the sum of the values of the first lines at a sample
abbrev pub samples_sum : Greys → SeenLine → ℕ → ℕ → ℕ
samples_sum picture line sample zero = 0
samples_sum picture line sample (suc lower) =
    samples_sum picture line sample lower + cubic_at picture (sample_right line sample lower) (sample_down line sample lower)

-- dark for light, if the bars are light
abbrev pub as_seen : Bool → ℕ → ℕ
as_seen true value = 98304 - value
as_seen false value = value

-- the value is the mean of the lines at a sample, and all of them are in the picture there
pub record IsSampleAt (picture : Greys) (line : SeenLine) (sample value : ℕ) : Type 0 where
  pub some : 0 < line.lines
  pub amid : (lower : ℕ) → lower < line.lines → IsInPicture picture (sample_right line sample lower) (sample_down line sample lower)
  pub mean : value ≡ as_seen line.is_inverted (samples_sum picture line sample line.lines / line.lines)

-- one of the lines is beyond the picture at a dot
pub record IsBeyondEdge (picture : Greys) (line : SeenLine) (dot : ℕ) : Type 0 where
  pub lower : ℕ
  pub among : lower < line.lines
  pub beyond : IsInPicture picture (right_at line dot lower) (down_at line dot lower) → ⊥

-- the values from one to before another are the mean, sample by sample. One more may stand before them, if the dot before the first is beyond the picture, where
-- places wrap, and one behind them, if the line ends there and the next dot is
pub record AreSamples (picture : Greys) (line : SeenLine) (from to : ℕ) (values : List ℕ) : Type 0 where
  pub some : 0 < line.dots
  pub within : to ≤ from + samples_in line.sampling line.dots
  pub each : (sample : ℕ) → sample < to - from → IsSampleAt picture line sample (slice_index_or values (from + sample) 0)
  pub before : (from ≡ 0) ⊎ ((from ≡ 1) × IsBeyondEdge picture line 4294967295)
  pub behind : (length values ≡ to)
      ⊎ ((length values ≡ to + 1) × (to ≡ from + samples_in line.sampling line.dots) × IsBeyondEdge picture line line.dots)
