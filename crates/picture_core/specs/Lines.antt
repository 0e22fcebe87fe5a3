-- Lines that are laid through a picture.
use Rattle.std.specs.Prelude.{ℕ, ◌+◌, ◌-◌, ◌*◌, ◌/◌, ◌%◌, ◌<◌, ◌≤◌, min, slice_index_or}
use Rattle.picture_core.specs.Pictures.{Greys}
use Rattle.picture_core.specs.Rows.{greys_of_row}
use Rattle.picture_core.specs.declared.place.Point.{Point}
use Rattle.picture_core.specs.declared.seen_line.SeenLine.{SeenLine}
use Rattle.picture_core.specs.declared.seen_line.SeenLines.{SeenLines}
use Rattle.picture_core.specs.Places.{IsBeyond}

-- the grey value of a dot
abbrev pub grey_at : Greys → ℕ → ℕ → ℕ
grey_at picture column row = slice_index_or (greys_of_row picture row) column 0

-- 256 times the value that is this many 256ths of the way from one to another
abbrev pub mix : ℕ → ℕ → ℕ → ℕ
mix one other part = one * (256 - part) + other * part

-- 65,536 dots, where places wrap
abbrev pub wrapped : ℕ → ℕ
wrapped n = n % 4294967296

-- how far right a dot of one of the lines stands, and how far down: each line is a dot beside the one before
abbrev pub right_at : SeenLine → ℕ → ℕ → ℕ
right_at line dot lower = wrapped (wrapped (line.x + wrapped (dot * line.across)) + (4294967296 - wrapped (lower * line.down)))

abbrev pub down_at : SeenLine → ℕ → ℕ → ℕ
down_at line dot lower = wrapped (wrapped (line.y + wrapped (dot * line.down)) + wrapped (lower * line.across))

-- how long a step is one way, which may go back
abbrev pub length_of : ℕ → ℕ
length_of step = min step (4294967296 - step)

-- the square of a step
abbrev pub square_of : ℕ → ℕ → ℕ
square_of across down = length_of across * length_of across + length_of down * length_of down

-- at most nine lines, whose step from dot to dot is a dot long, to within an 8,000th
pub record IsLaid (line : SeenLine) : Type 0 where
  pub few : line.lines ≤ 9
  pub short : square_of line.across line.down ≤ 4294967296 + 1048576
  pub long : 4294967296 ≤ square_of line.across line.down + 1048576

-- where a dot of the line in the middle stands, in 1/256 dot from the corner of the picture
abbrev pub place_at : SeenLine → ℕ → Point
place_at line dot = record { x = right_at line dot (line.lines / 2) / 256; y = down_at line dot (line.lines / 2) / 256 }

-- a second group of lines: as the first, from another place on
abbrev pub second_of : SeenLines → SeenLine
second_of lines = record {
  x = lines.x;
  y = lines.y;
  across = lines.first.across;
  down = lines.first.down;
  dots = lines.dots;
  lines = lines.first.lines;
  sampling = lines.first.sampling;
  cleared = lines.first.cleared;
  is_inverted = lines.first.is_inverted;
}

-- the line in the middle of others begins beside that of these, a dot more than there are lines or farther: no line is one of both, nor next to one
pub record IsBefore (line other : SeenLine) : Type 0 where
  pub some : 0 < line.dots
  pub beyond : IsBeyond (place_at line 0) (place_at line (line.dots - 1)) (place_at other 0) (65536 * (line.lines + 1) * (line.dots - 1))
