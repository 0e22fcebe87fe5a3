-- Pictures of grey values.
use Rattle.std.specs.Prelude.{ℕ, zero, suc, ◌+◌, ◌*◌, ◌/◌, ◌<◌, ◌≤◌, List, nat_le, if◌then◌else◌}

-- a picture: the grey values that it stands in, how many dots a row has, how many rows there are, and how far each begins behind the one above
pub record Greys : Type 0 where
  pub values : List ℕ
  pub width : ℕ
  pub height : ℕ
  pub stride : ℕ

-- this many values hold a picture of this size, whose rows each begin so far behind the one above
pub record IsPicture (values width height stride : ℕ) : Type 0 where
  pub narrow : width ≤ 65535
  pub low : height ≤ 65535
  pub apart : width ≤ stride
  pub within : (y : ℕ) → y < height → y * stride + width ≤ values

-- ---- the memory that a picture takes

-- how many dots a side of a block has at most: 8, and one more for each of the first n of the sides from 9 on, 40 of which less half of one are no
-- longer than the root of the dots of the picture
abbrev pub side_up_to : ℕ → ℕ → ℕ
side_up_to dots zero = 8
side_up_to dots (suc n) = side_up_to dots n + (if nat_le ((40 * n + 340) * (40 * n + 340)) dots then 1 else 0)

-- the dots of a side of a block, of a picture of this many dots: the fortieth part of their root, rounded, from 8 to 32
unfoldable pub side_of : ℕ → ℕ
side_of dots = side_up_to dots 24

-- how many blocks a picture has
abbrev pub block_count : ℕ → ℕ → ℕ
block_count width height = let side = side_of (width * height) in (width / side + 1) * (height / side + 1)

-- six words for each dot of its width and height together, two more, and four for each block
abbrev pub word_count : ℕ → ℕ → ℕ
word_count width height = 6 * (width + height) + 2 + 4 * block_count width height

-- this many words and widths are enough for a picture of this size
abbrev pub IsRoom : ℕ → ℕ → ℕ → ℕ → Type 0
IsRoom width height words widths = (word_count width height ≤ words) × (width + 2 ≤ widths)
