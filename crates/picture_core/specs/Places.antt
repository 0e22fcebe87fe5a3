-- Places of a picture, whose y goes down.
use Rattle.std.specs.Prelude.{ℕ, ◌+◌, ◌*◌, ◌/◌, ◌≤◌, max}
use Rattle.picture_core.specs.declared.own_row.OwnRow.{OwnRow}
use Rattle.picture_core.specs.declared.place.Point.{Point}
use Rattle.picture_core.specs.declared.place.Corners.{Corners}

-- going from a to b, p is on the right or straight ahead: the triangle of the three has no negative area
abbrev pub IsRightOf : Point → Point → Point → Type 0
IsRightOf a b p = a.y * b.x + b.y * p.x + p.y * a.x ≤ a.x * b.y + b.x * p.y + p.x * a.y

-- p is so far on the right that twice the area of the triangle is this, or more
abbrev pub IsBeyond : Point → Point → Point → ℕ → Type 0
IsBeyond a b p area = a.y * b.x + b.y * p.x + p.y * a.x + area ≤ a.x * b.y + b.x * p.y + p.x * a.y

-- the place is on the symbol with these corners: on the right of each side, going round clockwise
pub record IsOn (c : Corners) (p : Point) : Type 0 where
  pub top : IsRightOf c.upper_left c.upper_right p
  pub right : IsRightOf c.upper_right c.lower_right p
  pub bottom : IsRightOf c.lower_right c.lower_left p
  pub left : IsRightOf c.lower_left c.upper_left p

-- the corners are those of an area: the upper left one is truly on the left, going from the lower right one to the upper right one
abbrev pub HaveArea : Corners → Type 0
HaveArea c = IsRightOf c.lower_right c.upper_right c.upper_left → ⊥

-- a place of a picture of this size, or on its edge
pub record IsInSize (width height : ℕ) (p : Point) : Type 0 where
  pub right : p.x ≤ 256 * width
  pub down : p.y ≤ 256 * height

-- no corner is outside of a picture of this size
pub record AreInSize (width height : ℕ) (c : Corners) : Type 0 where
  pub upper_left : IsInSize width height c.upper_left
  pub upper_right : IsInSize width height c.upper_right
  pub lower_right : IsInSize width height c.lower_right
  pub lower_left : IsInSize width height c.lower_left

-- the upper left corner of a dot
abbrev pub corner_of : ℕ → ℕ → Point
corner_of column row = record { x = column * 256; y = row * 256 }

-- the bars that a row shows, the whole height of its dots, are on the symbol with these corners
pub record AreBarsOn (c : Corners) (at : OwnRow) : Type 0 where
  pub upper_left : IsOn c (corner_of at.left at.y)
  pub upper_right : IsOn c (corner_of at.right at.y)
  pub lower_right : IsOn c (corner_of at.right (at.y + 1))
  pub lower_left : IsOn c (corner_of at.left (at.y + 1))

-- how far down the corners reach
abbrev pub lowest : Corners → ℕ
lowest c = max (max (max c.upper_left.y c.upper_right.y) c.lower_right.y) c.lower_left.y

-- half way between two opposite corners
abbrev pub middle : Corners → Point
middle c = record { x = (c.upper_left.x + c.lower_right.x) / 2; y = (c.upper_left.y + c.lower_right.y) / 2 }
