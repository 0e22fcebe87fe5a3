-- What is reported of a picture.
use Rattle.std.specs.Prelude.{List, ◌≡◌, ◌⊎◌, ℕ, ◌+◌, ◌<◌, ◌≤◌, All, AllPairs, length, [], OnSome, Option, IfNone, IfSome, IsSomeAnd}
use Rattle.picture_core.specs.declared.own_row.OwnRows.{OwnRows}
use Rattle.picture_core.specs.declared.seen_line.SeenLine.{SeenLine}
use Rattle.picture_core.specs.declared.seen_line.SeenLines.{SeenLines}
use Rattle.picture_core.specs.declared.symbol.SeenSymbol.{SeenSymbol}
use Rattle.picture_core.specs.Lines.{IsBefore, place_at, second_of}
use Rattle.picture_core.specs.Order.{AreInReadingOrder, symbol_at}
use Rattle.picture_core.specs.Pictures.{Greys}
use Rattle.picture_core.specs.Places.{AreBarsOn, AreInSize, HaveArea, IsOn, middle}
use Rattle.picture_core.specs.Bars.{LineShows}
use Rattle.picture_core.specs.Rows.{RowShows}
use Rattle.picture_core.specs.Saids.{IsRefusal, IsSaid}
use Rattle.element_core.specs.Terms.{Terms}
use Rattle.picture_core.specs.declared.shown.Shown.{Shown}

-- two rows of the picture show the symbol, or the one row that it has
pub record AreOwnRows (picture : Greys) (level : ℕ) (year : Terms) (s : SeenSymbol) (rows : OwnRows) : Type 0 where
  pub first : RowShows picture level year s.said.carrier s.said.elements rows.first
  pub last : RowShows picture level year s.said.carrier s.said.elements rows.last
  pub two : (rows.first.y < rows.last.y) ⊎ (picture.height ≡ 1)
  pub first_bars : AreBarsOn s.corners rows.first
  pub last_bars : AreBarsOn s.corners rows.last

-- lines of the picture show the symbol, and the middle of its bars there is on it
pub record IsOnLine (picture : Greys) (year : Terms) (s : SeenSymbol) (line : SeenLine) : Type 0 where
  pub dot : ℕ
  pub shown : LineShows picture year s.said.carrier s.said.elements line dot
  pub on : IsOn s.corners (place_at line dot)

-- two groups of lines side by side show the symbol
pub record AreOnLines (picture : Greys) (year : Terms) (s : SeenSymbol) (lines : SeenLines) : Type 0 where
  pub first : IsOnLine picture year s lines.first
  pub second : IsOnLine picture year s (second_of lines)
  pub two : IsBefore lines.first (second_of lines)

-- a symbol of the picture, under a level and a reference year
pub record IsSymbolIn (picture : Greys) (level : ℕ) (year : Terms) (s : SeenSymbol) : Type 0 where
  pub said : IsSaid s.said.carrier s.said.elements
  pub dated : s.said.elements.year ≡ year
  pub rows : (2 ≤ s.rows) ⊎ (picture.height ≡ 1)
  pub within : AreInSize picture.width picture.height s.corners
  pub area : HaveArea s.corners
  pub clockwise : IsOn s.corners (middle s.corners)
  pub own_rows : IfSome s.own_rows (AreOwnRows picture level year s)
  pub line : IfNone s.own_rows (IsSomeAnd s.lines (AreOnLines picture year s))

-- neither of two symbols has the middle of the other on it
pub record AreApart (one other : SeenSymbol) : Type 0 where
  pub there : IsOn one.corners (middle other.corners) → ⊥
  pub here : IsOn other.corners (middle one.corners) → ⊥

-- a place of the list, which has a symbol, one that is reported
abbrev pub IsSomeSymbolIn : Greys → ℕ → Terms → Option SeenSymbol → Type 0
IsSomeSymbolIn picture level year s = IsSomeAnd s (IsSymbolIn picture level year)

abbrev pub AreApartIn : Option SeenSymbol → Option SeenSymbol → Type 0
AreApartIn one other = IfSome one (λ s. IfSome other (AreApart s))

-- a symbol of the picture's own rows, if there is one
abbrev pub HasOwnRows : Option SeenSymbol → Type 0
HasOwnRows s = IfSome s (λ s. IfNone s.own_rows ⊥)

abbrev pub HaveOwnRows : List (Option SeenSymbol) → Type 0
HaveOwnRows symbols = (place : ℕ) → place < length symbols → HasOwnRows (symbol_at symbols place)

-- what a picture shows, read at a level, if one is given, and under a reference year
pub record IsReadingOf (picture : Greys) (level : Option ℕ) (year : Terms) (shown : Shown) : Type 0 where
  pub level_given : IfSome level (λ l. shown.level ≡ l)
  pub own_rows_alone : IfSome level (λ l. HaveOwnRows shown.symbols.items)
  pub told : All (IsSomeSymbolIn picture shown.level year) shown.symbols.items
  pub apart : AllPairs AreApartIn shown.symbols.items
  pub order : AreInReadingOrder shown.symbols.items
  pub counted : shown.found < 4294967295 → shown.found ≡ length shown.symbols.items + shown.left_out + shown.dropped
  pub refused : IfSome shown.refused (λ r. IsRefusal year r.fault)
  pub none : OnSome shown.refused (shown.symbols.items ≡ [])
