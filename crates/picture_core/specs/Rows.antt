-- The symbols that a picture's own rows show.
use Rattle.std.specs.Prelude.{◌≡◌, ℕ, ◌+◌, ◌-◌, ◌*◌, ◌<◌, Bool, List, map, nat_lt, slice_range, sum, take}
use Rattle.element_core.specs.Elements.{Listing}
use Rattle.scan_core.specs.Row.{IsRow, dots_of}
use Rattle.scan_core.specs.Windows.{IsSymbolOf}
use Rattle.scan_core.specs.declared.carrier.Carrier.{Carrier}
use Rattle.picture_core.specs.Pictures.{Greys}
use Rattle.element_core.specs.Terms.{Terms}
use Rattle.picture_core.specs.declared.own_row.OwnRow.{OwnRow}

-- the grey values of row y of a picture
abbrev pub greys_of_row : Greys → ℕ → List ℕ
greys_of_row picture y = slice_range picture.values (y * picture.stride) (y * picture.stride + picture.width)

-- the dots of a row, each dark if its grey value is below the level
abbrev pub dark_dots : ℕ → List ℕ → List Bool
dark_dots level greys = map (λ grey. nat_lt grey level) greys

-- the runs have a window that is read as this symbol, and its bars begin and end at these dots
pub record IsWindowAt (runs : List ℕ) (year : Terms) (carrier : Carrier) (elements : Listing) (at : OwnRow) : Type 0 where
  pub window : IsSymbolOf runs year (record { first = at.first; count = at.count; carrier = carrier; elements = elements })
  pub left : at.left ≡ sum (take (at.first + 1) runs)
  pub right : at.right ≡ sum (take (at.first + at.count - 1) runs)

-- row y of the picture shows this symbol: the runs of its dots have such a window
pub record RowShows (picture : Greys) (level : ℕ) (year : Terms) (carrier : Carrier) (elements : Listing) (at : OwnRow) : Type 0 where
  pub runs : List ℕ
  pub within : at.y < picture.height
  pub row : IsRow runs
  pub dots : dots_of runs ≡ dark_dots level (greys_of_row picture at.y)
  pub window : IsWindowAt runs year carrier elements at
