-- The symbols of a row: the windows of its runs that are read as a row.
use Rattle.std.specs.Prelude.{◌≡◌, ◌⊎◌, ℕ, ◌+◌, ◌-◌, ◌%◌, ◌<◌, ◌≤◌, List, [], ◌∷◌, length, take, drop, map, reverse, Contains}
use Rattle.std.specs.List.{AllByRecursion}
use Rattle.scan_core.specs.declared.answer.Answer.TheVariants.{Read}
use Rattle.scan_core.specs.declared.window.Window.{Window}
use Rattle.scan_core.specs.declared.carrier.Carrier.{Carrier}
use Rattle.element_core.specs.Elements.{Listing}
use Rattle.scan_core.specs.Row.{IsRow}
use Rattle.element_core.specs.Terms.{Terms}
use Rattle.scan_core.specs.Answers.{IsAnswer}

-- this many runs of a row, from one on
abbrev pub runs_in : List ℕ → ℕ → ℕ → List ℕ
runs_in runs first count = take count (drop first runs)

-- a window of the row, which begins and ends with a light run and is read as a row
pub record IsSymbolOf (runs : List ℕ) (year : Terms) (w : Window) : Type 0 where
  pub begins_light : w.first % 2 ≡ 0
  pub ends_light : w.count % 2 ≡ 1
  pub within : w.first + w.count ≤ length runs
  pub read : IsAnswer (runs_in runs w.first w.count) year (Read w.carrier w.elements)

-- a window comes before another if it begins further left, or at the same run and has fewer
abbrev pub ComesBefore : Window → Window → Type 0
ComesBefore v w = (v.first < w.first) ⊎ ((v.first ≡ w.first) × (v.count < w.count))

-- each comes before all those after it
abbrev pub AreInOrder : List Window → Type 0
AreInOrder [] = Unit {0}
AreInOrder (w ∷ ws) = AllByRecursion (ComesBefore w) ws × AreInOrder ws

-- the symbols of the row: each that there is, from the left
pub record AreSymbolsOf (runs : List ℕ) (year : Terms) (ws : List Window) : Type 0 where
  pub each : AllByRecursion (IsSymbolOf runs year) ws
  pub every_one : (w : Window) → IsSymbolOf runs year w → Contains ws w
  pub in_order : AreInOrder ws

-- ---- a search from the left

-- what is left of a row to be searched: windows that begin after this first run, or at it with this many runs at least
pub record Search : Type 0 where
  pub runs : List ℕ
  pub year : Terms
  pub first : ℕ
  pub least : ℕ

-- all of a row
abbrev pub search_of : List ℕ → Terms → Search
search_of runs year = record { runs = runs; year = year; first = 0; least = 0 }

-- the window is not passed yet
abbrev pub IsLeft : Search → Window → Type 0
IsLeft s w = (s.first < w.first) ⊎ ((s.first ≡ w.first) × (s.least ≤ w.count))

-- this symbol is the next one
pub record IsNextWindow (s : Search) (w : Window) : Type 0 where
  pub symbol : IsSymbolOf s.runs s.year w
  pub left : IsLeft s w
  pub none_before : (v : Window) → IsSymbolOf s.runs s.year v → IsLeft s v → ComesBefore v w → ⊥

-- there is none any more
abbrev pub IsOver : Search → Type 0
IsOver s = (v : Window) → IsSymbolOf s.runs s.year v → IsLeft s v → ⊥

-- what is left after this window
abbrev pub search_after : Search → Window → Search
search_after s w = record { runs = s.runs; year = s.year; first = w.first; least = w.count + 1 }

-- the search finds these windows, one after the other, and then is over
abbrev pub AreTold : Search → List Window → Type 0
AreTold s [] = IsOver s
AreTold s (w ∷ ws) = IsNextWindow s w × AreTold (search_after s w) ws

-- ---- laws

-- a search of a row finds each of its symbols, from left to right
abbrev pub SymbolsAreTold : Type 0
SymbolsAreTold = (runs : List ℕ) (year : Terms) (ws : List Window) → IsRow runs → AreTold (search_of runs year) ws → AreSymbolsOf runs year ws

-- a row that is read as a whole is a symbol of itself
abbrev pub WholeRow : Type 0
WholeRow = (runs : List ℕ) (year : Terms) (carrier : Carrier) (elements : Listing) → IsRow runs → IsAnswer runs year (Read carrier elements)
    → IsSymbolOf runs year (record { first = 0; count = length runs; carrier = carrier; elements = elements })

-- the same window in a row of this many runs that is turned end for end
abbrev pub turned : ℕ → Window → Window
turned n w = record { first = n - (w.first + w.count); count = w.count; carrier = w.carrier; elements = w.elements }

-- a window stands inside another, away from both its ends
abbrev pub IsInside : Window → Window → Type 0
IsInside v w = (w.first < v.first) × (v.first + v.count < w.first + w.count)

-- a row turned end for end has the same symbols; in reverse order, if none stands inside another
pub record TurnedSymbols : Type 0 where
  pub same : (runs : List ℕ) (year : Terms) (w : Window) → IsRow runs → IsSymbolOf runs year w → IsSymbolOf (reverse runs) year (turned (length runs) w)
  pub reversed : (runs : List ℕ) (year : Terms) (ws : List Window) → IsRow runs → AreSymbolsOf runs year ws
      → ((v w : Window) → Contains ws v → Contains ws w → IsInside v w → ⊥)
      → AreSymbolsOf (reverse runs) year (reverse (map (turned (length runs)) ws))
