-- What types, private contracts and proofs name beside `Searches`.
use Rattle.std.specs.Prelude.{◌≡◌, ◌⊎◌, ℕ, ◌+◌, ◌*◌, ◌%◌, ◌<◌, ◌≤◌, List, length, slice_index}
use Rattle.scan_core.specs.declared.window.Window.{Window}
use Rattle.scan_core.specs.declared.symbols.Span.{Span}
use Rattle.scan_core.specs.declared.symbols.Symbols.TheInside.{Inside}
use Rattle.scan_core.specs.Row.{IsRow}
use Rattle.element_core.specs.Terms.{Terms}
use Rattle.scan_core.specs.Windows.{IsLeft, IsSymbolOf, Search}

-- the widths are a row, and the search goes on at a light run
pub record IsSearch (s : Inside) : Type 0 where
  pub row : IsRow s.widths.now
  pub light : s.rest.first % 2 ≡ 0

-- a run between the ends of a window is so wide at least
abbrev pub HasRun : List ℕ → ℕ → ℕ → ℕ → Type 0
HasRun runs first count width = (i : ℕ) × (first < i) × (i + 1 < first + count) × (width ≤ slice_index runs i)

-- of the windows that begin with this run and have at least `least` runs, none with fewer than `most` is read
abbrev pub AreNoneShorter : List ℕ → Terms → ℕ → ℕ → ℕ → Type 0
AreNoneShorter runs year first least count = (v : Window) → IsSymbolOf runs year v → v.first ≡ first → least ≤ v.count → v.count < count → ⊥

-- a light end and the two runs next to it, if it is five modules at least, the dark run two at most and the light one a single one, each to
-- within a third of a module
pub record MayEnd (end dark light : ℕ) : Type 0 where
  pub narrow_dark : 15 * dark ≤ 7 * end
  pub narrow_light : 15 * light ≤ 4 * end

-- a window of the row here, which begins and ends with a light run, is not passed yet, and no symbol before it is left
pub record IsNextPlace (s : Search) (p : Span) : Type 0 where
  pub begins_light : p.first % 2 ≡ 0
  pub ends_light : p.count % 2 ≡ 1
  pub within : p.first + p.count ≤ length s.runs
  pub left : (s.first < p.first) ⊎ ((s.first ≡ p.first) × (s.least ≤ p.count))
  pub none_before : (v : Window) → IsSymbolOf s.runs s.year v → IsLeft s v → (v.first < p.first) ⊎ ((v.first ≡ p.first) × (v.count < p.count)) → ⊥
