-- The symbol that a row shows (ISO/IEC 15420, 16390 and 15417; GS1 General Specifications, section 5).
use Rattle.std.specs.Prelude.{◌≡◌, ℕ, ◌+◌, ◌-◌, ◌*◌, ◌≤◌, List, Option, Some, None, length, reverse, sum, slice_index}
use Rattle.std.specs.List.{AllZip}
use Rattle.ean_code.specs.Symbols.{IsNumberSymbol, module_count, width_count}
use Rattle.ean_code.specs.declared.kind.Kind.{Kind}
use Rattle.ean_code.specs.declared.kind.Kind.TheVariants.{Ean13 as KindEan13, Ean8 as KindEan8, UpcE as KindUpcE, Itf14 as KindItf14}
use Rattle.code128_code.specs.Symbols.{IsCode128Symbol}
use Rattle.scan_core.specs.declared.carrier.Carrier.{Carrier}
use Rattle.scan_core.specs.declared.carrier.Carrier.TheVariants.{Ean13, Ean8, UpcE, Itf14, Gs1128}
use Rattle.scan_core.specs.Row.{inner}

-- how far two numbers are apart
abbrev pub gap : ℕ → ℕ → ℕ
gap a b = (a - b) + (b - a)

-- if W dots are N modules, a run of w dots is m modules, 1 to 4, to within a third of one
pub record IsRun (N W w m : ℕ) : Type 0 where
  pub least : 1 ≤ m
  pub most : m ≤ 4
  pub near : 3 * gap (w * N) (m * W) ≤ W

-- the runs, N modules together, are these modules
abbrev pub Rounds : List ℕ → ℕ → List ℕ → Type 0
Rounds runs N modules = AllZip (IsRun N (sum runs)) runs modules

-- both light ends are at least five modules, if the runs between them are N
pub record IsQuiet (runs : List ℕ) (N : ℕ) : Type 0 where
  pub left : 5 * sum (inner runs) ≤ slice_index runs 0 * N
  pub right : 5 * sum (inner runs) ≤ slice_index runs (length runs - 1) * N

-- the kind of the carrier's symbols, if they show a number
abbrev pub kind_of : Carrier → Option Kind
kind_of Ean13 = Some KindEan13
kind_of Ean8 = Some KindEan8
kind_of UpcE = Some KindUpcE
kind_of Itf14 = Some KindItf14
kind_of Gs1128 = None

-- a symbol of this kind, or else of Code 128, has n runs and is N modules wide; one of Code 128 has k start, data and check characters
abbrev pub HasSize : Option Kind → ℕ → ℕ → Type 0
HasSize (Some kind) n N = (n ≡ width_count kind) × (N ≡ module_count kind)
HasSize None n N = (k : ℕ) × (3 ≤ k) × (k ≤ 98) × (n ≡ 6 * k + 7) × (N ≡ 11 * k + 13)

-- the modules are a symbol of this kind, or else of Code 128
abbrev pub IsSymbol : Option Kind → List ℕ → Type 0
IsSymbol (Some kind) modules = (digits : List ℕ) × IsNumberSymbol kind modules digits
IsSymbol None modules = (start : ℕ) × (values : List ℕ) × (check : ℕ) × IsCode128Symbol start values check modules

-- from left to right, or from right to left
pub data Way : Type 0 where
  Forwards : Way
  Backwards : Way

-- the widths in the order in which they are read this way
abbrev pub along : Way → List ℕ → List ℕ
along Forwards widths = widths
along Backwards widths = reverse widths

-- the row shows a symbol of the carrier with these modules, read this way
pub record Shows (runs : List ℕ) (carrier : Carrier) (way : Way) (modules : List ℕ) : Type 0 where
  pub N : ℕ
  pub candidate : HasSize (kind_of carrier) (length (inner runs)) N
  pub quiet : IsQuiet runs N
  pub rounds : Rounds (along way (inner runs)) N modules
  pub form : IsSymbol (kind_of carrier) modules
