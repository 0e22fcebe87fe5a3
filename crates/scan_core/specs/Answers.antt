-- What a row says.
-- A row has one answer, and the same when it is turned.
use Rattle.std.specs.Prelude.{◌≡◌, ◌==◌, ◌%◌, ℕ, true, List, ◌++◌, length, Contains, Option, Some, None, Result, Ok, Err, codes, if◌then◌else◌}
use Rattle.std.specs.List.{AllZip}
use Rattle.digits_core.specs.Digits.{ascii_of, weighted}
use Rattle.element_core.specs.Elements.{IsElements, FirstFault}
use Rattle.ean_code.specs.Spelling.{gtin_of}
use Rattle.ean_code.specs.Symbols.{IsNumberSymbol}
use Rattle.ean_code.specs.declared.kind.Kind.{Kind}
use Rattle.code128_code.specs.Symbols.{IsCode128Symbol}
use Rattle.code128_code.specs.Texts.{symbol_text}
use Rattle.code128_code.specs.declared.fault.Code128Fault.{Code128Fault}
use Rattle.scan_core.specs.declared.carrier.Carrier.{Carrier}
use Rattle.scan_core.specs.declared.stage.Stage.{Stage}
use Rattle.scan_core.specs.declared.stage.Stage.TheVariants as stages
use Rattle.scan_core.specs.declared.fault.RowFault.{RowFault}
use Rattle.scan_core.specs.declared.fault.RowFault.TheVariants.{Blank, RunCount, QuietZone, Modules, Pattern, SymbolCheckDigit, Code128, Elements}
use Rattle.scan_core.specs.declared.answer.Answer.{Answer}
use Rattle.scan_core.specs.declared.answer.Answer.TheVariants.{Read, Refused}
use Rattle.scan_core.specs.Row.{dots_of, inner}
use Rattle.element_core.specs.Terms.{Terms}
use Rattle.scan_core.specs.Showing.{HasSize, IsQuiet, Rounds, Shows, Way, along, kind_of}

-- ---- rows that show no symbol

-- the row comes to this stage as a symbol of the carrier, N modules wide: it has as many runs, then both light ends are wide enough, and then,
-- read one way or the other, each run is a number of modules
abbrev pub ComesAs : List ℕ → Carrier → ℕ → Stage → Type 0
ComesAs runs carrier N stages.QuietZone = HasSize (kind_of carrier) (length (inner runs)) N
ComesAs runs carrier N stages.Modules = HasSize (kind_of carrier) (length (inner runs)) N × IsQuiet runs N
ComesAs runs carrier N stages.Pattern =
    HasSize (kind_of carrier) (length (inner runs)) N × IsQuiet runs N × (way : Way) × (modules : List ℕ) × Rounds (along way (inner runs)) N modules

-- the row comes to this stage as a symbol of one of these carriers
abbrev pub ComesTo : {C : Type 0} → (C → Carrier) → List ℕ → Stage → Type 0
ComesTo carriers runs stage = (c : _) × (N : ℕ) × ComesAs runs (carriers c) N stage

-- ---- what a symbol spells

-- AI 01 and the fourteen digits of a GTIN, or the fault of its check digit
abbrev pub checked_text : List ℕ → Result (List ℕ) RowFault
checked_text gtin = if weighted gtin % 10 == 0 then Ok (codes "01" ++ ascii_of gtin) else Err SymbolCheckDigit

-- the text of a Code 128 symbol, or its fault as that of the row
abbrev pub row_text : Result (List ℕ) Code128Fault → Result (List ℕ) RowFault
row_text (Ok text) = Ok text
row_text (Err fault) = Err (Code128 fault)

-- the modules are a symbol of this kind, or else of Code 128, and spell this text or have this fault
abbrev pub Spells : Option Kind → List ℕ → Result (List ℕ) RowFault → Type 0
Spells (Some kind) modules content = (digits : List ℕ) × IsNumberSymbol kind modules digits × (content ≡ checked_text (gtin_of kind digits))
Spells None modules content =
    (start : ℕ) × (values : List ℕ) × (check : ℕ)
    × IsCode128Symbol start values check modules
    × (content ≡ row_text (symbol_text start values check))

-- the row shows a symbol of the carrier, one way or the other, which spells this
abbrev pub Tells : List ℕ → Carrier → Result (List ℕ) RowFault → Type 0
Tells runs carrier content = (way : Way) × (modules : List ℕ) × Shows runs carrier way modules × Spells (kind_of carrier) modules content

-- ---- answers

-- as symbols of these carriers alone the row is refused for this
abbrev pub IsRefusedOf : {C : Type 0} → (C → Carrier) → List ℕ → Terms → RowFault → Type 0
IsRefusedOf carriers runs year Blank = Contains (dots_of runs) true → ⊥
IsRefusedOf carriers runs year RunCount = Contains (dots_of runs) true × (ComesTo carriers runs stages.QuietZone → ⊥)
IsRefusedOf carriers runs year QuietZone = ComesTo carriers runs stages.QuietZone × (ComesTo carriers runs stages.Modules → ⊥)
IsRefusedOf carriers runs year Modules = ComesTo carriers runs stages.Modules × (ComesTo carriers runs stages.Pattern → ⊥)
IsRefusedOf carriers runs year Pattern =
    ComesTo carriers runs stages.Pattern × ((c : _) (way : Way) (modules : List ℕ) → Shows runs (carriers c) way modules → ⊥)
IsRefusedOf carriers runs year SymbolCheckDigit = (c : _) × Tells runs (carriers c) (Err SymbolCheckDigit)
IsRefusedOf carriers runs year (Code128 fault) = (c : _) × Tells runs (carriers c) (Err (Code128 fault))
IsRefusedOf carriers runs year (Elements fault) =
    (c : _) × (text : List ℕ) × Tells runs (carriers c) (Ok text) × FirstFault year text fault

-- all carriers
abbrev pub every_carrier : Carrier → Carrier
every_carrier carrier = carrier

-- the row is refused for this
abbrev pub IsRefused : List ℕ → Terms → RowFault → Type 0
IsRefused runs year fault = IsRefusedOf every_carrier runs year fault

-- under this reference year the row says this
abbrev pub IsAnswer : List ℕ → Terms → Answer → Type 0
IsAnswer runs year (Read carrier listing) =
    (text : List ℕ) × Tells runs carrier (Ok text) × (listing.year ≡ year) × IsElements year text listing.list
IsAnswer runs year (Refused fault) = IsRefused runs year fault

-- the rows say these, each its own
abbrev pub Reads : List (List ℕ) → Terms → List Answer → Type 0
Reads rows year answers = AllZip (λ runs answer. IsAnswer runs year answer) rows answers
