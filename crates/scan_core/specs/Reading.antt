-- The intermediate results of reading a row.
use Rattle.std.specs.Prelude.{⊤, ℕ, List, Option, Some, None}
use Rattle.ean_code.specs.Spelling.{IsSpelled}
use Rattle.ean_code.specs.declared.kind.Kind.{Kind}
use Rattle.ean_code.specs.declared.reading.Spelled.TheVariants as spelled
use Rattle.code128_code.specs.Symbols.{IsCode128Symbol}
use Rattle.scan_core.specs.declared.carrier.Carrier.{Carrier}
use Rattle.scan_core.specs.Showing.{Shows, Way, kind_of}
use Rattle.scan_core.specs.declared.fault.RowFault.{RowFault}
use Rattle.scan_core.specs.declared.fault.RowFault.TheVariants.{QuietZone, Modules, Pattern, Code128, Elements}
use Rattle.scan_core.specs.declared.stage.Stage.{Stage}
use Rattle.scan_core.specs.declared.stage.Stage.TheVariants as stages
use Rattle.code128_code.specs.declared.symbol_values.Values.{Values}
use Rattle.scan_core.specs.declared.found.Found.{Found}
use Rattle.scan_core.specs.declared.found.Found.TheVariants as found
use Rattle.element_core.specs.Terms.{Terms}
use Rattle.scan_core.specs.Answers.{IsRefused}

-- the fault of a row that fails at this stage
abbrev pub stage_fault : Stage → RowFault
stage_fault stages.QuietZone = QuietZone
stage_fault stages.Modules = Modules
stage_fault stages.Pattern = Pattern

-- what a symbol is found to be: one of EAN, UPC or ITF-14, of this GTIN or with a wrong check digit, or one of Code 128, of these values
pub data ReadSymbol : Type 0 where
  Number : List ℕ → ReadSymbol
  BadCheckDigit : ReadSymbol
  Characters : Values → ReadSymbol

-- the modules, a symbol of this kind or else of Code 128, are found to be this
abbrev pub IsSymbolAs : Option Kind → List ℕ → ReadSymbol → Type 0
IsSymbolAs (Some kind) modules (ReadSymbol.Number gtin) = IsSpelled kind modules (spelled.Found gtin)
IsSymbolAs (Some kind) modules ReadSymbol.BadCheckDigit = IsSpelled kind modules spelled.BadCheck
IsSymbolAs (Some kind) modules (ReadSymbol.Characters values) = ⊥
IsSymbolAs None modules (ReadSymbol.Number gtin) = ⊥
IsSymbolAs None modules ReadSymbol.BadCheckDigit = ⊥
IsSymbolAs None modules (ReadSymbol.Characters values) = IsCode128Symbol values.start values.values.items values.check modules

-- the row shows this symbol of the carrier, one way or the other
abbrev pub ShowsSymbol : List ℕ → Carrier → ReadSymbol → Type 0
ShowsSymbol runs carrier symbol = (way : Way) × (modules : List ℕ) × Shows runs carrier way modules × IsSymbolAs (kind_of carrier) modules symbol

-- the fault is one of the row or of a check digit, and not of the text that the values of a symbol say
abbrev pub IsBeforeText : RowFault → Type 0
IsBeforeText (Code128 fault) = ⊥
IsBeforeText (Elements fault) = ⊥
IsBeforeText fault = ⊤

-- the row is refused for this before a text is read, whatever the year
abbrev pub IsUnread : List ℕ → RowFault → Type 0
IsUnread runs fault = IsBeforeText fault × ((year : Terms) → IsRefused runs year fault)

-- this is found in the row: the symbol that it shows, or why it shows none, or a wrong check digit
abbrev pub IsFound : List ℕ → Found → Type 0
IsFound runs (found.Number carrier gtin) = ShowsSymbol runs carrier (ReadSymbol.Number gtin)
IsFound runs (found.Characters carrier values) = ShowsSymbol runs carrier (ReadSymbol.Characters values)
IsFound runs (found.Refused fault) = IsUnread runs fault
