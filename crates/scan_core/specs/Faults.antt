-- The text of a fault, as it stands in an output line: `refused`, its number, its name and, if it has one, its place.
use Rattle.std.specs.Prelude.{ℕ, List}
use Rattle.digits_core.specs.Refusals.{refusal_words}
use Rattle.digits_core.specs.declared.refusal.RefusalKind.TheVariants as refusal
use Rattle.element_core.specs.Faults.{element_fault_text}
use Rattle.code128_code.specs.Faults.{code128_fault_text}
use Rattle.scan_core.specs.declared.fault.RunFault.{RunFault}
use Rattle.scan_core.specs.declared.fault.RunFault.TheVariants.{TooWide, BadRuns, NoMemory}
use Rattle.scan_core.specs.declared.fault.RowFault.{RowFault}
use Rattle.scan_core.specs.declared.fault.RowFault.TheVariants.{Blank, RunCount, QuietZone, Modules, Pattern, SymbolCheckDigit, Code128, Elements}

-- of widths that are no row
abbrev pub run_fault_text : RunFault → List ℕ
run_fault_text TooWide = refusal_words refusal.TooWide
run_fault_text BadRuns = refusal_words refusal.BadRuns
run_fault_text NoMemory = refusal_words refusal.NoMemory

-- of a row that is not read
abbrev pub row_fault_text : RowFault → List ℕ
row_fault_text Blank = refusal_words refusal.Blank
row_fault_text RunCount = refusal_words refusal.RunCount
row_fault_text QuietZone = refusal_words refusal.QuietZone
row_fault_text Modules = refusal_words refusal.Modules
row_fault_text Pattern = refusal_words refusal.Pattern
row_fault_text SymbolCheckDigit = refusal_words refusal.SymbolCheckDigit
row_fault_text (Code128 fault) = code128_fault_text fault
row_fault_text (Elements fault) = element_fault_text fault
