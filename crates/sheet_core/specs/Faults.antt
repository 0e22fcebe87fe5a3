-- The text of an error in an output line: `refused`, its number, its name and, if it has one, the index of the label.
use Rattle.std.specs.Prelude.{ℕ, List, Some}
use Rattle.digits_core.specs.Refusals.{refusal_text, refusal_words}
use Rattle.digits_core.specs.declared.refusal.RefusalKind.TheVariants as refusal
use Rattle.sheet_core.specs.declared.fault.SheetFault.{SheetFault}
use Rattle.sheet_core.specs.declared.fault.SheetFault.TheVariants.{LabelKind, LabelWidth, NoMemory}
use Rattle.sheet_core.specs.declared.fault.PrintFault.{PrintFault}
use Rattle.sheet_core.specs.declared.fault.PrintFault.TheVariants.{Sheet, WriteFault}
use Rattle.sheet_core.specs.declared.fault.PbmFault.{PbmFault}
use Rattle.sheet_core.specs.declared.fault.PbmFault.TheVariants.{NotP4, PbmHeader, Truncated, PbmSize, ReadFault, NoMemory as PbmNoMemory}

-- the error of labels that are not printed
abbrev pub sheet_fault_text : SheetFault → List ℕ
sheet_fault_text (LabelKind i) = refusal_text refusal.LabelKind (Some i)
sheet_fault_text (LabelWidth i) = refusal_text refusal.LabelWidth (Some i)
sheet_fault_text NoMemory = refusal_words refusal.NoMemory

-- the error of labels that are not printed as images
abbrev pub print_fault_text : PrintFault → List ℕ
print_fault_text (Sheet fault) = sheet_fault_text fault
print_fault_text WriteFault = refusal_words refusal.WriteFault

-- the error of bytes that are not images, or could not be read
abbrev pub pbm_fault_text : PbmFault → List ℕ
pbm_fault_text NotP4 = refusal_words refusal.NotP4
pbm_fault_text PbmHeader = refusal_words refusal.PbmHeader
pbm_fault_text Truncated = refusal_words refusal.Truncated
pbm_fault_text PbmSize = refusal_words refusal.PbmSize
pbm_fault_text ReadFault = refusal_words refusal.ReadFault
pbm_fault_text PbmNoMemory = refusal_words refusal.NoMemory
