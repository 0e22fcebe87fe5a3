-- The texts of faults of records, and how those of one layer become those of the next.
use Rattle.std.specs.Prelude.{ℕ, List}
use Rattle.digits_core.specs.Faults.{digit_fault_text}
use Rattle.digits_core.specs.Refusals.{refusal_words}
use Rattle.digits_core.specs.declared.refusal.RefusalKind.TheVariants as refusal
use Rattle.digits_core.specs.declared.source.InputFault.{InputFault}
use Rattle.digits_core.specs.declared.source.InputFault.TheVariants as input
use Rattle.element_core.specs.Faults.{element_fault_text}
use Rattle.csv_records.specs.declared.input.fault.RecordFault.{RecordFault}
use Rattle.csv_records.specs.declared.input.fault.RecordFault.TheVariants as fault
use Rattle.csv_records.specs.declared.input.fault.RecordRefusal.{RecordRefusal}
use Rattle.csv_records.specs.declared.input.fault.RecordRefusal.TheVariants as one
use Rattle.csv_records.specs.declared.input.fault.RecordsFault.{RecordsFault}
use Rattle.csv_records.specs.declared.input.fault.RecordsFault.TheVariants as records

-- the text of a record's fault: `refused`, its number, its name and, if it has one, its place in the second field
abbrev pub record_fault_text : RecordFault → List ℕ
record_fault_text fault.Csv = refusal_words refusal.Csv
record_fault_text fault.Kind = refusal_words refusal.Kind
record_fault_text fault.BadLane = refusal_words refusal.BadLane
record_fault_text fault.BadRuns = refusal_words refusal.BadRuns
record_fault_text fault.TooWide = refusal_words refusal.TooWide
record_fault_text (fault.Digits f) = digit_fault_text f
record_fault_text (fault.Elements f) = element_fault_text f

-- a fault of the reading, as that of the records
abbrev pub of_input : InputFault → RecordsFault
of_input input.ReadFault = records.ReadFault
of_input input.InputSize = records.InputSize
of_input input.NoMemory = records.NoMemory

-- a record's fault, as its refusal
abbrev pub of_record : RecordFault → RecordRefusal
of_record f = one.Record f

-- a failed allocation, as a record's refusal
abbrev pub no_room : RecordRefusal
no_room = one.NoMemory

-- a refusal of the record at this index, as that of the records
abbrev pub refusal_at : ℕ → RecordRefusal → RecordsFault
refusal_at index (one.Record f) = records.Record index f
refusal_at index one.NoMemory = records.NoMemory
