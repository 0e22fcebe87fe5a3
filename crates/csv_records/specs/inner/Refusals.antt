-- Why records are refused, by the records alone.
use Rattle.std.specs.Prelude.{⊤, List}
use Rattle.csv_records.specs.input.Records.{Fields, IsFirstFault, Meaning}
use Rattle.csv_records.specs.declared.input.fault.RecordsFault.{RecordsFault}
use Rattle.csv_records.specs.declared.input.fault.RecordsFault.TheVariants as refused

-- the refusal names the first record with a fault, or is `NoMemory`
abbrev pub NamesFirst : {Item : Type 0} → Meaning Item → List Fields → RecordsFault → Type 0
NamesFirst means rows (refused.Record i f) = IsFirstFault means rows i f
NamesFirst means rows refused.NoMemory = ⊤
NamesFirst means rows _ = ⊥
