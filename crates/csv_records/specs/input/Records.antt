-- The records of an input, what they mean to a command, and the first with a fault.
use Rattle.std.specs.Prelude.{◌≡◌, ◌≤◌, ⊤, ℕ, List, Option, Result, Ok, Err, Some, length, slice_get, take}
use Rattle.std.specs.List.{AllZip}
use Rattle.digits_core.specs.Bytes.{GaveAll, GaveAtMost, GaveMoreThan}
use Rattle.csv.specs.Reading.{default_config, records, strip_bom}
use Rattle.csv_records.specs.declared.input.fault.RecordsFault.{RecordsFault}
use Rattle.csv_records.specs.declared.input.fault.RecordsFault.TheVariants as refused
use Rattle.csv_records.specs.declared.input.fault.RecordFault.{RecordFault}

-- a record, by its fields
abbrev pub Fields : Type 0
Fields = List (List ℕ)

-- the records that `csv` reads of the bytes by its defaults, with no header row and no byte order mark
abbrev pub records_of : List ℕ → List Fields
records_of bytes = records default_config (strip_bom bytes)

-- what the fields of a record mean: an item, or a fault
abbrev pub Meaning : Type 0 → Type 1
Meaning Item = Fields → Result Item RecordFault → Type 0

-- each record means the item that stands beside it
abbrev pub AreItems : {Item : Type 0} → Meaning Item → List Fields → List Item → Type 0
AreItems means rows items = AllZip (λ fields item. means fields (Ok item)) rows items

-- the first record that means no item has this index and this fault
pub record IsFirstFault {Item : Type 0} (means : Meaning Item) (rows : List Fields) (i : ℕ) (f : RecordFault) : Type 0 where
  pub fields : Fields
  pub here : slice_get rows i ≡ Some fields
  pub items : List Item
  pub before : AreItems means (take i rows) items
  pub faulty : means fields (Err f)

-- how many bytes a command reads at most: `INPUT_LIMIT` in src/
abbrev pub most_bytes : ℕ
most_bytes = 16777216

-- the records of these bytes, which are not too many, mean these items
abbrev pub Mean : {Item : Type 0} → Meaning Item → List ℕ → List Item → Type 0
Mean means bytes items = (length bytes ≤ most_bytes) × AreItems means (records_of bytes) items

-- a source gave all its bytes, and this is true of the items that they mean
abbrev pub Takes : {Item : Type 0} → Meaning Item → (List Item → Type 0) → Option (List ℕ) → Option (List ℕ) → Type 0
Takes means made left rest = (bytes : List ℕ) × GaveAll left rest bytes × (items : List _) × Mean means bytes items × made items

-- what is true of a source and its records if they are refused with this fault; of `NoMemory` nothing is claimed
abbrev pub Refuses : {Item : Type 0} → Meaning Item → Option (List ℕ) → Option (List ℕ) → RecordsFault → Type 0
Refuses means left rest refused.ReadFault = GaveAtMost most_bytes left rest
Refuses means left rest refused.InputSize = GaveMoreThan most_bytes left rest
Refuses means left rest (refused.Record i f) = (bytes : List ℕ) × GaveAll left rest bytes
    × (length bytes ≤ most_bytes) × IsFirstFault means (records_of bytes) i f
Refuses means left rest refused.NoMemory = ⊤
