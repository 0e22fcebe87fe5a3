-- Words for types, private contracts and proofs, beside `Images`.
use Rattle.std.specs.Prelude.{◌≡◌, ℕ, ◌<◌, ◌≤◌, Bool, true, List, Option, length, Result, Ok, Err}
use Rattle.std.specs.Io.KnownBytes.{Consumes, IsAtEnd}
use Rattle.sheet_core.specs.declared.fault.PbmFault.{PbmFault}
use Rattle.sheet_core.specs.declared.fault.PbmFault.TheVariants.{NotP4, PbmHeader, Truncated, PbmSize, ReadFault, NoMemory}

-- after `ReadFault` the reader has failed; after anything else it is as it was
abbrev pub FailsFor : {A : Type 0} → Bool → Bool → Result A PbmFault → Type 0
FailsFor old new (Err ReadFault) = new ≡ true
FailsFor old new (Ok x) = new ≡ old
FailsFor old new (Err NotP4) = new ≡ old
FailsFor old new (Err PbmHeader) = new ≡ old
FailsFor old new (Err Truncated) = new ≡ old
FailsFor old new (Err PbmSize) = new ≡ old
FailsFor old new (Err NoMemory) = new ≡ old

-- n bytes did not arrive: the input ended, or reading stopped for another reason
abbrev pub StopsBefore : ℕ → Option (List ℕ) → Option (List ℕ) → PbmFault → Type 0
StopsBefore count old new Truncated = (bytes : List ℕ) × Consumes old new bytes × (length bytes < count) × IsAtEnd new
StopsBefore count old new ReadFault = (bytes : List ℕ) × Consumes old new bytes × (length bytes ≤ count)
StopsBefore count old new NoMemory = (bytes : List ℕ) × Consumes old new bytes × (length bytes ≤ count)
StopsBefore count old new NotP4 = ⊥
StopsBefore count old new PbmHeader = ⊥
StopsBefore count old new PbmSize = ⊥
