-- What a command writes of the bytes that it reads, why it refuses them, and what a run of it leaves.
use Rattle.std.specs.Prelude.{◌≡◌, ◌≢◌, ◌↔◌, ⊤, ℕ, Bool, false, true, List, [], Option, Result, IfErr, IfSome, IsErrOf, OnOk}
use Rattle.std.specs.Io.KnownBytes.{Appends}
use Rattle.digits_core.specs.Bytes.{GaveAll, TookFront}
use Rattle.csv_records.specs.input.Records.{Mean, Meaning, Refuses}
use Rattle.csv_records.specs.declared.input.fault.RecordsFault.TheVariants as records
use Rattle.command_runs.specs.declared.fault.CommandFault.{CommandFault}
use Rattle.command_runs.specs.declared.fault.CommandFault.TheVariants as command

-- a command: what it writes of the bytes that it reads, and why it refuses what a source had left and has left now
pub record Command : Type 1 where
  pub writes : List ℕ → List ℕ → Type 0
  pub refuses : Option (List ℕ) → Option (List ℕ) → CommandFault → Type 0

-- a source gave all its bytes, and of the text that a command writes of them a sink took what `took` says (`Wrote` of wire_core is an event of a wire)
abbrev pub Wrote : Command → (Option (List ℕ) → Option (List ℕ) → List ℕ → Type 0) → Option (List ℕ) → Option (List ℕ) → Option (List ℕ) → Option (List ℕ)
    → Type 0
Wrote c took left rest before after = (bytes text : List ℕ) × GaveAll left rest bytes × c.writes bytes text × took before after text

-- as far as it is known, a sink took nothing
abbrev pub TookNothing : Option (List ℕ) → Type 0
TookNothing taken = IfSome taken (λ bytes. bytes ≡ [])

-- if nothing of it had failed before, this fault comes exactly if something has failed by now
abbrev pub TellsFault : {S X E : Type 0} → (S → Bool) → S → S → Result X E → E → Type 0
TellsFault failed old new result fault = failed old ≡ false → (IsErrOf result fault ↔ (failed new ≡ true))

-- what a run of a command leaves of a source and of a sink: the sink took the whole text; or a prefix of it, if a write failed; or nothing, and the refusal
-- names its cause
pub record Ran {S W : Type 0} (c : Command) (left : S → Option (List ℕ)) (source_failed : S → Bool) (taken : W → Option (List ℕ)) (sink_failed : W → Bool)
    (source rest : S) (sink after : W) (result : Result (Unit {0}) CommandFault) : Type 0 where
  pub ok : OnOk result (Wrote c Appends (left source) (left rest) (taken sink) (taken after))
  pub cut : IsErrOf result command.WriteFault → Wrote c TookFront (left source) (left rest) (taken sink) (taken after)
  pub refused : IfErr result (c.refuses (left source) (left rest))
  pub unwritten : IfErr result (λ f. f ≢ command.WriteFault → after ≡ sink)
  pub read : TellsFault source_failed source rest result command.ReadFault
  pub write : TellsFault sink_failed sink after result command.WriteFault

-- of the same bytes a command writes one text at most
abbrev pub WritesOnce : Command → Type 0
WritesOnce c = (bytes text other : List ℕ) → c.writes bytes text → c.writes bytes other → text ≡ other

-- ---- commands over records

-- what is written of bytes whose records mean items
abbrev pub WritesRecords : {Item : Type 0} → Meaning Item → (List Item → List ℕ → Type 0) → List ℕ → List ℕ → Type 0
WritesRecords means output bytes text = (items : List _) × Mean means bytes items × output items text

-- why a command refuses its records: what `Refuses` says of the same fault; of a failed write and a refused growth nothing is said
abbrev pub RefusesRecords : {Item : Type 0} → Meaning Item → Option (List ℕ) → Option (List ℕ) → CommandFault → Type 0
RefusesRecords means left rest command.ReadFault = Refuses means left rest records.ReadFault
RefusesRecords means left rest command.InputSize = Refuses means left rest records.InputSize
RefusesRecords means left rest (command.Record i f) = Refuses means left rest (records.Record i f)
RefusesRecords means left rest command.WriteFault = ⊤
RefusesRecords means left rest command.NoMemory = ⊤
RefusesRecords means left rest _ = ⊥
