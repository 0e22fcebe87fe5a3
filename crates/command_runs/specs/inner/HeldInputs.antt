-- An input that comes in pieces (`answers/held_input.rt`): what was taken of its source, and what of that is held.
use Rattle.std.specs.Prelude.{◌≡◌, ◌≤◌, ◌<◌, ◌+◌, ◌++◌, ℕ, Bool, false, true, List, [], Option, Result, Ok, Err, drop, length, slice_range}
use Rattle.std.specs.Borrow.{MutBor}
use Rattle.std.specs.Global.{Vec}
use Rattle.std.specs.Io.KnownBytes.{Consumes, IsAtEnd}
use Rattle.digits_core.specs.Bytes.{GaveAtMost, GaveMoreThan}
use Rattle.digits_core.specs.declared.source.InputFault.{InputFault}
use Rattle.digits_core.specs.declared.source.InputFault.TheVariants as input
use Rattle.csv_records.specs.input.Records.{most_bytes}
use Rattle.command_runs.specs.declared.answers.held_input.HeldInput.{HeldInput}

-- what is held
abbrev pub held_of : {S : Type 0} → HeldInput S → List ℕ
held_of i = slice_range i.bytes.items i.start i.end

-- of a source that was lent, this was taken so far, and no read has failed
pub record HasTaken {S : Type 0} (left : S → Option (List ℕ)) (failed : S → Bool) (lent : MutBor S) (i : HeldInput S) (taken : List ℕ) : Type 0 where
  pub same : i.source.ghost_name ≡ lent.ghost_name
  pub came : Consumes (left lent.now) (left i.source.now) taken
  pub room : length taken + i.room ≡ most_bytes
  pub works : failed i.source.now ≡ failed lent.now

-- why no more is taken of a source that was lent
abbrev pub StopsTaking : {S : Type 0} → (S → Option (List ℕ)) → (S → Bool) → MutBor S → HeldInput S → InputFault → Type 0
StopsTaking left failed lent i input.ReadFault = (i.source.ghost_name ≡ lent.ghost_name) × GaveAtMost most_bytes (left lent.now) (left i.source.now) × (failed i.source.now ≡ true)
StopsTaking left failed lent i input.InputSize = (i.source.ghost_name ≡ lent.ghost_name) × GaveMoreThan most_bytes (left lent.now) (left i.source.now) × (failed i.source.now ≡ failed lent.now)
StopsTaking left failed lent i input.NoMemory = (i.source.ghost_name ≡ lent.ghost_name) × (failed i.source.now ≡ failed lent.now)

-- why no more is taken, whatever the source and whatever was taken before
abbrev pub StopsReading : {S : Type 0} → (S → Option (List ℕ)) → (S → Bool) → HeldInput S → InputFault → HeldInput S → Type 0
StopsReading {S} left failed old fault new = (lent : MutBor S) (taken : List ℕ) → HasTaken left failed lent old taken → StopsTaking left failed lent new fault

-- these bytes more were taken
abbrev pub TakesMore : {S : Type 0} → (S → Option (List ℕ)) → (S → Bool) → HeldInput S → List ℕ → HeldInput S → Type 0
TakesMore {S} left failed old more new = (lent : MutBor S) (taken : List ℕ) → HasTaken left failed lent old taken → HasTaken left failed lent new (taken ++ more)

-- ---- what a call leaves of an input

-- nothing was taken of this source, and nothing is held
abbrev pub HoldsNothing : {S : Type 0} → (S → Option (List ℕ)) → (S → Bool) → MutBor S → HeldInput S → Type 0
HoldsNothing left failed lent i = HasTaken left failed lent i [] × (held_of i ≡ []) × (i.source ≡ lent)

-- this many bytes are given up at the front of what is held
abbrev pub GivesUp : {S : Type 0} → ℕ → HeldInput S → HeldInput S → Type 0
GivesUp count old new = (held_of new ≡ drop count (held_of old)) × (new.source ≡ old.source) × (new.room ≡ old.room)

-- what is held is moved to the front
abbrev pub MakesRoom : {S : Type 0} → HeldInput S → HeldInput S → Type 0
MakesRoom old new = (held_of new ≡ held_of old) × (new.start ≡ 0) × (new.source ≡ old.source) × (new.room ≡ old.room)

-- a piece has a byte, or nothing more comes
abbrev pub IsPieceOrEnd : {S : Type 0} → (S → Option (List ℕ)) → Bool → HeldInput S → List ℕ → Type 0
IsPieceOrEnd left true i more = 0 < length more
IsPieceOrEnd left false i more = (more ≡ []) × IsAtEnd (left i.source.now)

-- a piece stands behind what was held, or there is none
abbrev pub HoldsMore : {S : Type 0} → (S → Option (List ℕ)) → (S → Bool) → HeldInput S → Result Bool InputFault → HeldInput S → Type 0
HoldsMore left failed old (Ok are_more) new = (more : List ℕ) × (held_of new ≡ held_of old ++ more) × (new.start ≡ 0) × (new.room + length more ≡ old.room)
    × IsPieceOrEnd left are_more new more × TakesMore left failed old more new
HoldsMore left failed old (Err fault) new = (new.room ≤ old.room) × StopsReading left failed old fault new

-- all that is left was taken; with what was held it is these bytes
abbrev pub TakesRest : {S : Type 0} → (S → Option (List ℕ)) → (S → Bool) → HeldInput S → List ℕ → HeldInput S → Type 0
TakesRest left failed old bytes new = (more : List ℕ) × (bytes ≡ held_of old ++ more) × IsAtEnd (left new.source.now) × TakesMore left failed old more new

-- all that is left is read
abbrev pub ReadsRest : {S : Type 0} → (S → Option (List ℕ)) → (S → Bool) → HeldInput S → Result (Vec ℕ) InputFault → HeldInput S → Type 0
ReadsRest left failed old (Ok bytes) new = (new.room ≤ old.room) × TakesRest left failed old bytes.items new
ReadsRest left failed old (Err fault) new = (new.room ≤ old.room) × StopsReading left failed old fault new

-- all that is left is passed over
abbrev pub PassesRest : {S : Type 0} → (S → Option (List ℕ)) → (S → Bool) → HeldInput S → Result (Unit {0}) InputFault → HeldInput S → Type 0
PassesRest left failed old (Ok u) new = (more : List ℕ) × IsAtEnd (left new.source.now) × TakesMore left failed old more new
PassesRest left failed old (Err fault) new = StopsReading left failed old fault new
