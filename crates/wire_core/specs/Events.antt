-- What goes over a wire: reads and writes in their order.
use Rattle.std.specs.Prelude.{◌≡◌, ◌++◌, ℕ, Bool, true, IfOk, IfSome, OnErr, OnOk, List, [], Option, Result, map}
use Rattle.std.specs.List.{concat, flat_map}

-- what a read gave, or what a write took
pub data Event : Type 0 where
  Read : List ℕ → Event
  Wrote : List ℕ → Event

abbrev pub bytes_read : Event → List ℕ
bytes_read (Read bytes) = bytes
bytes_read (Wrote bytes) = []

abbrev pub bytes_written : Event → List ℕ
bytes_written (Read bytes) = []
bytes_written (Wrote bytes) = bytes

-- all bytes that the reads gave
abbrev pub was_read : List Event → List ℕ
was_read events = flat_map bytes_read events

-- all bytes that the writes took
abbrev pub was_written : List Event → List ℕ
was_written events = flat_map bytes_written events

-- these pieces were written, one after another
abbrev pub writes_of : List (List ℕ) → List Event
writes_of pieces = map (λ piece. Wrote piece) pieces

-- ---- what a call did; `did` is the `Did` of a `Wire` (src/wire.rt): a first state, a later one and the events between them

-- whatever had led to the first state, with these events more it leads to the second
abbrev pub Does : {W : Type 0} → (W → W → List Event → Type 0) → W → List Event → W → Type 0
Does {W} did old more new = (start : W) (events : List Event) → did start old events → did start new (events ++ more)

-- whatever had led to the first state leads to the second
abbrev pub DoesNothing : {W : Type 0} → (W → W → List Event → Type 0) → W → W → Type 0
DoesNothing {W} did old new = (start : W) (events : List Event) → did start old events → did start new events

-- these bytes were written, in pieces
abbrev pub Writes : {W : Type 0} → (W → W → List Event → Type 0) → W → List ℕ → W → Type 0
Writes did old bytes new = (pieces : List (List ℕ)) × Does did old (writes_of pieces) new × (concat pieces ≡ bytes)

-- what a call leaves of the two marks of a wire: its own side, reads or writes, has failed if the call did, and else as before; the other is as before
pub record TellsFaults {W X E : Type 0} (failed other : W → Bool) (old : W) (result : Result X E) (new : W) : Type 0 where
  pub ok : OnOk result (failed new ≡ failed old)
  pub err : OnErr result (failed new ≡ true)
  pub other_side : other new ≡ other old

-- How a call ends that did this, or did nothing. `failed` says whether a call of its own side, reads or writes, has failed, and `other` whether one of
-- the other side has.
pub record Ends {W X E : Type 0} (did : W → W → List Event → Type 0) (failed other : W → Bool) (old : W) (events : X → List Event) (result : Result X E) (new : W) : Type 0 where
  pub done : IfOk result (λ x. Does did old (events x) new)
  pub nothing : OnErr result (DoesNothing did old new)
  pub faults : TellsFaults failed other old result new

-- the law of `all_was_read` (src/wired.rt): if nothing more comes, the reads have given all that was left to read at first, if that is known
abbrev pub AllWasRead : {W : Type 0} → (W → W → List Event → Type 0) → (W → Type 0) → (W → Option (List ℕ)) → Type 0
AllWasRead {W} did at_end left = (start wire : W) (events : List Event) → did start wire events → at_end wire → IfSome (left start) (λ bytes. was_read events ≡ bytes)
