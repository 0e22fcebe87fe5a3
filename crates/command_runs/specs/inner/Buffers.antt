-- A sink behind a buffer (`buffered.rt`).
use Rattle.std.specs.Prelude.{◌≡◌, ℕ, Bool, true, List, Option, Result, IsErr, IsTrue, OnErr, OnOk}
use Rattle.std.specs.Io.KnownBytes.{Keeps, append_known}

-- a sink, and the bytes that wait for it
pub record SinkAndWaiting (W : Type 0) : Type 0 where
  pub sink : W
  pub waiting : List ℕ

-- what the sink took and then what waits, if that is known
abbrev pub taken_and_waiting : {W : Type 0} → (W → Option (List ℕ)) → SinkAndWaiting W → Option (List ℕ)
taken_and_waiting taken s = append_known (taken s.sink) s.waiting

-- what the sink took and then what waits is what it was
abbrev pub KeepsBytes : {W : Type 0} → (W → Option (List ℕ)) → SinkAndWaiting W → SinkAndWaiting W → Type 0
KeepsBytes taken old new = Keeps (taken_and_waiting taken old) (taken_and_waiting taken new)

-- What a call reports of its sink (`TellsFaults` of wire_core is of the two sides of a wire). If the call fails, the sink has failed from then on; otherwise
-- no more than before. If the sink had failed, the call fails.
pub record TellsFailure {W E : Type 0} (failed : W → Bool) (old : W) (result : Result (Unit {0}) E) (new : W) : Type 0 where
  pub ok : OnOk result (failed new ≡ failed old)
  pub err : OnErr result (failed new ≡ true)
  pub again : IsTrue (failed old) → IsErr result
