-- What was taken of an input that comes in pieces adds up (of specs/inner/HeldInputs).
use Rattle.std.proofs.Common.{Bool, List, MutBor, Option, [], append-nil, append_assoc, subst, sym, ℕ, ◌++◌, ◌≡◌}
use Rattle.digits_core.specs.declared.source.InputFault.{InputFault}
use Rattle.command_runs.specs.inner.HeldInputs.{HasTaken, StopsReading, TakesMore}
use Rattle.command_runs.specs.declared.answers.held_input.HeldInput.{HeldInput}

module _ {S : Type 0} (left : S → Option (List ℕ)) (failed : S → Bool) where
  -- nothing, and one piece after another
  pub takes_none : (i : HeldInput S) → TakesMore left failed i [] i
  takes_none i lent taken was = subst (HasTaken left failed lent i) (sym (append-nil taken)) was

  pub takes_both : (i j k : HeldInput S) (front rest : List ℕ) → TakesMore left failed i front j → TakesMore left failed j rest k
      → TakesMore left failed i (front ++ rest) k
  takes_both i j k front rest first second lent taken was =
      subst (HasTaken left failed lent k) (append_assoc taken front rest) (second lent (taken ++ front) (first lent taken was))

  -- what was taken depends on nothing of an input but its source and its room
  pub taken_as : (i j : HeldInput S) → j.source ≡ i.source → j.room ≡ i.room → (lent : MutBor S) (taken : List ℕ) → HasTaken left failed lent i taken
      → HasTaken left failed lent j taken
  taken_as i j source room lent taken now = record {
    same = rw source now.same;
    came = rw source now.came;
    room = rw room now.room;
    works = rw source now.works;
  }

  pub takes_as : (i j k : HeldInput S) (more : List ℕ) → k.source ≡ j.source → k.room ≡ j.room → TakesMore left failed i more j → TakesMore left failed i more k
  takes_as i j k more source room takes lent taken was = taken_as j k source room lent (taken ++ more) (takes lent taken was)

  -- a fault after a piece is one of the whole
  pub stops_later : (i j k : HeldInput S) (more : List ℕ) (fault : InputFault) → TakesMore left failed i more j → StopsReading left failed j fault k
      → StopsReading left failed i fault k
  stops_later i j k more fault takes stops lent taken was = stops lent (taken ++ more) (takes lent taken was)
