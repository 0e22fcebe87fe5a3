-- What was read so far stands behind what was held at first.
use Rattle.std.proofs.Common.{List, ℕ, ◌++◌, ◌≡◌, ◌≤◌}
use Rattle.command_runs.specs.inner.HeldInputs.{TakesMore, held_of}
use Rattle.command_runs.proofs.answers.held_input.HeldInput.read_rest.Given as goal

abbrev pub invariant-pieces : goal.invariant-pieces
invariant-pieces g l = record {
  more : List ℕ;
  held : held_of l.self ≡ held_of l.fn.self ++ more;
  room : l.self.room ≤ l.fn.self.room;
  takes : TakesMore g.S.Source.left g.S.Source.failed l.fn.self more l.self;
}

abbrev pub decreases-pieces : goal.decreases-pieces
decreases-pieces g l = l.self.room
