-- What was passed over so far was taken.
use Rattle.std.proofs.Common.{List, ℕ}
use Rattle.command_runs.specs.inner.HeldInputs.{TakesMore}
use Rattle.command_runs.proofs.answers.held_input.HeldInput.pass_rest.Given as goal

abbrev pub invariant-pieces : goal.invariant-pieces
invariant-pieces g l = record {
  more : List ℕ;
  takes : TakesMore g.S.Source.left g.S.Source.failed l.fn.self more l.self;
}

abbrev pub decreases-pieces : goal.decreases-pieces
decreases-pieces g l = l.self.room
