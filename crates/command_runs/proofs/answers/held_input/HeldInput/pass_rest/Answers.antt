-- The pieces that are passed over, one after another, are all that was left; `read_rest` does the same, and keeps them.
use Rattle.std.proofs.Common.{[], ◌++◌}
use Rattle.command_runs.proofs.ToldFaults.{told_fault}
use Rattle.command_runs.proofs.answers.TakenAddsUp.{stops_later, takes_as, takes_both, takes_none}
use Rattle.command_runs.proofs.answers.held_input.HeldInput.pass_rest.Goals as goal

pub pieces-init : goal.pieces-init
pieces-init g c = record { more = []; takes = takes_none _ _ c.args.self.now }

pub pieces-preserved : goal.pieces-preserved
pieces-preserved g c =
    let (piece, held, start, room, some, takes) = c.in_ok-read_piece.ensures in
    let all = c.pieces.invariant.more ++ piece in
    record {
      more = all;
      takes = takes_as _ _ c.args.self.now c.read_piece.new.self c.give_up.new.self all c.give_up.ensures.1 c.give_up.ensures.2
          (takes_both _ _ c.args.self.now c.pieces.self c.read_piece.new.self c.pieces.invariant.more piece c.pieces.invariant.takes takes);
    }

pub returns : goal.returns
returns g c =
    let (piece, held, start, room, end, takes) = rw c.if-branch.false at c.in_ok-read_piece.ensures in (
      c.pieces.invariant.more ++ piece,
      end.1,
      takes_both _ _ c.args.self.now c.pieces.self c.read_piece.new.self c.pieces.invariant.more piece c.pieces.invariant.takes takes,
    )

pub returns-in_err-read_piece : goal.returns-in_err-read_piece
returns-in_err-read_piece g c =
    rw (told_fault c.from_residual.result c.in_err-read_piece.field-0.0 c.from_residual.ensures.1) (stops_later _ _ c.args.self.now c.pieces.self
    c.read_piece.new.self c.pieces.invariant.more c.in_err-read_piece.field-0.0 c.pieces.invariant.takes c.in_err-read_piece.ensures.1)
