-- The pieces that are read, one behind another, are all that was left; `pass_rest` keeps none of them.
use Rattle.std.proofs.Common.{[], ap, arith, append-nil, append_assoc, refl, sym, ◌++◌, ◌∙◌}
use Rattle.command_runs.specs.inner.HeldInputs.{held_of}
use Rattle.command_runs.proofs.ToldFaults.{told_fault}
use Rattle.command_runs.proofs.answers.HeldBytes.{all_held}
use Rattle.command_runs.proofs.answers.TakenAddsUp.{stops_later, takes_as, takes_both, takes_none}
use Rattle.command_runs.proofs.answers.held_input.HeldInput.read_rest.Goals as goal

pub pieces-init : goal.pieces-init
pieces-init g c = record { more = []; room = omega arith; held = sym (append-nil (held_of c.args.self.now)); takes = takes_none _ _ c.args.self.now }

pub pieces-preserved : goal.pieces-preserved
pieces-preserved g c =
    let was = c.pieces.invariant in
    let now = c.in_ok-read_piece.ensures in
    record {
      held = now.1 ∙ ap (λ xs. xs ++ now.0) was.held ∙ append_assoc (held_of c.args.self.now) was.more now.0;
      more = was.more ++ now.0;
      room = omega (arith, was.room, now.3);
      takes = takes_both _ _ c.args.self.now c.pieces.self c.read_piece.new.self was.more now.0 was.takes now.5;
    }

pub returns : goal.returns
returns g c =
    let was = c.pieces.invariant in
    let now = rw c.if-branch.false at c.in_ok-read_piece.ensures in
    let held = c.read_piece.new.self in (
      omega (arith, was.room, now.3),
      (
        was.more ++ now.0,
        ap (λ v. v.items) c.replace.ensures.value ∙ c.truncate.ensures.items ∙ all_held held.bytes.items held.start held.end now.2 ∙ now.1 ∙ ap (λ xs. xs ++ now.0) was.held ∙ append_assoc (held_of c.args.self.now) was.more now.0,
        now.4.1,
        takes_as _ _ c.args.self.now c.read_piece.new.self _ (was.more ++ now.0) refl refl
            (takes_both _ _ c.args.self.now c.pieces.self c.read_piece.new.self was.more now.0 was.takes now.5),
      ),
    )

pub returns-in_err-read_piece : goal.returns-in_err-read_piece
returns-in_err-read_piece g c =
    let was = c.pieces.invariant in
    rw (told_fault c.from_residual.result c.in_err-read_piece.field-0.0 c.from_residual.ensures.1) (
      omega (arith, was.room, c.in_err-read_piece.ensures.0),
      stops_later _ _ c.args.self.now c.pieces.self c.read_piece.new.self was.more c.in_err-read_piece.field-0.0 was.takes c.in_err-read_piece.ensures.1,
    )
