-- A record that is refused names its fault only once all of the source is read.
use Rattle.std.proofs.Common.{refl}
use Rattle.command_runs.proofs.answers.ReadRows.{why_at_end, why_passed}
use Rattle.command_runs.proofs.answers.row_reader.RowReader.why_refused.Goals as goal

pub returns-in-Ok : goal.returns-in-Ok
returns-in-Ok g c = record {
  of_lanes = refl;
  count = refl;
  why = λ lanes lent items read.
      rw c.at.ensures (why_passed _ _ lanes lent c.args.self.now c.pass_rest.new.self items c.args.refusal c.in-Lines.is c.in-Ok.ensures read);
}

pub returns-in_default : goal.returns-in_default
returns-in_default g c = record {
  of_lanes = refl;
  count = refl;
  why = λ lanes lent items read. rw c.at-in_default.ensures (why_at_end _ _ lanes lent c.args.self.now items c.args.refusal c.in_default.not-Lines read);
}
