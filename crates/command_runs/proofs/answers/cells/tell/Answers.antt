-- The report of all cells is told, or a fault.
use Rattle.std.proofs.Common.{map, string_bytes, sym, ◌∙◌}
use Rattle.command_runs.proofs.answers.CellsServed.{same_source, told_served, told_unjoined}
use Rattle.command_runs.proofs.answers.cells.tell.Goals as goal

pub returns-in-Ok-joined : goal.returns-in-Ok-joined
returns-in-Ok-joined g c = record {
  tells = λ o lent grid of_grid answered.
      let (same, given, gave, ended, report) = rw c.in-Ok.is at answered in
      let r = c.args.cells.now in (
        same_source g.S.Source.left g.S.Source.failed lent r given gave,
        told_served g.S.Source.left g.S.Source.failed o lent r given gave ended (of_grid ∙ sym same) c.grids_keep_limits.ensures c.begun-begun.ensures.read
            c.in-Ok-joined.text (map string_bytes c.in-Ok.texts.items) report c.in-Ok-joined.ensures,
      );
}

pub returns-in-Err-joined : goal.returns-in-Err-joined
returns-in-Err-joined g c = record {
  tells = λ o lent grid of_grid answered.
      let (same, given, gave, ended, report) = rw c.in-Ok.is at answered in
      let r = c.args.cells.now in (
        same_source g.S.Source.left g.S.Source.failed lent r given gave,
        told_unjoined g.S.Source.left g.S.Source.failed o lent r given gave ended c.begun-begun.ensures.stop,
      );
}

pub returns-in-Err : goal.returns-in-Err
returns-in-Err g c = record {
  tells = λ o lent grid of_grid answered.
      let (same, given, gave) = rw c.in-Err.is at answered in
      c.tell_fault.ensures.tells o lent given (of_grid ∙ sym same) gave;
}
