-- What is told is true of the source, whatever cells were given.
use Rattle.std.proofs.Common.{◌≡◌, ◌∙◌, ◌++◌, [], List, ap, arith, length, refl, string_bytes, subst, sym, true, false}
use Rattle.sheet_core.specs.Bitmaps.{Bitmap}
use Rattle.std.proofs.lemmas.List.{nil_from_length}
use Rattle.command_runs.specs.Columns.{AreColumns}
use Rattle.command_runs.specs.Grids.{cells_of}
use Rattle.command_runs.proofs.CellsGiven.{sizes_more}
use Rattle.command_runs.proofs.answers.CellsServed.{no_cells, told_memory, told_refused, told_report, told_thread, told_unfit}
use Rattle.command_runs.proofs.answers.cells.tell_fault.Goals as goal

pub returns-in-Refused : goal.returns-in-Refused
returns-in-Refused g c = record {
  tells = λ o lent given grid gave.
      let is = rw c.in-Refused.is at gave in (is.same, rw c.from.ensures (told_refused o g.S.Source.left g.S.Source.failed lent c.args.cells.now.images c.in-Refused.refused is));
}

pub returns-in-Unfit : goal.returns-in-Unfit
returns-in-Unfit g c = record {
  tells = λ o lent given grid gave.
      let (sheets, last, unfit) = rw c.in-Unfit.is at gave in
      (last.has.same, told_unfit o g.S.Source.left g.S.Source.failed lent c.args.cells.now.images sheets last c.begun-before.ensures.read (rw grid unfit));
}

pub returns-in-Cells : goal.returns-in-Cells
returns-in-Cells g c = record {
  tells = λ o lent given grid gave.
      let was = rw c.in-Cells.is at gave in
      (was.has.same, told_memory o g.S.Source.left g.S.Source.failed lent c.args.cells.now.images ((c.begun-before.ensures.stop lent was.sheets).1 was.passed was.has) was.has.works);
}

pub returns-in-Ended : goal.returns-in-Ended
returns-in-Ended g c = record {
  tells = λ o lent given grid gave.
      let was = (rw c.in-Ended.is at gave).0 in
      (was.has.same, told_memory o g.S.Source.left g.S.Source.failed lent c.args.cells.now.images ((c.begun-before.ensures.stop lent was.sheets).0 was.has) was.has.works);
}

pub returns-in-Err : goal.returns-in-Err
returns-in-Err g c = record {
  tells = λ o lent given grid gave.
      let was = rw c.in-Sheets.is at gave in
      let is = c.in-Err.ensures lent was.sheets was.has in
      (is.same, rw c.from-in-Err.ensures (told_refused o g.S.Source.left g.S.Source.failed lent c.pass_images-passed.new.images c.in-Err.refused is));
}

pub returns-in-Ok-false : goal.returns-in-Ok-false
returns-in-Ok-false g c = record {
  tells = λ o lent given grid gave.
      let was = rw c.in-Sheets.is at gave in
      let (more, fit, on) = c.in-Ok-false.ensures in
      let last = on lent was.sheets was.has in
      let unfit = sizes_more c.args.cells.now.grid was.sheets more true false was.fit (sym fit ∙ c.in-Ok-false.field-0-test) in
      (last.has.same, told_unfit o g.S.Source.left g.S.Source.failed lent c.pass_images-passed.new.images (was.sheets ++ more) last c.begun-begun.ensures.read (rw grid unfit));
}

pub returns-in-Ok-true : goal.returns-in-Ok-true
returns-in-Ok-true g c = record {
  tells = λ o lent given grid gave.
      let was = rw c.in-Sheets.is at gave in
      let (more, fit, on) = c.in-Ok-true.ensures in
      let all = was.sheets ++ more in
      let last = on lent was.sheets was.has in
      let sized = sizes_more c.args.cells.now.grid was.sheets more true true was.fit (sym fit ∙ c.in-Ok-true.field-0-test) in
      let none : all ≡ [] = nil_from_length all (omega (arith, last.has.count, c.begun-begun.ensures.value, c.if-begun-eq0.true)) in
      let (feeds, have, report) = no_cells o (string_bytes c.new.result) c.new.ensures.bytes in (
        last.has.same,
        told_report o g.S.Source.left g.S.Source.failed lent c.pass_images-passed.new.images all last c.begun-begun.ensures.read (rw grid c.grids_keep_limits.ensures) (rw grid sized)
            c.new.result feeds (subst (λ sheets. AreColumns (cells_of o.grid) sheets feeds) (sym none) have) report,
      );
}

pub returns-in-NoThread : goal.returns-in-NoThread
returns-in-NoThread g c = record {
  tells = λ o lent given grid gave.
      let was = rw c.in-Sheets.is at gave in
      let (more, fit, on) = c.in-Ok-true.ensures in
      let last = on lent was.sheets was.has in
      let sized = sizes_more c.args.cells.now.grid was.sheets more true true was.fit (sym fit ∙ c.in-Ok-true.field-0-test) in (
        last.has.same,
        told_thread o g.S.Source.left g.S.Source.failed lent c.pass_images-passed.new.images (was.sheets ++ more) last c.begun-begun.ensures.read (rw grid c.grids_keep_limits.ensures) (rw grid sized)
            (λ none. omega (arith, last.has.count, c.begun-begun.ensures.value, c.if-begun-eq0.false, ap length none)),
      );
}

pub returns-in-NoMemory : goal.returns-in-NoMemory
returns-in-NoMemory g c = record {
  tells = λ o lent given grid gave.
      let was = rw c.in-Sheets.is at gave in
      let (more, fit, on) = c.in-Ok-true.ensures in
      let last = on lent was.sheets was.has in
      (last.has.same, told_memory o g.S.Source.left g.S.Source.failed lent c.pass_images-passed.new.images ((c.begun-begun.ensures.stop lent (was.sheets ++ more)).0 last.has) last.has.works);
}
