-- The report of the columns is written, or the grid, the images or their answers are refused, or a write fails. Each goal has a context of its own, so each names its parts anew.
use Rattle.std.proofs.Common.{◌≡◌, ◌∙◌, Err, ap, false, refl, string_bytes, subst, sym, true}
use Rattle.std.proofs.lemmas.Bool.{false≢true}
use Rattle.digits_core.specs.Bytes.{TookFront}
use Rattle.std.specs.Io.KnownBytes.{Appends}
use Rattle.command_runs.specs.Grids.{cells_of}
use Rattle.command_runs.specs.Faults.{bad_grid}
use Rattle.command_runs.specs.commands.Scans.{scan_command}
use Rattle.command_runs.specs.declared.fault.CommandFault.TheVariants as command
use Rattle.command_runs.proofs.HowRunsEnd.{cut_run, refused_run, written_run}
use Rattle.command_runs.proofs.HowScanEnds.{refuses_in_grid}
use Rattle.command_runs.proofs.ToldFaults.{never_refused}
use Rattle.command_runs.proofs.commands.scan.run_scan.Goals as goal

pub returns-in_err-grid : goal.returns-in_err-grid
returns-in_err-grid g c =
    refused_run (scan_command c.args.options) g.S.Source.left g.S.Source.failed g.W.Sink.taken g.W.Sink.failed c.args.source.now c.args.source.now
    c.args.sink.now c.from_residual.result bad_grid c.from_residual.ensures.1 (λ grid. false≢true (c.in_err-grid.ensures.exact.1 grid), refl) (λ same. cc)
    (λ sound. (λ same. cc, λ failed. absurd (false≢true (sym sound ∙ failed))))

pub returns-in_err-lines : goal.returns-in_err-lines
returns-in_err-lines g c =
    let o = c.args.options in
    let fault = c.in_err-lines.field-0.0 in
    let e = c.in_err-lines.ensures in
    refused_run (scan_command o) g.S.Source.left g.S.Source.failed g.W.Sink.taken g.W.Sink.failed c.args.source.now c.answer_cells.new.source c.args.sink.now
    c.from_residual-in_err-lines.result fault c.from_residual-in_err-lines.ensures.1
    (refuses_in_grid o _ _ fault (c.in_ok-grid.ensures.exact.0 refl) e.refused) e.other
    (λ sound. (λ same. (e.fault sound).0 (ap (λ f. Err f) same), λ failed. cc ((e.fault sound).1 failed)))

pub returns-in_err-write_all : goal.returns-in_err-write_all
returns-in_err-write_all g c =
    let o = c.args.options in
    let wrote = c.in_ok-lines.ensures.report in
    let sent = c.as_bytes.ensures.value ∙ c.as_str.ensures.value in
    cut_run (scan_command o) g.S.Source.left g.S.Source.failed g.W.Sink.taken g.W.Sink.failed c.args.source.now c.answer_cells.new.source c.args.sink.now
    c.write_all.new.sink c.from_residual-in_err-write_all.result c.from_residual-in_err-write_all.ensures.1
    (wrote.0, string_bytes c.in_ok-lines.lines, wrote.1, wrote.2, subst (TookFront _ _) sent c.in_err-write_all.ensures.err)
    (c.in_ok-grid.ensures.exact.0 refl, tt) (λ sound failed. never_refused c.in_ok-lines.lines command.ReadFault ((c.in_ok-lines.ensures.fault sound).1 failed))
    (λ sound. (c.in_err-write_all.ensures.fault sound).0 refl)

pub returns : goal.returns
returns g c =
    let o = c.args.options in
    let wrote = c.in_ok-lines.ensures.report in
    let sent = c.as_bytes.ensures.value ∙ c.as_str.ensures.value in
    written_run (scan_command o) g.S.Source.left g.S.Source.failed g.W.Sink.taken g.W.Sink.failed c.args.source.now c.answer_cells.new.source c.args.sink.now
    c.write_all.new.sink (wrote.0, string_bytes c.in_ok-lines.lines, wrote.1, wrote.2, subst (Appends _ _) sent c.in_ok-write_all.ensures.ok)
    (λ sound failed. never_refused c.in_ok-lines.lines command.ReadFault ((c.in_ok-lines.ensures.fault sound).1 failed))
    (λ sound failed. false≢true ((c.in_ok-write_all.ensures.fault sound).1 failed))
