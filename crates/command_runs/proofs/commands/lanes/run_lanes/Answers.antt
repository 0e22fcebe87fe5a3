-- The rows are refused, or a write fails and the sink took a prefix of the report: the last as in `check/run_check`.
use Rattle.std.proofs.Common.{◌≡◌, ◌∙◌, Err, ap, rules, string_bytes}
use Rattle.command_runs.specs.answers.Reports.{IsReport}
use Rattle.csv_records.specs.lanes.Feeds.{feeds_of, lanes_meaning}
use Rattle.command_runs.specs.commands.Lanes.{lanes_command}
use Rattle.command_runs.specs.Faults.{of_rows}
use Rattle.command_runs.specs.declared.answers.rows.RowsFault.TheVariants as rows_fault
use Rattle.csv_records.specs.declared.input.fault.RecordsFault.TheVariants as records
use Rattle.command_runs.proofs.HowLanesEnds.{rows_told, rows_unanswered}
use Rattle.command_runs.proofs.HowRunsEnd.{records_cut}
use Rattle.command_runs.proofs.ToldFaults.{not_cut, one_fault_told, refused_as, told_fault}
use Rattle.command_runs.proofs.FewEnough.{count_fits}
use Rattle.command_runs.proofs.commands.lanes.run_lanes.Goals as goal

pub answer_records-requires-clause-counts : goal.answer_records-requires-clause-counts
answer_records-requires-clause-counts g c κs within =
    let o = c.args.options in (count_fits o.lanes o.some_lanes, count_fits o.workers o.some_workers)

pub returns-in_err-lines : goal.returns-in_err-lines
returns-in_err-lines g c =
    let o = c.args.options in
    let fault = c.in_err-lines.field-0.0 in
    let left = g.S.Source.left c.args.source.now in
    let rest = g.S.Source.left c.answer_records.new.source in
    let r = c.from_residual.result in
    let told = c.from_residual.ensures.1 in
    record {
      ok = search rules;
      cut = λ same. absurd (not_cut r (of_rows fault) (rows_told fault).0 told same);
      refused = refused_as r (of_rows fault) ((lanes_command o).refuses left rest) told
          (rows_unanswered o.lanes left rest fault c.in_err-lines.ensures.refused);
      unwritten = search rules;
      read = λ sound. let same = c.in_err-lines.ensures.fault sound in (
        λ is. same.0 (ap (λ f. Err f) ((rows_told fault).1 (one_fault_told r (of_rows fault) _ told is))),
        λ failed. let is : fault ≡ rows_fault.Records records.ReadFault = cc (same.1 failed) in told_fault r (of_rows fault) told ∙ ap (λ f. Err (of_rows f)) is,
      );
      write = search rules;
    }

pub returns-in_err-write_all : goal.returns-in_err-write_all
returns-in_err-write_all g c =
    let o = c.args.options in
    let lines = string_bytes c.in_ok-lines.lines in
    record {
      ok = search rules;
      cut = λ same. records_cut (lanes_meaning o.lanes) (λ rows. IsReport o.year (feeds_of o.lanes rows) lines)
          (λ rows text. IsReport o.year (feeds_of o.lanes rows) text)
          (lanes_command o).refuses lines c.as_bytes.result.now
          (g.S.Source.left c.args.source.now) (g.S.Source.left c.answer_records.new.source) (g.W.Sink.taken c.args.sink.now)
          (g.W.Sink.taken c.write_all.new.sink)
          c.in_ok-lines.ensures.report (λ rows it. it) (c.as_bytes.ensures.value ∙ c.as_str.ensures.value) c.in_err-write_all.ensures.err;
      refused = search rules;
      unwritten = search rules;
      read = search rules;
      write = search rules;
    }
