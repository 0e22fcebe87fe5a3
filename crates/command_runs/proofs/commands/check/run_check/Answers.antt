-- If a write fails, the sink took a prefix of the lines: as in `lanes/run_lanes`, of other records.
use Rattle.std.proofs.Common.{◌≡◌, ◌∙◌, rules, string_bytes}
use Rattle.csv_records.specs.check.Checks.{check_meaning, check_report}
use Rattle.command_runs.specs.commands.Checks.{check_command}
use Rattle.command_runs.proofs.HowRunsEnd.{records_cut}
use Rattle.command_runs.proofs.commands.check.run_check.Goals as goal

pub returns-in_err-write_all : goal.returns-in_err-write_all
returns-in_err-write_all g c =
    let year = c.args.year in
    let lines = string_bytes c.in_ok-lines.lines in
    record {
      ok = search rules;
      cut = λ same. records_cut (check_meaning year) (λ answers. lines ≡ check_report answers) (λ answers text. text ≡ check_report answers)
          (check_command year).refuses lines c.as_bytes.result.now
          (g.S.Source.left c.args.source.now) (g.S.Source.left c.check_lines.new.source) (g.W.Sink.taken c.args.sink.now) (g.W.Sink.taken c.write_all.new.sink)
          c.in_ok-lines.ensures.ok (λ answers it. it) (c.as_bytes.ensures.value ∙ c.as_str.ensures.value) c.in_err-write_all.ensures.err;
      refused = search rules;
      unwritten = search rules;
      read = search rules;
      write = search rules;
    }
