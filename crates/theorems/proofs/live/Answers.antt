use Rattle.std.proofs.Common.{subst}
use Rattle.wire_core.specs.Events.{was_read, was_written}
use Rattle.wire_core.specs.Lines.{pieces_of}
use Rattle.command_runs.specs.live.Text.{Answers}
use Rattle.theorems.proofs.LiveEnds.{at_end}
use Rattle.theorems.proofs.live.Goals as goal

pub returns : goal.returns
returns g c = λ form.
    let rows_asked = c.args.options.rows in
    let stopped = c.run_live.ensures.lived.0 in
    let lived = c.run_live.ensures.lived.1 in
    let e = lived.events in
    at_end
    (λ ok. record {
      events = e;
      were_done = lived.were_done;
      ended = ok.1;
      answered = λ rows given. c.lines_are_report.ensures rows_asked.lanes rows_asked.year (was_read e) (was_written e) rows given.plain given.short given.meant given.few
          (subst (λ f. Answers rows_asked.lanes f rows_asked.year (pieces_of (was_read e)) (was_written e)) form ok.0.0);
    })
    stopped c.run_live.result.1 c.run_live.ensures.lived.2 lived.ok
