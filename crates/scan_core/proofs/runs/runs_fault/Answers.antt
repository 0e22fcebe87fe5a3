use Rattle.std.proofs.Common.{◌≡◌, ◌∙◌, nat_le, true, ap, sym}
use Rattle.std.specs.List.{list_all}
use Rattle.scan_core.specs.Row.{inner}
use Rattle.scan_core.proofs.RowFacts.{many_runs, too_wide}
use Rattle.scan_core.proofs.runs.runs_fault.Goals as goal
use Rattle.scan_core.proofs.runs.runs_fault.Goals.{then-widths-gt-MOST_RUNS-via-then-widths-gt-MOST_RUNS, then-widths-gt-MOST_RUNS-via-else-widths-gt-MOST_RUNS+then-total-gt-MOST_DOTS}

pub returns-then-widths-gt-MOST_RUNS : goal.returns-then-widths-gt-MOST_RUNS
returns-then-widths-gt-MOST_RUNS c =
    let widths = c.args.widths.now in
    let dots : list_all (λ w. nat_le 1 w) (inner widths) ≡ true =
    ap (list_all (λ w. nat_le 1 w)) (sym c.inner.ensures) ∙ sym c.have_dots.ensures ∙ c.if-not-have_dots.false in
    too_wide widths c.if-widths-eq0.false dots (elim c.then-widths-gt-MOST_RUNS.branch [
      | then-widths-gt-MOST_RUNS-via-then-widths-gt-MOST_RUNS w ↦ many_runs widths dots w.if-widths-gt-MOST_RUNS.true
      | then-widths-gt-MOST_RUNS-via-else-widths-gt-MOST_RUNS+then-total-gt-MOST_DOTS w ↦ rw (← w.total.ensures) w.if-total-gt-MOST_DOTS.true
    ])
