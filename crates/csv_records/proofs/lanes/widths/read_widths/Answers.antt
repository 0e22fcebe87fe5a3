use Rattle.std.proofs.Common.{Ok, ap, sym, ◌∙◌}
use Rattle.csv_records.specs.lanes.Widths.{widths_in}
use Rattle.csv_records.proofs.lanes.Capped.{capped_narrow}
use Rattle.csv_records.proofs.lanes.widths.read_widths.Goals as goal

pub returns-then-branch-clause-widths : goal.returns-then-branch-clause-widths
returns-then-branch-clause-widths c =
    let read = c.in_ok-read_short_widths.ensures.read (ap (λ b. Ok b) c.if-branch.true) in
    read.1 ∙ sym (capped_narrow (widths_in c.args.field.now) read.2)
