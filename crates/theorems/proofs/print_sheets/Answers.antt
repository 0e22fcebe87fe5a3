use Rattle.std.proofs.lemmas.Result.{IfOk-weaker}
use Rattle.sheet_core.specs.Drawing.{ArePrinted}
use Rattle.theorems.proofs.print_sheets.Goals as goal

pub returns : goal.returns
returns c =
    let labels = c.args.labels.now in
    let g = c.args.grid in
    IfOk-weaker c.print_sheets.result (λ sheets. ArePrinted labels g sheets.items) _
    (λ sheets printed label row year list said bar says. c.bar_rows_answer.ensures labels g sheets.items label row year list said printed bar says)
    c.print_sheets.ensures.ok
