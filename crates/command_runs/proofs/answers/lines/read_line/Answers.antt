-- A line without a comma is refused as `Csv`. The row of the first two fields is that of the line. A second comma makes each refusal of them `Csv`; without one it is that of the line.
use Rattle.std.proofs.Common.{refl, take}
use Rattle.command_runs.proofs.answers.WidthFields.{many_fields, no_more_fields, row_of_line}
use Rattle.command_runs.proofs.live.LineMeanings.{behind_comma, cut_at, only_field}
use Rattle.command_runs.proofs.answers.lines.read_line.Goals as goal

pub returns-in_default : goal.returns-in_default
returns-in_default c = rw (only_field c.args.line.now c.in_default.ensures).0 refl

pub returns-in-Ok : goal.returns-in-Ok
returns-in-Ok c =
    let line = c.args.line.now in
    let k = c.in-Some.comma in
    (row_of_line c.args.lanes line (take k line) (behind_comma line k) (cut_at line k c.in-Some.ensures).2 c.in-Ok.row c.in-Ok.ensures.0, c.in-Ok.ensures.1)

pub returns-in-Some-memchr : goal.returns-in-Some-memchr
returns-in-Some-memchr c =
    let line = c.args.line.now in
    let k = c.in-Some.comma in
    many_fields c.args.lanes line (take k line) (behind_comma line k) (cut_at line k c.in-Some.ensures).2 c.in-Some-memchr.field-0 c.in-Some-memchr.ensures

pub returns-in-None : goal.returns-in-None
returns-in-None c =
    let line = c.args.line.now in
    let k = c.in-Some.comma in
    no_more_fields c.args.lanes line (take k line) (behind_comma line k) (cut_at line k c.in-Some.ensures).2 c.in-Err-Record.fault c.in-None.ensures
    (rw c.in-Err-Record.field-0-is at c.in-Err-Record.ensures)
