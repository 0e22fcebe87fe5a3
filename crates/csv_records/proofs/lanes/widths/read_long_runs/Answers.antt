-- What `read_long_runs` answers by the capped widths is true of the field: it shows this row, or has this fault.
use Rattle.std.proofs.Common.{◌≡◌, ◌≢◌, ◌∙◌, Some, ap}
use Rattle.scan_core.specs.declared.fault.RunFault.TheVariants as run
use Rattle.csv_records.specs.declared.input.fault.RecordFault.TheVariants as fault
use Rattle.csv_records.proofs.lanes.FieldFaults.{capped_fault, capped_taken, capped_too_wide}
use Rattle.csv_records.proofs.lanes.widths.read_long_runs.Goals as goal

pub returns-then-is_wide-clause-refused : goal.returns-then-is_wide-clause-refused
returns-then-is_wide-clause-refused c = λ f same.
    let here : fault.TooWide ≡ f = cc in
    let read = c.in_ok-widths.ensures in
    capped_too_wide c.args.field.now c.in_ok-widths.widths.items c.in_ok-widths.is_wide read.words read.widths read.wide c.if-is_wide.true c.in-Ok.ensures.taken
    ∙ ap (λ x. Some x) here

pub returns-else-is_wide-clause-ok : goal.returns-else-is_wide-clause-ok
returns-else-is_wide-clause-ok c =
    let read = c.in_ok-widths.ensures in
    c.in-Ok.ensures.ok
    ∙ (capped_taken c.args.field.now c.in_ok-widths.widths.items c.in_ok-widths.is_wide read.words read.widths read.wide c.if-is_wide.false
    c.in-Ok.ensures.taken).0

pub returns-else-is_wide-clause-taken : goal.returns-else-is_wide-clause-taken
returns-else-is_wide-clause-taken c =
    let read = c.in_ok-widths.ensures in
    (capped_taken c.args.field.now c.in_ok-widths.widths.items c.in_ok-widths.is_wide read.words read.widths read.wide c.if-is_wide.false c.in-Ok.ensures.taken).1

pub returns-in-Err-clause-refused : goal.returns-in-Err-clause-refused
returns-in-Err-clause-refused c = λ f same.
    let read = c.in_ok-widths.ensures in
    let fault = c.in-Err.fault in
    let known : fault ≢ run.NoMemory = λ none. let is = c.refused.ensures.memory none in cc in
    capped_fault c.args.field.now c.in_ok-widths.widths.items fault read.words read.widths (c.in-Err.ensures.refused known) known
    ∙ c.refused.ensures.record f cc
