use Rattle.std.proofs.Common.{◌∙◌, ap}
use Rattle.scan_core.specs.Row.{runs_fault}
use Rattle.scan_core.proofs.KeptFacts.{unread}
use Rattle.scan_core.proofs.RowFacts.{row_of}
use Rattle.scan_core.proofs.runs.Runs.from_widths.Goals as goal

pub invariant_of-result : goal.invariant_of-result
invariant_of-result c =
    let row = row_of c.args.widths.items (c.in-None.ensures ∙ ap runs_fault c.as_slice.ensures.value) in
    unread c.put_vec-spare.new.self.list c.in_ok-kept-in-None.kept.value c.deref_mut.result.now (rw c.put_vec-spare.ensures row)
    c.in_ok-kept-in-None.ensures.ok c.deref_mut.ensures.value
