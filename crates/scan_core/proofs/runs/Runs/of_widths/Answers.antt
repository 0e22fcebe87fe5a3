use Rattle.scan_core.proofs.KeptFacts.{unread}
use Rattle.scan_core.proofs.RowFacts.{row_of}
use Rattle.scan_core.proofs.runs.Runs.of_widths.Goals as goal

pub invariant_of-result : goal.invariant_of-result
invariant_of-result c =
    unread c.put_slice.new.self.list c.in_ok-kept.kept.value c.deref_mut.result.now
    (rw c.in-Ok.ensures (row_of c.args.widths.now c.in_default.ensures)) c.in_ok-kept.ensures.ok c.deref_mut.ensures.value
