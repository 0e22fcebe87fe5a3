use Rattle.std.proofs.Common.{◌∙◌, ap}
use Rattle.scan_core.specs.Row.{runs_fault}
use Rattle.scan_core.specs.declared.runs.Kept.{Kept}
use Rattle.scan_core.proofs.KeptFacts.{unread}
use Rattle.scan_core.proofs.RowFacts.{row_of}
use Rattle.scan_core.proofs.runs.Runs.written_by.Goals as goal

pub invariant_of-result : goal.invariant_of-result
invariant_of-result g c =
    let widths = c.put_written.new.self.list in
    let same = c.as_slice.ensures ∙ ap (λ (k : Kept). k.widths.list) c.deref.ensures in
    unread widths c.in_ok-kept.kept.value c.deref_mut.result.now (row_of widths (c.in-None.ensures ∙ ap runs_fault same)) c.in_ok-kept.ensures.ok
    c.deref_mut.ensures.value
