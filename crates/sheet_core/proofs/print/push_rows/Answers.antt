use Rattle.std.proofs.Common.{◌++◌, ◌∙◌, sym, ap, append_assoc}
use Rattle.sheet_core.specs.inner.Lines.{repeated_bytes}
use Rattle.sheet_core.proofs.BandFacts.{rows_more}
use Rattle.sheet_core.proofs.print.push_rows.Goals as goal

pub loop-preserved : goal.loop-preserved
loop-preserved c =
    let line = c.args.line.now in
    c.in_ok-extend_from_slice.ensures.items
    ∙ ap (λ bytes. bytes ++ line) c.loop.invariant
    ∙ append_assoc c.args.bytes.now.items (repeated_bytes c.loop.counter line) line
    ∙ ap (λ rows. c.args.bytes.now.items ++ rows) (sym (rows_more c.loop.counter line))
