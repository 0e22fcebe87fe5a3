use Rattle.std.proofs.Common.{◌+◌, ◌∙◌, ap, ap₂, arith, length, sym}
use Rattle.digits_core.specs.Buffers.{pasted}
use Rattle.sheet_core.specs.inner.Lines.{repeated_bytes}
use Rattle.digits_core.proofs.Pasted.{length-pasted, pasted_none}
use Rattle.sheet_core.proofs.PasteFacts.{end_more, row_fits, rows_pasted}
use Rattle.sheet_core.proofs.label_image.put_rows.Goals as goal

pub loop-init : goal.loop-init
loop-init c = record {
  end = omega arith;
  put = sym (pasted_none c.args.out.now c.args.at);
}

pub put_at-end-requires : goal.put_at-end-requires
put_at-end-requires c =
    let line = c.args.line.now in
    let fits = row_fits c.loop.counter c.args.count c.args.at (length c.args.out.now) line (omega arith) c.requires in
    let long = ap length c.loop.invariant.put ∙ length-pasted c.args.out.now c.args.at (repeated_bytes c.loop.counter line) (omega arith) in
    let end = c.loop.invariant.end in
    omega arith

pub loop-preserved : goal.loop-preserved
loop-preserved c =
    let line = c.args.line.now in
    let k = c.loop.counter in
    record {
      end = c.put_at-end.ensures.end ∙ ap (λ n. n + length line) c.loop.invariant.end ∙ end_more k c.args.at line;
      put = c.put_at-end.ensures.put ∙ ap₂ (λ out end. pasted out end line) c.loop.invariant.put c.loop.invariant.end
          ∙ rows_pasted c.args.out.now k c.args.at line (omega arith);
    }
