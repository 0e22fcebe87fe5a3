use Rattle.std.proofs.Common.{◌≡◌, ◌+◌, length}
use Rattle.digits_core.specs.Buffers.{pasted}
use Rattle.sheet_core.specs.inner.Lines.{repeated_bytes}
use Rattle.sheet_core.proofs.label_image.put_rows.Given as goal

abbrev pub invariant-loop : goal.invariant-loop
invariant-loop l = record {
  end : l.end ≡ l.fn.at + length (repeated_bytes l.counter l.line);
  put : l.out ≡ pasted l.fn.out l.fn.at (repeated_bytes l.counter l.line);
}
