use Rattle.std.proofs.Common.{◌≡◌, ◌++◌}
use Rattle.sheet_core.specs.inner.Lines.{repeated_bytes}
use Rattle.sheet_core.proofs.print.push_rows.Given as goal

abbrev pub invariant-loop : goal.invariant-loop
invariant-loop l = l.bytes.items ≡ l.fn.bytes.items ++ repeated_bytes l.counter l.line
