use Rattle.std.proofs.Common.{◌≡◌, ◌-◌, ◌≤◌, take, vec_len}
use Rattle.std.specs.Io.KnownBytes.{Consumes}
use Rattle.sheet_core.proofs.pbm.read.read_bytes.Given as goal

abbrev pub decreases-reads : goal.decreases-reads
decreases-reads g l = l.count - l.filled

abbrev pub invariant-reads : goal.invariant-reads
invariant-reads g l = record {
  gave : Consumes (g.R.Source.left l.fn.reader) (g.R.Source.left l.reader) (take l.filled l.bytes.items);
  few : l.filled ≤ vec_len l.bytes;
  fits : vec_len l.bytes ≤ l.count;
  same : g.R.Source.failed l.reader ≡ g.R.Source.failed l.fn.reader;
}
