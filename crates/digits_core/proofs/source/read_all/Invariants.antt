use Rattle.std.proofs.Common.{◌≡◌, ◌-◌, ◌≤◌, vec_len, length}
use Rattle.std.specs.Io.KnownBytes.{Consumes}
use Rattle.digits_core.proofs.source.read_all.Given as goal

abbrev pub decreases-reads : goal.decreases-reads
decreases-reads g l = l.fn.limit - vec_len l.bytes

abbrev pub invariant-reads : goal.invariant-reads
invariant-reads g l = record {
  gave : Consumes (g.S.Source.left l.fn.source) (g.S.Source.left l.source) l.bytes.items;
  small : length l.bytes.items ≤ l.fn.limit;
  same : g.S.Source.failed l.source ≡ g.S.Source.failed l.fn.source;
}
