use Rattle.std.proofs.Common.{◌≡◌, IsTrue}
use Rattle.sheet_core.specs.inner.Headers.{is_reached}
use Rattle.sheet_core.proofs.pbm.HeaderFacts.{At}
use Rattle.sheet_core.proofs.pbm.read.read_header.Given as goal

abbrev pub invariant-loop-k : goal.invariant-loop-k
invariant-loop-k g l = record {
  reached : IsTrue (is_reached l.state);
  same_failed : g.R.Source.failed l.reader ≡ g.R.Source.failed l.fn.reader;
  read : At (g.R.Source.left l.fn.reader) (g.R.Source.left l.reader) l.first l.k l.state l.byte;
}
