use Rattle.std.proofs.Common.{◌≡◌, drop, map}
use Rattle.gs1_c.specs.Titles.{title_in}
use Rattle.gs1_c.specs.inner.Titles.{titled_of}
use Rattle.gs1_c.proofs.titles.title_in.Given as goal

abbrev pub invariant-loop-row : goal.invariant-loop-row
invariant-loop-row l = title_in (map titled_of (drop l.row-index l.rows)) l.ai ≡ title_in (map titled_of l.rows) l.ai
