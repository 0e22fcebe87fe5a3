use Rattle.std.proofs.Common.{◌∙◌, ap, leb, replicate, w8}
use lib.Lanes.{sel_l}
use Rattle.std.proofs.lemmas.Simd.{tops_compared}
use Rattle.scan_core.proofs.RunLanes.{reached_are}
use Rattle.scan_core.proofs.small_runs.reached.Goals as goal

pub returns : goal.returns
returns c =
    ap (λ bs. sel_l bs (replicate 16 1) (replicate 16 0)) (tops_compared w8 leb c.args.limits c.args.widths)
    ∙ reached_are 16 c.args.limits c.args.widths c.fits-limits.0 c.fits-widths.0
