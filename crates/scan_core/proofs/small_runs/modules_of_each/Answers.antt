use Rattle.std.proofs.Common.{◌==◌, ◌&&◌, ◌+◌, ◌%◌, ◌∙◌, ap, cond, nat_le}
use Rattle.std.proofs.lemmas.Simd.{splat_is_map, zip2_of_maps}
use Rattle.scan_core.specs.inner.RunLanes.{above_one, passed}
use Rattle.scan_core.proofs.RunLanes.{few_above, lanes_computed, map_same}
use Rattle.scan_core.proofs.small_runs.modules_of_each.Goals as goal

pub returns : goal.returns
returns c =
    let ws = c.args.widths in
    let l = c.args.limits in
    let long = c.fits-widths.0 in
    let above = c.above_one-above.ensures in
    let found = zip2_of_maps (λ x y. (x + y) % 256) (above_one l) (λ w. 1) ws above (splat_is_map ws 16 1 long) in
    lanes_computed (λ w. l.one) (above_one l) (passed l) (λ w. (above_one l w + 1) % 256) ws _ _ _ _ _
    (splat_is_map ws 16 l.one long) above c.passed.ensures (splat_is_map ws 16 0 long) found
    ∙ map_same _ _ (λ w. ap (λ n. cond (nat_le l.one w && above_one l w == passed l w) n 0) (few_above l w)) ws
