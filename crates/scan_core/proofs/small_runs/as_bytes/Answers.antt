use Rattle.std.proofs.Common.{◌∙◌, ap, leb, map, replicate, subst, sym, w8, w16}
use mir.Syntax.{cast, unsigned}
use borrow.Rule.Simd.Lanes.{Asks1}
use borrow.Table.Row.{s_int}
use lib.Lanes.{Each1, sel_l}
use Rattle.std.proofs.lemmas.Simd.{tops_compared}
use Rattle.scan_core.proofs.RunLanes.{as_byte, bytes_of, casts, clipped, same_lanes}
use Rattle.scan_core.proofs.small_runs.as_bytes.Goals as goal

pub overflow_cast-result : goal.overflow_cast-result
overflow_cast-result c =
    let ws = c.args.widths in
    subst (Each1 (Asks1 (cast unsigned unsigned w8) (s_int w16)))
    (sym (ap (λ bs. sel_l bs ws (replicate 16 255)) (tops_compared w16 leb ws (replicate 16 255)) ∙ clipped 16 ws c.fits-widths.0))
    (casts (map as_byte ws) (bytes_of ws))

pub returns : goal.returns
returns c =
    let ws = c.args.widths in
    same_lanes _ ∙ ap (λ bs. sel_l bs ws (replicate 16 255)) (tops_compared w16 leb ws (replicate 16 255)) ∙ clipped 16 ws c.fits-widths.0
