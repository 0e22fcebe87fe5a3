use Rattle.std.proofs.Common.{◌==◌, ◌∙◌, arith, not, sym, w8}
use Rattle.std.proofs.lemmas.Bool.{eqb-true}
use Rattle.std.proofs.lemmas.Simd.{bitmask_splat}
use Rattle.csv_records.proofs.lanes.FineLanes.{none_differs}
use Rattle.csv_records.proofs.lanes.short_widths.are_all.Goals as goal

pub returns : goal.returns
returns c = λ is.
    none_differs c.args.lanes (sym (bitmask_splat w8 (λ a b. not (a == b)) c.args.lanes 16 255 c.fits-lanes.0 (omega arith)) ∙ eqb-true _ 0 is)
