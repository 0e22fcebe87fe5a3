use Rattle.std.proofs.Common.{◌==◌, ◌∙◌, ap, arith, w8}
use Rattle.std.proofs.lemmas.Simd.{bitmask_splat}
use Rattle.scan_core.proofs.RunLanes.{none_zero}
use Rattle.scan_core.proofs.small_runs.are_near.Goals as goal

pub returns : goal.returns
returns c = ap (λ n. n == 0) (bitmask_splat w8 (λ a b. a == b) c.args.modules 16 0 c.fits-modules.0 (omega arith)) ∙ none_zero c.args.modules
