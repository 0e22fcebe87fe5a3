use Rattle.std.proofs.Common.{◌+◌, ◌%◌, ◌∙◌, nat_le, ℕ}
use Rattle.std.proofs.lemmas.Simd.{zip2_of_maps, zip2_splat_left}
use Rattle.scan_core.specs.inner.RunLanes.{reaches}
use Rattle.scan_core.proofs.RunLanes.{counted, map_same}
use Rattle.scan_core.proofs.small_runs.above_one.Goals as goal

pub returns : goal.returns
returns c =
    let ws = c.args.widths in
    let l = c.args.limits in
    let add : ℕ → ℕ → ℕ = λ x y. (x + y) % 256 in
    let two = c.reached.ensures ∙ zip2_splat_left reaches l.two 16 ws c.fits-widths.0 in
    let three = c.reached-2.ensures ∙ zip2_splat_left reaches l.three 16 ws c.fits-widths.0 in
    let four = c.reached-3.ensures ∙ zip2_splat_left reaches l.four 16 ws c.fits-widths.0 in
    zip2_of_maps add (λ w. (reaches l.two w + reaches l.three w) % 256) (reaches l.four) ws
    (zip2_of_maps add (reaches l.two) (reaches l.three) ws two three) four
    ∙ map_same _ _ (λ w. counted (nat_le l.two w) (nat_le l.three w) (nat_le l.four w)) ws
