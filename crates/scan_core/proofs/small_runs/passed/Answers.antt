use Rattle.std.proofs.Common.{◌+◌, ◌%◌, ◌∙◌, nat_le, ℕ}
use Rattle.std.proofs.lemmas.Simd.{zip2_of_maps, zip2_splat_left}
use Rattle.scan_core.specs.inner.RunLanes.{reaches}
use Rattle.scan_core.proofs.RunLanes.{four_counted, map_same}
use Rattle.scan_core.proofs.small_runs.passed.Goals as goal

pub returns : goal.returns
returns c =
    let ws = c.args.widths in
    let l = c.args.limits in
    let add : ℕ → ℕ → ℕ = λ x y. (x + y) % 256 in
    let one = c.reached.ensures ∙ zip2_splat_left reaches l.past_one 16 ws c.fits-widths.0 in
    let two = c.reached-2.ensures ∙ zip2_splat_left reaches l.past_two 16 ws c.fits-widths.0 in
    let three = c.reached-3.ensures ∙ zip2_splat_left reaches l.past_three 16 ws c.fits-widths.0 in
    let four = c.reached-4.ensures ∙ zip2_splat_left reaches l.past_four 16 ws c.fits-widths.0 in
    let by_two = zip2_of_maps add (reaches l.past_one) (reaches l.past_two) ws one two in
    let by_three = zip2_of_maps add (λ w. (reaches l.past_one w + reaches l.past_two w) % 256) (reaches l.past_three) ws by_two three in
    zip2_of_maps add (λ w. ((reaches l.past_one w + reaches l.past_two w) % 256 + reaches l.past_three w) % 256) (reaches l.past_four) ws by_three four
    ∙ map_same _ _ (λ w. four_counted (nat_le l.past_one w) (nat_le l.past_two w) (nat_le l.past_three w) (nat_le l.past_four w)) ws
