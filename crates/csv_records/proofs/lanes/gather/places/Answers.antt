use Rattle.std.proofs.Common.{◌≡◌, ◌+◌, ◌*◌, ◌^◌, ◌++◌, ◌∙◌, ◌%◌, ap, arith, refl}
use Rattle.std.specs.Simd.Lanes.{digits_l}
use Rattle.csv_records.specs.inner.Kept.{entry}
use Rattle.csv_records.proofs.lanes.KeptLanes.{two_words}
use Rattle.csv_records.proofs.lanes.gather.places.Goals as goal

pub returns : goal.returns
returns c =
    let lo = c.low_places.result in
    let hi = c.high_places.result in
    let whole : lo + 18446744073709551616 * (hi + 18446744073709551616 * 0) ≡ lo + 256 ^ 8 * hi = omega arith in
    ap (digits_l 256 16) whole ∙ two_words 8 16 8 lo hi refl (omega arith)
    ∙ ap (λ t. t ++ digits_l 256 8 hi) c.low_places.ensures ∙ ap (λ t. entry 0 (c.args.mask % 256) ++ t) c.high_places.ensures
