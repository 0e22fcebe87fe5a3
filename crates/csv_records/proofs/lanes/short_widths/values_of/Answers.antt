use Rattle.std.proofs.Common.{◌≡◌, ◌∷◌, ◌∙◌, ap, arith, get_or, length, sym, take}
use lib.Lanes.{zip2}
use Rattle.csv_records.specs.inner.LaneValues.{lane_value}
use Rattle.std.proofs.lemmas.List.{length-take-le}
use Rattle.csv_records.proofs.lanes.Lanes16.{lanes_computed, last_one, last_two, side_by_side}
use Rattle.csv_records.proofs.lanes.short_widths.values_of.Goals as goal

pub returns : goal.returns
returns c =
    let before = c.args.before in
    let ds = c.args.digits in
    let b = get_or before 14 0 in
    let a = get_or before 15 0 in
    let one : c.moved_by_one-one.result ≡ take 16 (a ∷ ds) = c.moved_by_one-one.ensures ∙ ap (take 16) (last_one before ds c.fits-before.0) in
    let two : c.moved_by_two-two.result ≡ take 16 (b ∷ a ∷ ds) = c.moved_by_two-two.ensures ∙ ap (take 16) (last_two before ds c.fits-before.0) in
    let count_one : length c.moved_by_one-one.result ≡ 16 = ap length one ∙ length-take-le 16 (a ∷ ds) (omega (arith, c.fits-digits.0)) in
    let count_two : length c.moved_by_two-two.result ≡ 16 = ap length two ∙ length-take-le 16 (b ∷ a ∷ ds) (omega (arith, c.fits-digits.0)) in
    lanes_computed 16 c.moved_by_one-one.result c.moved_by_two-two.result count_one count_two
    ∙ ap (λ xs. zip2 (λ x t. lane_value t x) xs c.moved_by_two-two.result) one
    ∙ ap (zip2 (λ x t. lane_value t x) (take 16 (a ∷ ds))) two
    ∙ ap (λ n. zip2 (λ x t. lane_value t x) (take n (a ∷ ds)) (take n (b ∷ a ∷ ds))) (sym c.fits-digits.0)
    ∙ side_by_side b a ds
