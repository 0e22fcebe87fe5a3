use Rattle.std.proofs.Common.{◌≡◌, ◌<◌, ◌∷◌, ◌∙◌, ap, arith, refl, get_or, length, map, sym, take, ℕ, w8}
use Rattle.std.proofs.lemmas.List.{length-map}
use Rattle.std.proofs.lemmas.Simd.{Each1-get_or, below_from_Fits}
use Rattle.csv_records.specs.inner.LaneValues.{digit_of}
use Rattle.csv_records.proofs.lanes.FineLanes.{goods, goods_are}
use Rattle.csv_records.proofs.lanes.Lanes16.{get_or_map, last_one, last_two, last_three}
use Rattle.csv_records.proofs.lanes.short_widths.fine_lanes.Goals as goal

pub returns : goal.returns
returns c = λ prior is small same.
    let before = c.args.before in
    let bytes = c.args.bytes in
    let long : length prior ≡ 16 = sym (length-map prior digit_of) ∙ ap length (sym is) ∙ c.fits-before.0 in
    let x = get_or prior 13 0 in
    let y = get_or prior 14 0 in
    let z = get_or prior 15 0 in
    let at13 : get_or before 13 0 ≡ digit_of x = ap (λ l. get_or l 13 0) is ∙ get_or_map digit_of prior 13 (omega (arith, long)) in
    let at14 : get_or before 14 0 ≡ digit_of y = ap (λ l. get_or l 14 0) is ∙ get_or_map digit_of prior 14 (omega (arith, long)) in
    let at15 : get_or before 15 0 ≡ digit_of z = ap (λ l. get_or l 15 0) is ∙ get_or_map digit_of prior 15 (omega (arith, long)) in
    let ds = map digit_of bytes in
    let one : c.moved_by_one.result ≡ take 16 (digit_of z ∷ ds) =
    c.moved_by_one.ensures ∙ ap (take 16) (last_one before c.args.digits c.fits-before.0) ∙ rw (at15, same) refl in
    let two : c.moved_by_two.result ≡ take 16 (digit_of y ∷ digit_of z ∷ ds) =
    c.moved_by_two.ensures ∙ ap (take 16) (last_two before c.args.digits c.fits-before.0) ∙ rw (at14, at15, same) refl in
    let three : c.moved_by_three.result ≡ take 16 (digit_of x ∷ digit_of y ∷ digit_of z ∷ ds) =
    c.moved_by_three.ensures ∙ ap (take 16) (last_three before c.args.digits c.fits-before.0) ∙ rw (at13, at14, at15, same) refl in
    let below : (i : ℕ) → i < 16 → get_or prior i 0 < 256 = λ i low. Each1-get_or (λ b. b < 256) prior i 0 (omega (arith, low, long)) small in
    ap (λ d. goods 16 d bytes c.moved_by_one.result c.moved_by_two.result c.moved_by_three.result) same
    ∙ ap (λ d. goods 16 ds bytes d c.moved_by_two.result c.moved_by_three.result) one
    ∙ ap (λ d. goods 16 ds bytes (take 16 (digit_of z ∷ ds)) d c.moved_by_three.result) two
    ∙ ap (goods 16 ds bytes (take 16 (digit_of z ∷ ds)) (take 16 (digit_of y ∷ digit_of z ∷ ds))) three
    ∙ ap (λ n. goods n ds bytes (take n (digit_of z ∷ ds)) (take n (digit_of y ∷ digit_of z ∷ ds)) (take n (digit_of x ∷ digit_of y ∷ digit_of z ∷ ds))) (sym c.fits-bytes.0)
    ∙ goods_are bytes x y z (below 13 (omega arith)) (below 14 (omega arith)) (below 15 (omega arith)) (below_from_Fits w8 bytes c.fits-bytes.1)
