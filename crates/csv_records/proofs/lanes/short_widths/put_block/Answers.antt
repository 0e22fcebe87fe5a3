use Rattle.std.proofs.Common.{◌≡◌, ◌<◌, ◌==◌, ◌++◌, ◌∙◌, ap, arith, get_or, length, map, refl, sym, take, true, ℕ, w8}
use Rattle.std.proofs.lemmas.List.{length-map}
use Rattle.std.specs.List.{list_all}
use Rattle.std.proofs.lemmas.Simd.{Each1-get_or, below_from_Fits}
use Rattle.csv_records.specs.inner.Kept.{at_set_bits}
use Rattle.csv_records.specs.inner.LaneValues.{are_fine, digit_of, lane_values, puts}
use Rattle.csv_records.proofs.lanes.BlockLanes.{kept_puts}
use Rattle.csv_records.proofs.lanes.FineLanes.{all_fine}
use Rattle.csv_records.proofs.lanes.Halves.{few_kept}
use Rattle.csv_records.proofs.lanes.Lanes16.{get_or_map}
use Rattle.csv_records.proofs.lanes.short_widths.put_block.Goals as goal

pub returns-clause-put : goal.returns-clause-put
returns-clause-put c = λ prior is small.
    let bytes = c.args.bytes in
    let long : length prior ≡ 16 = sym (length-map prior digit_of) ∙ ap length (sym is) ∙ c.fits-before.0 in
    let x = get_or prior 13 0 in
    let y = get_or prior 14 0 in
    let z = get_or prior 15 0 in
    let at14 : get_or c.args.before 14 0 ≡ digit_of y = ap (λ l. get_or l 14 0) is ∙ get_or_map digit_of prior 14 (omega (arith, long)) in
    let at15 : get_or c.args.before 15 0 ≡ digit_of z = ap (λ l. get_or l 15 0) is ∙ get_or_map digit_of prior 15 (omega (arith, long)) in
    let below : (i : ℕ) → i < 16 → get_or prior i 0 < 256 = λ i low. Each1-get_or (λ b. b < 256) prior i 0 (omega (arith, low, long)) small in
    let same : c.digits_of-digits.result ≡ map digit_of bytes = c.digits_of-digits.ensures in
    let lanes = c.fine_lanes.ensures prior is small same in
    let fine : are_fine x y z bytes ≡ true = all_fine bytes x y z (ap (list_all (λ v. v == 255)) (sym lanes) ∙ c.are_all.ensures c.if-not-are_all.false) in
    let bits = map (λ b. b == 32) bytes in
    let values : c.values_of.result ≡ lane_values (digit_of y) (digit_of z) (map digit_of bytes) = c.values_of.ensures ∙ rw (at14, at15, same) refl in
    let kept_are : at_set_bits bits c.values_of.result ≡ puts y z bytes =
    ap (at_set_bits bits) values ∙ kept_puts bytes x y z (below 14 (omega arith)) (below 15 (omega arith)) (below_from_Fits w8 bytes c.fits-bytes.1) fine in
    let stored = c.put_lanes.ensures.put bits (length-map bytes (λ b. b == 32) ∙ c.fits-bytes.0) c.spaces.ensures.value in
    (fine, stored.0 ∙ ap (λ t. take c.args.at c.args.widths.now ++ t) kept_are, stored.1 ∙ ap length kept_are)

pub returns-clause-bytes : goal.returns-clause-bytes
returns-clause-bytes c = below_from_Fits w8 c.args.bytes c.fits-bytes.1

pub returns-then-not-are_all-clause-bytes : goal.returns-then-not-are_all-clause-bytes
returns-then-not-are_all-clause-bytes c = below_from_Fits w8 c.args.bytes c.fits-bytes.1

pub returns-clause-few : goal.returns-clause-few
returns-clause-few c =
    let bits = map (λ b. b == 32) c.args.bytes in
    let long : length bits ≡ 16 = length-map c.args.bytes (λ b. b == 32) ∙ c.fits-bytes.0 in
    omega (arith, (c.put_lanes.ensures.put bits long c.spaces.ensures.value).1, few_kept bits c.values_of.result, long)
