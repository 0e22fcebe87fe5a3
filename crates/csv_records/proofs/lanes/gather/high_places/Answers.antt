use Rattle.std.proofs.Common.{◌+◌, ◌%◌, ◌<◌, ◌∙◌, ap, arith, length, map, refl, sym, ℕ}
use Rattle.std.specs.Simd.Lanes.{digits_l}
use Rattle.std.proofs.lemmas.List.{length-map}
use Rattle.csv_records.specs.declared.lanes.gather.TheConstants.{PLACES}
use Rattle.csv_records.proofs.lanes.Lanes16.{get_or_map}
use Rattle.csv_records.proofs.lanes.PlaceTable.{entries}
use Rattle.csv_records.proofs.lanes.gather.high_places.Goals as goal

pub returns : goal.returns
returns c =
    let more : ℕ → ℕ = λ n. (n + 578721382704613384) % 18446744073709551616 in
    let k = c.args.mask in
    let low : k < length (map more PLACES) = omega (arith, c.requires, length-map PLACES more) in
    ap (digits_l 256 8) (sym (get_or_map more PLACES k c.requires)) ∙ entries 8 (map more PLACES) refl k low
