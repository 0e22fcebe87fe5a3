-- The rows of number sets are distinct.
use Rattle.std.proofs.Common.{◌≡◌, ℕ, Bool, ◌&&◌, ◌<◌, ◌==◌, true, List, length, refl, eqb-true}
use Rattle.std.specs.List.{position_or_len}
use Rattle.std.proofs.lemmas.Bool.{and_parts}
use Rattle.ean_code.specs.declared.number_sets.NumberSet.{NumberSet}
use Rattle.ean_code.specs.NumberSets.{ean13_rows, row_of, upce_rows}
use Rattle.ean_code.specs.inner.NumberSets.{packed_sets}
use Rattle.ean_code.proofs.Cells.{all_below, all_below-at}

abbrev pub row_place : List (List NumberSet) → List NumberSet → ℕ
row_place rows row = position_or_len (λ r. packed_sets r == packed_sets row) rows

-- row d of the table, which no other row is
abbrev pub row_ok : List (List NumberSet) → ℕ → Bool
row_ok rows d = (row_place rows (row_of rows d) == d) && (length (row_of rows d) == 6)

pub rows_tested : (all_below (row_ok ean13_rows) 10 ≡ true) × (all_below (row_ok upce_rows) 10 ≡ true)
rows_tested = (refl, refl)

-- each row has six number sets
pub length-row : (d : ℕ) → d < 10 → length (row_of ean13_rows d) ≡ 6
length-row d h = eqb-true _ _ (and_parts _ _ (all_below-at (row_ok ean13_rows) 10 rows_tested.0 d h)).1

pub length-upce_row : (d : ℕ) → d < 10 → length (row_of upce_rows d) ≡ 6
length-upce_row d h = eqb-true _ _ (and_parts _ _ (all_below-at (row_ok upce_rows) 10 rows_tested.1 d h)).1
