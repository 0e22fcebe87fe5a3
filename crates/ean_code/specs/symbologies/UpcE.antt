-- UPC-E (ISO/IEC 15420, symbol structure): six digits and the check digit, expanded to a GTIN-12. Only number sets
-- encode the check digit, and the sixth digit selects the line of the expansion table, so these two places are not
-- checked.
use Rattle.std.specs.Prelude.{ℕ, List, [], ◌∷◌, ◌++◌, take, slice_index}
use Rattle.std.specs.List.{concat}
use Rattle.digits_core.specs.Digits.{padded}
use Rattle.digits_core.specs.Upce.{upce_expanded}
use Rattle.ean_code.specs.Guards.{normal_guard, special_guard}
use Rattle.ean_code.specs.NumberSets.{left_part, row_of, upce_rows}
use Rattle.ean_code.specs.Structure.{CheckedPlaces, Sample, Structure}

-- six digits in the number sets of the check digit, and what the seven stand for
abbrev pub upce_inside : List ℕ → List ℕ
upce_inside ds = left_part (row_of upce_rows (slice_index ds 6)) (take 6 ds)

abbrev pub upce_gtin : List ℕ → List ℕ
upce_gtin ds = padded (upce_expanded (take 6 ds) (slice_index ds 6))

abbrev pub upce : Structure
upce = record { digits = 7; widths = 33; modules = 51; start = normal_guard; inside = upce_inside; stop = special_guard; gtin = upce_gtin }

abbrev pub upce_checked : CheckedPlaces
upce_checked = record { first = 0; after = 5 }

abbrev pub upce_sample : Sample
upce_sample = record {
  digits = 1 ∷ 2 ∷ 3 ∷ 4 ∷ 5 ∷ 6 ∷ 5 ∷ [];
  widths = normal_guard ++ (concat ((1 ∷ 2 ∷ 2 ∷ 2 ∷ []) ∷ (2 ∷ 1 ∷ 2 ∷ 2 ∷ []) ∷ (1 ∷ 4 ∷ 1 ∷ 1 ∷ []) ∷ (2 ∷ 3 ∷ 1 ∷ 1 ∷ []) ∷ (1 ∷ 3 ∷ 2 ∷ 1 ∷ []) ∷
      (1 ∷ 1 ∷ 1 ∷ 4 ∷ []) ∷ []) ++ special_guard);
}
