-- EAN-13, which includes UPC-A (ISO/IEC 15420, symbol structure). Only number sets encode the first digit, so its place
-- is not checked.
use Rattle.std.specs.Prelude.{ℕ, List, [], ◌∷◌, ◌++◌, take, drop, slice_index}
use Rattle.std.specs.List.{concat}
use Rattle.digits_core.specs.Digits.{padded}
use Rattle.ean_code.specs.Guards.{normal_guard, centre_guard}
use Rattle.ean_code.specs.NumberSets.{ean13_rows, left_part, right_part, row_of}
use Rattle.ean_code.specs.Structure.{CheckedPlaces, Sample, Structure}

-- six digits in the number sets of the first digit, the centre guard and six more
abbrev pub ean13_inside : List ℕ → List ℕ
ean13_inside ds = left_part (row_of ean13_rows (slice_index ds 0)) (take 6 (drop 1 ds)) ++ (centre_guard ++ right_part (drop 7 ds))

abbrev pub ean13 : Structure
ean13 = record { digits = 13; widths = 59; modules = 95; start = normal_guard; inside = ean13_inside; stop = normal_guard; gtin = padded }

abbrev pub ean13_checked : CheckedPlaces
ean13_checked = record { first = 1; after = 13 }

abbrev pub ean13_sample : Sample
ean13_sample = record {
  digits = 9 ∷ 5 ∷ 0 ∷ 1 ∷ 1 ∷ 0 ∷ 1 ∷ 5 ∷ 3 ∷ 0 ∷ 0 ∷ 0 ∷ 3 ∷ [];
  widths = normal_guard
      ++ (concat ((1 ∷ 2 ∷ 3 ∷ 1 ∷ []) ∷ (1 ∷ 1 ∷ 2 ∷ 3 ∷ []) ∷ (1 ∷ 2 ∷ 2 ∷ 2 ∷ []) ∷ (2 ∷ 2 ∷ 2 ∷ 1 ∷ []) ∷ (1 ∷ 1 ∷ 2 ∷ 3 ∷ []) ∷ (2 ∷ 2 ∷ 2 ∷ 1 ∷ []) ∷ [])
      ++ (centre_guard
      ++ (concat ((1 ∷ 2 ∷ 3 ∷ 1 ∷ []) ∷ (1 ∷ 4 ∷ 1 ∷ 1 ∷ []) ∷ (3 ∷ 2 ∷ 1 ∷ 1 ∷ []) ∷ (3 ∷ 2 ∷ 1 ∷ 1 ∷ []) ∷ (3 ∷ 2 ∷ 1 ∷ 1 ∷ []) ∷ (1 ∷ 4 ∷ 1 ∷ 1 ∷ []) ∷ [])
      ++ normal_guard)));
}
