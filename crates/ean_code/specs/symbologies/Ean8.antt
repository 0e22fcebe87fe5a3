-- EAN-8 (ISO/IEC 15420, symbol structure).
use Rattle.std.specs.Prelude.{ℕ, List, [], ◌∷◌, ◌++◌, take, drop}
use Rattle.std.specs.List.{concat}
use Rattle.digits_core.specs.Digits.{padded}
use Rattle.ean_code.specs.Guards.{normal_guard, centre_guard}
use Rattle.ean_code.specs.NumberSets.{ean8_row, left_part, right_part}
use Rattle.ean_code.specs.Structure.{CheckedPlaces, Sample, Structure}

-- four digits, the centre guard and four more
abbrev pub ean8_inside : List ℕ → List ℕ
ean8_inside ds = left_part ean8_row (take 4 ds) ++ (centre_guard ++ right_part (drop 4 ds))

abbrev pub ean8 : Structure
ean8 = record { digits = 8; widths = 43; modules = 67; start = normal_guard; inside = ean8_inside; stop = normal_guard; gtin = padded }

abbrev pub ean8_checked : CheckedPlaces
ean8_checked = record { first = 0; after = 8 }

abbrev pub ean8_sample : Sample
ean8_sample = record {
  digits = 9 ∷ 6 ∷ 3 ∷ 8 ∷ 5 ∷ 0 ∷ 7 ∷ 4 ∷ [];
  widths = normal_guard
      ++ (concat ((3 ∷ 1 ∷ 1 ∷ 2 ∷ []) ∷ (1 ∷ 1 ∷ 1 ∷ 4 ∷ []) ∷ (1 ∷ 4 ∷ 1 ∷ 1 ∷ []) ∷ (1 ∷ 2 ∷ 1 ∷ 3 ∷ []) ∷ [])
      ++ (centre_guard
      ++ (concat ((1 ∷ 2 ∷ 3 ∷ 1 ∷ []) ∷ (3 ∷ 2 ∷ 1 ∷ 1 ∷ []) ∷ (1 ∷ 3 ∷ 1 ∷ 2 ∷ []) ∷ (1 ∷ 1 ∷ 3 ∷ 2 ∷ []) ∷ [])
      ++ normal_guard)));
}
