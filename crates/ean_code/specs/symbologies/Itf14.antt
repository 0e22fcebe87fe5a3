-- ITF-14 (ISO/IEC 16390, symbol structure; GS1 General Specifications, section 5.3), with wide elements of three modules.
use Rattle.std.specs.Prelude.{[], ◌∷◌, ◌++◌}
use Rattle.std.specs.List.{concat, flat_map}
use Rattle.digits_core.specs.Digits.{padded}
use Rattle.ean_code.specs.TwoOfFive.{in_pairs, itf_start, itf_stop, pair_widths}
use Rattle.ean_code.specs.Structure.{CheckedPlaces, Sample, Structure}

abbrev pub itf14 : Structure
itf14 = record { digits = 14; widths = 77; modules = 135; start = itf_start; inside = λ ds. flat_map pair_widths (in_pairs ds); stop = itf_stop; gtin = padded }

abbrev pub itf14_checked : CheckedPlaces
itf14_checked = record { first = 0; after = 14 }

abbrev pub itf14_sample : Sample
itf14_sample = record {
  digits = 0 ∷ 9 ∷ 5 ∷ 0 ∷ 1 ∷ 1 ∷ 0 ∷ 1 ∷ 5 ∷ 3 ∷ 0 ∷ 0 ∷ 0 ∷ 3 ∷ [];
  widths = itf_start
      ++ (concat ((1 ∷ 1 ∷ 1 ∷ 3 ∷ 3 ∷ 1 ∷ 3 ∷ 3 ∷ 1 ∷ 1 ∷ []) ∷ (3 ∷ 1 ∷ 1 ∷ 1 ∷ 3 ∷ 3 ∷ 1 ∷ 3 ∷ 1 ∷ 1 ∷ []) ∷ (3 ∷ 3 ∷ 1 ∷ 1 ∷ 1 ∷ 1 ∷ 1 ∷ 1 ∷ 3 ∷ 3 ∷ []) ∷
      (1 ∷ 3 ∷ 1 ∷ 1 ∷ 3 ∷ 1 ∷ 3 ∷ 1 ∷ 1 ∷ 3 ∷ []) ∷ (3 ∷ 3 ∷ 1 ∷ 3 ∷ 3 ∷ 1 ∷ 1 ∷ 1 ∷ 1 ∷ 1 ∷ []) ∷ (1 ∷ 1 ∷ 1 ∷ 1 ∷ 3 ∷ 3 ∷ 3 ∷ 3 ∷ 1 ∷ 1 ∷ []) ∷
      (1 ∷ 3 ∷ 1 ∷ 3 ∷ 3 ∷ 1 ∷ 3 ∷ 1 ∷ 1 ∷ 1 ∷ []) ∷ [])
      ++ itf_stop);
}
