-- Words for types, private contracts and proofs, beside `TwoOfFive`.
use Rattle.std.specs.Prelude.{ℕ, ◌+◌, ◌*◌, ◌/◌, ◌%◌, List, ◌++◌}
use Rattle.std.specs.List.{flat_map, fold}
use Rattle.ean_code.specs.TwoOfFive.{in_pairs, itf_start, itf_stop, pair_widths}

-- five widths as one number: a bit for each, 1 if it is wide, the first highest
abbrev pub packed_five : List ℕ → ℕ
packed_five widths = fold (λ n w. 2 * n + w / 2 % 2) 0 widths

-- an even number of digits, between start and stop
abbrev pub itf_widths : List ℕ → List ℕ
itf_widths ds = itf_start ++ (flat_map pair_widths (in_pairs ds) ++ itf_stop)
