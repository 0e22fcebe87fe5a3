-- The lanes, rows and workers of a command are few enough for a hub, for `run_lanes`, `run_scan` and `run_live`.
use Rattle.std.proofs.Common.{◌≡◌, ◌&&◌, ◌∙◌, List, ap, arith, length, map, nat_le, refl, true, ℕ}
use Rattle.std.proofs.lemmas.Bool.{and_from}
use Rattle.std.specs.Int.{IsInRange}
use Rattle.std.proofs.lemmas.Bool.Decides.{nat_tests}
use Rattle.std.proofs.lemmas.List.{length-map}
use Rattle.hub_core.specs.Serving.{are_counts, are_short, is_seat_count}

-- a count of 1 to 16, which the options promise, passes the test of the hub
pub count_fits : (n : ℕ) → IsInRange 1 16 n → is_seat_count n ≡ true
count_fits n range =
    let least : nat_le 1 n ≡ true = grind (arith, nat_tests) in
    let most : nat_le n 16 ≡ true = grind (arith, nat_tests) in
    rw (least, most) refl

-- what `are_counts` tests: the number of feeds, the number of workers, and the rows of each feed
pub counts_hold : {V : Type 0} (f : V → List (List ℕ)) (feeds : List V) (count workers : ℕ) → length feeds ≡ count → IsInRange 1 16 count
    → IsInRange 1 16 workers → are_short (map f feeds) ≡ true → are_counts (map f feeds) workers ≡ true
counts_hold f feeds count workers long range in_range short =
    and_from (is_seat_count (length (map f feeds))) (is_seat_count workers && are_short (map f feeds))
    (ap is_seat_count (length-map feeds f ∙ long) ∙ count_fits count range)
    (and_from (is_seat_count workers) (are_short (map f feeds)) (count_fits workers in_range) short)
