-- How many lanes a hub has.
use Rattle.std.proofs.Common.{◌≡◌, ℕ, List, length, sym, ap, ◌∙◌}
use Rattle.std.specs.List.{range_with_len}
use Rattle.std.proofs.lemmas.List.{length-map}
use Rattle.std.proofs.lemmas.List.FromFn.{length-range_with_len}
use Rattle.hub_core.specs.Lanes.{lane_of, numbers_of}
use Rattle.hub_core.specs.declared.lane_seat.LaneSeat.{LaneSeat}

-- as many as their numbers, which are those below n
pub lanes_counted : (ls : List LaneSeat) (n : ℕ) → numbers_of ls ≡ range_with_len 0 n → length ls ≡ n
lanes_counted ls n numbers = sym (length-map ls lane_of) ∙ (ap length numbers ∙ length-range_with_len 0 n)
