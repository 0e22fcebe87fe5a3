-- What a deliverer has of what was collected: given to a lane, waiting, or in hand.
use Rattle.std.specs.Prelude.{◌≡◌, ◌+◌, ◌||◌, ℕ, true, List, nat_lt, [], length, slice_index_or}
use Rattle.std.specs.List.{list_all, sum_by, count_by}
use Rattle.lane_core.specs.declared.job.Plain.{Plain}
use Rattle.lane_core.specs.ReorderBuffer.{ReorderBuffer, is_new, lanes_of, was_taken, next_of}
use Rattle.lane_core.specs.Settling.{sifted}
use Rattle.lane_core.specs.Tickets.{is_among, is_ticket_of, numbered}
use Rattle.hub_core.specs.inner.Sums.{sum_all}
use Rattle.lane_core.specs.Weights.{once}

-- each lane was given its numbers 0, 1, 2, .. up to its next, and what was taken in was given or waits, once
pub record GivenInOrder (d : ReorderBuffer) (given : List (List Plain)) : Type 0 where
  pub lanes : length given ≡ lanes_of d
  pub in_order : (l : ℕ) → numbered l 0 (slice_index_or given l []) ≡ true
  pub counted : (l : ℕ) → length (slice_index_or given l []) ≡ next_of d l
  pub taken : (l k : ℕ) → once (was_taken d l k) ≡ once (nat_lt k (next_of d l)) + count_by (is_ticket_of l k) d.waiting

-- of what was collected, what is not set aside was given, waits, or is in hand, once (`KeepsAll` says this to callers); and what is in hand will be taken in
pub record Accounted (d : ReorderBuffer) (collected hand : List Plain) (given : List (List Plain)) : Type 0 where
  pub giving : GivenInOrder d given
  pub none_lost : (h : Plain → ℕ) → sum_by h (sifted (lanes_of d) collected) ≡ (sum_by h d.waiting + sum_by h hand) + sum_all h given
  pub known : (l k : ℕ) → (was_taken d l k || is_among l k hand) ≡ is_among l k (sifted (lanes_of d) collected)
  pub fresh : list_all (is_new d) hand ≡ true
