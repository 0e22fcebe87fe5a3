-- A lane as its callers see it, by plain values, and what settling gives it.
use Rattle.std.specs.Prelude.{◌≡◌, ◌++◌, ◌∷◌, ℕ, List, [], All, length, slice_index_or}
use Rattle.lane_core.specs.Issuing.{ticket_of}
use Rattle.lane_core.specs.declared.job.Plain.{Plain}
use Rattle.lane_core.specs.declared.ticket.Ticket.{Ticket}
use Rattle.element_core.specs.Terms.{Terms}
use Rattle.hub_core.specs.Serving.{numbered_rows}

-- a lane: its number, the rows that were submitted, and the deliveries that were polled so far
pub record Lane : Type 0 where
  pub number : ℕ
  pub rows : List (List ℕ)
  pub polled : List Plain

abbrev pub new_lane : ℕ → Lane
new_lane l = record { number = l; rows = []; polled = [] }

-- the ticket of the row that is submitted next: as many rows were submitted before it
abbrev pub next_ticket : Lane → Ticket
next_ticket lane = ticket_of lane.number (length lane.rows)

-- one row more was submitted
abbrev pub with_row : Lane → List ℕ → Lane
with_row lane row = record { number = lane.number; rows = lane.rows ++ row ∷ []; polled = lane.polled }

-- one delivery more was polled
abbrev pub with_delivery : Lane → Plain → Lane
with_delivery lane x = record { number = lane.number; rows = lane.rows; polled = lane.polled ++ x ∷ [] }

-- a delivery for each row: the k-th has the lane's number k, the year and the k-th row
abbrev pub deliveries : ℕ → Terms → List (List ℕ) → List Plain
deliveries lane year rows = numbered_rows lane 0 year rows

-- what each lane polled is the first of the deliveries of its rows
abbrev pub ArePolledFirst : Terms → List Lane → Type 0
ArePolledFirst year lanes = All (λ lane. (rest : List Plain) × (lane.polled ++ rest ≡ deliveries lane.number year lane.rows)) lanes

-- what each lane polled, and then its list, are the deliveries of its rows
abbrev pub AreSettled : Terms → List Lane → List (List Plain) → Type 0
AreSettled year lanes lists = All (λ lane. lane.polled ++ slice_index_or lists lane.number [] ≡ deliveries lane.number year lane.rows) lanes
