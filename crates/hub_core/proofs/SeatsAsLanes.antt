-- Seats as lanes (`as_lane`): new ones, and those of a hub that was settled or finished.
use Rattle.std.proofs.Common.{◌≡◌, ◌++◌, ℕ, List, [], ◌∷◌, Some, ap, arith, get_or, map, refl, suc, subst}
use Rattle.std.specs.List.{All, slice_get}
use Rattle.std.proofs.lemmas.Option.{slice_get-get_or}
use Rattle.element_core.specs.Terms.{Terms}
use Rattle.lane_core.specs.declared.job.Plain.{Plain}
use Rattle.lane_core.specs.Settling.{kept}
use Rattle.hub_core.specs.declared.hub.Hub.{Hub}
use Rattle.hub_core.specs.declared.lane_seat.LaneSeat.{LaneSeat}
use Rattle.hub_core.specs.Fresh.{HasDoneNothing}
use Rattle.hub_core.specs.Hubs.{year_of}
use Rattle.hub_core.specs.Lane.{ArePolledFirst, AreSettled, Lane, deliveries, new_lane}
use Rattle.hub_core.specs.Lanes.{as_lane, lane_of, polled, submitted_rows}
use Rattle.hub_core.specs.Serving.{numbered_rows}
use Rattle.lane_core.proofs.ListFacts.{get_back, get_map}
use Rattle.hub_core.proofs.ListsByPlace.{all_at}

-- a lane by its parts
abbrev pub a_lane : ℕ → List (List ℕ) → List Plain → Lane
a_lane n rows xs = record { number = n; rows = rows; polled = xs }

-- seats that have done nothing are new lanes
pub fresh_lanes : (ls : List LaneSeat) → All HasDoneNothing ls → map as_lane ls ≡ map new_lane (map lane_of ls)
unfolding as_lane
fresh_lanes [] all = refl
fresh_lanes (s ∷ ls) all =
    let here = all 0 s (omega arith) in
    let rows : submitted_rows s ≡ [] = ap (map (λ (x : Plain). x.widths)) here.0 in
    let none : polled s ≡ [] = ap (kept (lane_of s) 0) here.1 in
    let others = fresh_lanes ls (λ k d less. all (suc k) d (omega arith)) in
    λ i. a_lane (lane_of s) (rows i) (none i) ∷ others i

-- one lane as `AreSettled` has all, and as `ArePolledFirst` has all
abbrev pub IsSettled : Terms → List (List Plain) → Lane → Type 0
IsSettled year lists lane = lane.polled ++ get_or lists lane.number [] ≡ deliveries lane.number year lane.rows

abbrev pub HasPolledFirst : Terms → Lane → Type 0
HasPolledFirst year lane = (rest : List Plain) × (lane.polled ++ rest ≡ deliveries lane.number year lane.rows)

-- what is so of each seat's lane is so of all lanes
each_lane : (P : Lane → Type 0) (ls : List LaneSeat) → ((i : ℕ) (v : LaneSeat) → slice_get ls i ≡ Some v → P (as_lane v)) → All P (map as_lane ls)
each_lane P ls each k d less =
    let p = get_back as_lane ls k (get_or (map as_lane ls) k d) (slice_get-get_or (map as_lane ls) k d less) in subst P p.2 (each k p.0 p.1)

-- what each lane polled, and then its list, are its rows, numbered
abbrev pub GivesRows : Hub → List LaneSeat → List (List Plain) → Type 0
GivesRows h lanes lists = (i : ℕ) (v : LaneSeat) → slice_get lanes i ≡ Some v → polled v ++ get_or lists (lane_of v) []
    ≡ numbered_rows (lane_of v) 0 (year_of h) (submitted_rows v)

-- so the lanes are settled (`AreSettled`)
pub lanes_settled : (h : Hub) (ls : List LaneSeat) (lists : List (List Plain)) → GivesRows h ls lists → AreSettled (year_of h) (map as_lane ls) lists
unfolding as_lane
lanes_settled h ls lists gives = each_lane (IsSettled (year_of h) lists) ls gives

-- what each lane polled is the first of what its rows are served
abbrev pub PolledFirst : Hub → List LaneSeat → Type 0
PolledFirst h lanes = (i : ℕ) (v : LaneSeat) → slice_get lanes i ≡ Some v → (rest : List Plain)
    × (polled v ++ rest ≡ numbered_rows (lane_of v) 0 (year_of h) (submitted_rows v))

-- so it is of the seats as lanes (`ArePolledFirst`)
pub lanes_polled_first : (h : Hub) (ls : List LaneSeat) → PolledFirst h ls → ArePolledFirst (year_of h) (map as_lane ls)
unfolding as_lane
lanes_polled_first h ls first = each_lane (HasPolledFirst (year_of h)) ls first

-- and the other way
pub first_of_seats : (h : Hub) (ls : List LaneSeat) → ArePolledFirst (year_of h) (map as_lane ls) → PolledFirst h ls
unfolding as_lane
first_of_seats h ls first i v at = all_at (HasPolledFirst (year_of h)) (map as_lane ls) i (as_lane v) first (get_map as_lane ls i v at)
