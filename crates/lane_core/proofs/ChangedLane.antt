-- What there is of a lane, after a lane was changed: of the machine's states.
use Rattle.std.proofs.Common.{◌≡◌, ◌≢◌, ⊎_elim, ℕ, List, set, Some, sym, ap, ◌∙◌}
use Rattle.std.specs.List.{slice_get}
use Rattle.std.proofs.lemmas.Bool.{cases_eq}
use Rattle.lane_core.specs.Machine.{LaneState, of_lane}
use Rattle.lane_core.proofs.ListFacts.{get_set_here, get_set_else}

-- of the lane that was changed, and of another
pub lane_here : {X : Type 0} (d : X) (f : LaneState → X) (vs : List LaneState) (l m : ℕ) (v w : LaneState) → slice_get vs l ≡ Some v → m ≡ l
    → of_lane d f (slice_get (set vs l w) m) ≡ f w
lane_here d f vs l m v w at e = ap (λ j. of_lane d f (slice_get (set vs l w) j)) e ∙ ap (of_lane d f) (get_set_here vs l w v at)

pub lane_was : {X : Type 0} (d : X) (f : LaneState → X) (vs : List LaneState) (l m : ℕ) (v : LaneState) → slice_get vs l ≡ Some v → m ≡ l
    → of_lane d f (slice_get vs m) ≡ f v
lane_was d f vs l m v at e = ap (λ j. of_lane d f (slice_get vs j)) e ∙ ap (of_lane d f) at

pub lane_else : {X : Type 0} (d : X) (f : LaneState → X) (vs : List LaneState) (l m : ℕ) (w : LaneState) → m ≢ l → of_lane d f (slice_get (set vs l w) m)
    ≡ of_lane d f (slice_get vs m)
lane_else d f vs l m w apart = ap (of_lane d f) (get_set_else vs l m w apart)

-- of any lane, where that was not changed
pub lane_kept : {X : Type 0} (d : X) (f : LaneState → X) (vs : List LaneState) (l m : ℕ) (v w : LaneState) → slice_get vs l ≡ Some v → f w ≡ f v
    → of_lane d f (slice_get (set vs l w) m) ≡ of_lane d f (slice_get vs m)
lane_kept d f vs l m v w at same = ⊎_elim
    (λ (h : m ≡ l). lane_here d f vs l m v w at h ∙ (same ∙ sym (lane_was d f vs l m v at h)))
    (λ (h : m ≢ l). lane_else d f vs l m w h)
    (cases_eq m l)
