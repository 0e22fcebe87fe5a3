-- The rings of a hub, drained one by one: for `place_rings`. A step at one of them is in `RingsAfterStep`.
use Rattle.std.proofs.Common.{◌≡◌, ℕ, ◌<◌, List, [], ◌∷◌, ◌++◌, get_or, length, Some, refl, sym, ap, ◌∙◌, arith}
use Rattle.std.specs.List.{slice_get, All, sum_by}
use Rattle.std.proofs.lemmas.List.{get_or-map}
use Rattle.std.proofs.lemmas.List.Elements.{All-push, All-weaker}
use Rattle.std.proofs.lemmas.Option.{slice_get-get_or, slice_get_read}
use Rattle.std.proofs.lemmas.List.Sums.{sum_by-append}
use Rattle.rtrb.specs.Ring.{IsPair, sent}
use Rattle.lane_core.specs.declared.job.Plain.{Plain}
use Rattle.hub_core.specs.declared.deliverer_seat.DelivererSeat.{DelivererSeat}
use Rattle.hub_core.specs.declared.hub.Hub.{Hub}
use Rattle.hub_core.specs.declared.lane_seat.LaneSeat.{LaneSeat}
use Rattle.hub_core.specs.inner.DrainedLists.{DrainsInto, Listed, Drains}
use Rattle.hub_core.specs.inner.Fresh.{IsPairedIn}
use Rattle.hub_core.specs.Hubs.{ArePushEnds, IsDelivererOf, IsLaneOf, shape_of}
use Rattle.hub_core.specs.Lanes.{lane_of, received}
use Rattle.hub_core.specs.inner.Draining.{AreFromFirst, AreLeftInRings}
use Rattle.hub_core.specs.Rings.{AreSameEnds, PopEnd, PushEnd, all_sent}
use Rattle.hub_core.proofs.SumFacts.{sum_by-map}
use Rattle.hub_core.proofs.EachIsDrained.{drains_more}
use Rattle.hub_core.proofs.RingsAfterStep.{rings_counted}

-- the end of one of the rings is still that which pairs with the lane's
pair_of_ring : (old now : List PushEnd) (l : ℕ) (c : PopEnd) (t : PushEnd) → AreSameEnds old now → l < length old
    → ((r : PushEnd) → slice_get old l ≡ Some r → IsPair r c) → slice_get now l ≡ Some t → IsPair t c
pair_of_ring old now l c t ends low paired is =
    let r = get_or old l t in
    let was = slice_get-get_or old l t low in
    let p = paired r was in
    let q = (ends.1 l r t was is).0 in
    (p.0 ∙ sym q.0, p.1 ∙ sym q.1, p.2 ∙ sym q.2, p.3 ∙ sym q.3)

-- so is that at the lane's number
pub pair_now : (old now : List PushEnd) (s : LaneSeat) (t : PushEnd) → IsPairedIn old s → AreSameEnds old now → t ≡ get_or now (lane_of s) t → IsPair t s.ring
pair_now old now s t paired ends at = pair_of_ring old now (lane_of s) s.ring t ends paired.0 paired.1
    (slice_get_read now (length now) (lane_of s) t refl (omega (arith, paired.0, ends.0)) at)

-- what the lane's ring was sent
pub sent_now : (old now : List PushEnd) (s : LaneSeat) (t : PushEnd) → all_sent now ≡ all_sent old → t ≡ get_or now (lane_of s) t → lane_of s < length now
    → sent t ≡ get_or (all_sent old) (lane_of s) []
sent_now old now s t same at low =
    sym (get_or-map (λ (r : PushEnd). sent r) now (lane_of s) t [] low ∙ ap (λ (r : PushEnd). sent r) (sym at)) ∙ ap (λ xs. get_or xs (lane_of s) []) same

-- what was left in one more ring was placed
pub ring_drained : (t u u' : List Listed) (rings : List PushEnd) (ss : List LaneSeat) (s : LaneSeat) (ys : List Plain) → Drains t u (AreLeftInRings rings ss)
    → DrainsInto u u' ys → received s ++ ys ≡ get_or (all_sent rings) (lane_of s) [] → Drains t u' (AreLeftInRings rings (ss ++ s ∷ []))
ring_drained t u u' rings ss s ys was more left =
    drains_more t u u' ys (AreLeftInRings rings ss) (AreLeftInRings rings (ss ++ s ∷ [])) was more (λ xs placed h.
    let g : ℕ → ℕ = λ l. sum_by h (get_or (all_sent rings) l []) in
    let a = sum_by-append (λ (v : LaneSeat). sum_by h (received v)) ss (s ∷ []) in
    let b = sum_by-map g lane_of (ss ++ s ∷ []) in
    let c = sum_by-append (λ (v : LaneSeat). g (lane_of v)) ss (s ∷ []) in
    let d = sum_by-map g lane_of ss in
    let e = ap (sum_by h) left in
    let f = sum_by-append h (received s) ys in
    omega (arith, placed h, sum_by-append h xs ys))

-- what came out of its ring is the first of what it was sent
pub from_first : (rings : List PushEnd) (ss : List LaneSeat) (s : LaneSeat) (ys : List Plain) → AreFromFirst rings ss → received s ++ ys
    ≡ get_or (all_sent rings) (lane_of s) [] → AreFromFirst rings (ss ++ s ∷ [])
from_first rings ss s ys was left = All-push (λ (v : LaneSeat). (zs : List Plain) × (received v ++ zs ≡ get_or (all_sent rings) (lane_of v) [])) ss s was
    (ys, left)

-- each lane's ring is that of its number
pub all_paired : (h : Hub) (rings : List PushEnd) (ss : List LaneSeat) → ArePushEnds h rings → length rings ≡ (shape_of h).lanes → All (IsLaneOf h) ss
    → All (IsPairedIn rings) ss
all_paired h rings ss ends long each = All-weaker (IsLaneOf h) (IsPairedIn rings) (λ s of_hub. (
  let low = of_hub.lane in omega arith,
  λ t e. pair_of_ring h.rings.value.items rings (lane_of s) s.ring t ends (let less = of_hub.lane in let same = ends.0 in omega arith) of_hub.ring e,
)) ss each

-- there is a ring for each lane of the hub
pub all_rings : (h : Hub) (d : DelivererSeat) → IsDelivererOf h d → length d.rings.items ≡ (shape_of h).lanes
all_rings h d of_hub = rings_counted d ∙ of_hub.lanes
