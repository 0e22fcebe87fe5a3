-- The ends of the rings that push, as they were and after a step at one of them, and what was sent. What `place_rings` takes out is in `RingsAreDrained`.
use Rattle.std.proofs.Common.{◌≡◌, ◌≢◌, ⊎_elim, ℕ, ◌<◌, List, [], ◌∷◌, ◌++◌, get_or, length, set, refl, sym, ap, ◌∙◌, subst, Some}
use Rattle.std.specs.List.{slice_get}
use Rattle.std.proofs.Math.Seq.{map-set_same}
use Rattle.std.proofs.lemmas.List.{length-map, length-set}
use Rattle.std.proofs.lemmas.Option.{same_Some, slice_get_read}
use Rattle.rtrb.specs.Ring.{SameProducer, sent}
use Rattle.lane_core.specs.declared.job.Plain.{Plain}
use Rattle.lane_core.specs.ReorderBuffer.{lanes_of}
use Rattle.hub_core.specs.declared.deliverer_seat.DelivererSeat.{DelivererSeat}
use Rattle.hub_core.specs.Rings.{AreSameEnds, PushEnd, all_sent}
use Rattle.hub_core.specs.Traffics.{with_more}
use Rattle.hub_core.proofs.ListsByPlace.{get_set}
use Rattle.hub_core.proofs.ListsOfLists.{list_more_at}

-- an end is the same after two steps
pub same_ring : (a b c : PushEnd) → SameProducer a b → SameProducer b c → SameProducer a c
same_ring a b c x y = ((y.0.0 ∙ x.0.0, y.0.1 ∙ x.0.1, y.0.2 ∙ x.0.2, y.0.3 ∙ x.0.3), y.1 ∙ x.1)

-- without a step they are the same
pub ends_same : (old new : List PushEnd) → old ≡ new → AreSameEnds old new
ends_same old new is = (
  ap length (sym is),
  λ l r t e f. subst (λ (u : PushEnd). SameProducer r u) (same_Some r t (sym (ap (λ rs. slice_get rs l) (sym is) ∙ e) ∙ f)) ((refl, refl, refl, refl), refl),
)

-- there was a step at one of them
pub ends_set : (old now : List PushEnd) (l : ℕ) (r t : PushEnd) → AreSameEnds old now → r ≡ get_or now l r → l < length now → SameProducer r t
    → AreSameEnds old (set now l t)
ends_set old now l r t ends at less same = (
  length-set now l t ∙ ends.0,
  λ k b u eb eu. ⊎_elim
      (λ (g : (k ≡ l) × (t ≡ u)). subst (λ (v : PushEnd). SameProducer b v) g.1
      (same_ring b r t (ends.1 k b r eb (ap (slice_get now) g.0 ∙ slice_get_read now (length now) l r refl less at)) same))
      (λ (g : (k ≢ l) × (slice_get now k ≡ Some u)). ends.1 k b u eb g.1) (get_set now l k t u eu),
)

-- nothing more was sent
pub sent_same : (rings : List PushEnd) (l : ℕ) (r t : PushEnd) → r ≡ get_or rings l r → sent t ≡ sent r → all_sent (set rings l t) ≡ all_sent rings
sent_same rings l r t at same = map-set_same (λ (u : PushEnd). sent u) rings l t r (same ∙ ap (λ (u : PushEnd). sent u) at)

-- one more was sent to lane l
pub sent_more : (rings : List PushEnd) (i l : ℕ) (r t : PushEnd) (x : Plain) → i ≡ l → r ≡ get_or rings i r → i < length rings → sent t ≡ sent r ++ x ∷ []
    → all_sent (set rings i t) ≡ with_more l x (all_sent rings)
sent_more rings i l r t x is at low more = list_more_at (λ (u : PushEnd). sent u) rings i r t x at low more
    ∙ ap (λ k. with_more k x (all_sent rings)) is

-- a deliverer's seat has a ring for each lane
pub rings_counted : (d : DelivererSeat) → length d.rings.items ≡ lanes_of d.deliverer
rings_counted d = sym (length-map d.rings.items (λ (r : PushEnd). sent r)) ∙ d.accounted.giving.lanes
