-- The calling thread's steps, one after another: for `CallingThread`.
use Rattle.std.proofs.Common.{◌≡◌, option_to_list, length, sym, ap, ◌∙◌, subst}
use Rattle.std.specs.Prelude.{Err, IsErr, Ok, Result}
use Rattle.lane_core.proofs.ResultFacts.{not_done}
use Rattle.hub_core.specs.Hubs.{shape_of}
use Rattle.hub_core.specs.inner.Traffics.{AreOwnSeats}
use Rattle.hub_core.specs.Traffics.{History, IfLost}
use Rattle.hub_core.specs.inner.CallingThread.{AreLeftLost, GoesOn, HasLost, TakesStep, WasLost, IsServing}
use Rattle.hub_core.specs.declared.calling_thread.CallingThread.{CallingThread}
use Rattle.hub_core.specs.declared.ended.Ended.{Ended}
use Rattle.hub_core.specs.declared.ended.Ended.TheVariants.{BringFailed, Done, NoMemory, WaitFailed}
use Rattle.hub_core.specs.declared.hub.Hub.{Hub}
use Rattle.hub_core.proofs.SeatsServeTraffic.{seats_counted}

-- a step after others
pub goes_since : {T : Type 0} (Came : History T) (s t u : CallingThread T) → GoesOn Came s t → GoesOn Came t u → GoesOn Came s u
goes_since Came s t u first then = record {
  hub = then.hub ∙ first.hub;
  start = then.start ∙ first.start;
  seats = then.seats ∙ first.seats;
  serves = then.serves;
}

-- a step that was refused
pub lost_step : {T X B : Type 0} (Came : History T) (Leaves : T → T → Type 0) (s t : CallingThread T) (r : Result X B) → IsErr r → HasLost Came Leaves s t
    → TakesStep Came Leaves s r t
lost_step Came Leaves s t (Ok x) refused lost = not_done (sym refused)
lost_step Came Leaves s t (Err e) refused lost = lost

-- whatever is lost later was lost since an earlier step of the same thread
pub lost_since : {T : Type 0} (Came : History T) (Leaves : T → T → Type 0) (s t u : CallingThread T) → t.hub.now ≡ s.hub.now → t.start.value ≡ s.start.value
    → length (option_to_list t.own) ≡ length (option_to_list s.own) → HasLost Came Leaves t u → HasLost Came Leaves s u
lost_since Came Leaves s t u hub start seats lost = record {
  keeps = record {
    hub = lost.keeps.hub ∙ hub;
    start = lost.keeps.start ∙ start;
    seats = lost.keeps.seats ∙ seats;
    lanes = lost.keeps.lanes;
    deliverer = lost.keeps.deliverer;
    own = lost.keeps.own;
  };
  lost = lost.lost;
}

-- and so it was lost by the seats that are left
pub left_lost : {T : Type 0} (Came : History T) (Leaves : T → T → Type 0) (s t : CallingThread T) (h : Hub) (start : T) → s.hub.now ≡ h
    → s.start.value ≡ start → HasLost Came Leaves s t → AreLeftLost Came Leaves h start t.traffic.value t.lanes.items
left_lost Came Leaves s t h start hub is lost = (
  t.held,
  subst (λ x. AreOwnSeats x t.lanes.items t.held) (lost.keeps.hub ∙ hub) lost.keeps.lanes,
  subst (λ v. WasLost Came Leaves v t.traffic.value t.lanes.items t.held) (lost.keeps.start ∙ is) lost.lost,
)

-- `IfLost` of what follows
pub if_lost : {W B : Type 0} (e : Ended W B) (P Q : Type 0) → (P → Q) → IfLost e P → IfLost e Q
if_lost (BringFailed fault) P Q f p = f p
if_lost Done P Q f p = tt
if_lost NoMemory P Q f p = tt
if_lost (WaitFailed fault) P Q f p = tt

-- it has as many lanes as before
pub lanes_kept : {T : Type 0} (Came : History T) (s t : CallingThread T) → IsServing Came s → GoesOn Came s t → length t.lanes.items ≡ length s.lanes.items
lanes_kept Came s t serves goes =
    seats_counted t.hub.now t.lanes.items t.held goes.serves.lanes ∙ (ap (λ h. (shape_of h).lanes) goes.hub
    ∙ sym (seats_counted s.hub.now s.lanes.items s.held serves.lanes))
