-- The lane's slot has a delivery exactly if its next number waits.
use Rattle.std.proofs.Common.{◌≡◌, ◌<◌, false, length, get_or, refl, sym, ap, ◌∙◌, subst, arith}
use Rattle.std.proofs.lemmas.Grind.{common_steps}
use Rattle.std.specs.Map.{values_of}
use Rattle.lane_core.specs.declared.next_slot.NextSlot.{NextSlot}
use Rattle.lane_core.specs.declared.next_slot.NextSlot.TheVariants.{Missing, Here, Out}
use Rattle.lane_core.specs.declared.job.Plain.{Plain}
use Rattle.lane_core.specs.inner.NextSlots.{IsSlotOf, is_here, slot_at}
use Rattle.lane_core.proofs.SlotFacts.{contained, next_waits, own_parts}
use Rattle.lane_core.proofs.deliverer.Deliverer.next.Goals as goal

-- the slot that the code reads is the lane's, and the lane is there
here : (c : goal.In-Here) → slot_at c.self.inside.slots.items c.args.lane ≡ Here c.in-Here.delivery
here c = grind (arith, common_steps)

low : (c : goal.In-Here) → c.args.lane < length c.self.inside.nexts.items
low c = rw (← c.self.view_is) at c.requires

pub returns-in-Here-clause-some : goal.returns-in-Here-clause-some
returns-in-Here-clause-some c =
    let nexts = c.self.inside.nexts.items in
    let slots = c.self.inside.slots.items in
    let own = subst (IsSlotOf c.args.lane (get_or nexts c.args.lane 0)) (here c) (c.self.invariant.own c.args.lane (low c)) in
    let p = own_parts c.args.lane (get_or nexts c.args.lane 0) c.in-Here.delivery own in
    rw (← c.self.view_is) record {
      lane = p.0;
      number = p.1;
      waits = contained slots c.args.lane c.in-Here.delivery (values_of c.self.inside.later.entries)
          (let n = c.self.invariant.lanes in let l = low c in omega arith) (here c);
    }

pub returns-in-Here-clause-exactly : goal.returns-in-Here-clause-exactly
returns-in-Here-clause-exactly c =
    let waits = next_waits c.self.inside.nexts.items c.self.inside.slots.items c.self.inside.later.entries c.self.inside.known.keys c.args.lane c.self.invariant
    (low c) in
    rw (← c.self.view_is) ((λ e. waits ∙ ap is_here (here c)), (λ e. refl))

-- a slot that has no delivery
none_here : (h : NextSlot) → ((x : Plain) → h ≡ Here x → ⊥) → is_here h ≡ false
none_here Missing none = refl
none_here (Here x) none = absurd (none x refl)
none_here Out none = refl

pub returns-in_default : goal.returns-in_default
returns-in_default c =
    let low : c.args.lane < length c.self.inside.nexts.items = rw (← c.self.view_is) at c.requires in
    let waits = next_waits c.self.inside.nexts.items c.self.inside.slots.items c.self.inside.later.entries c.self.inside.known.keys c.args.lane c.self.invariant
    low in
    let at : slot_at c.self.inside.slots.items c.args.lane ≡ c.index.result.now = grind (arith, common_steps) in
    let none = waits ∙ (ap is_here at ∙ none_here c.index.result.now c.in_default.not-Here) in
    rw (← c.self.view_is) record { some = tt; exactly = ((λ e. absurd (cc)), (λ e. sym none ∙ e)) }
