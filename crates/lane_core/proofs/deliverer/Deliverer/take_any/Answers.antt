-- Out goes the first of the later numbers, or else one that waits in a slot; either is still known as taken in.
use Rattle.std.proofs.Common.{◌≡◌, ◌<◌, Option, Some, None, List, ℕ, [], ◌∷◌, length, sym, ap, ◌∙◌, subst, arith}
use Rattle.std.proofs.lemmas.Bool.{and_parts, or_right}
use Rattle.std.proofs.lemmas.List.{with_items_is}
use Rattle.std.specs.Map.{values_of}
use Rattle.std.specs.Option.{IfNone, IfSome}
use Rattle.std.specs.Vec.{with_items}
use Rattle.lane_core.specs.declared.next_slot.NextSlot.{NextSlot}
use Rattle.lane_core.specs.declared.next_slot.NextSlot.TheVariants.{Out}
use Rattle.lane_core.specs.declared.job.Plain.{Plain}
use Rattle.lane_core.specs.declared.ticket.Ticket.{Ticket}
use Rattle.lane_core.specs.ReorderBuffer.{GivesAny, ReorderBuffer}
use Rattle.lane_core.specs.inner.NextSlots.{AreKept, are_tied, is_tied, TakesSlot}
use Rattle.lane_core.specs.NextSlots.{buffer_by_slots, waiting_at}
use Rattle.lane_core.specs.Tickets.{is_among, is_ticket_of}
use Rattle.lane_core.proofs.BufferFacts.{kept_set, took_slot, took_out}
use Rattle.lane_core.proofs.deliverer.Deliverer.take_any.Goals as goal

pub returns-in-Some-clause-some : goal.returns-in-Some-clause-some
returns-in-Some-clause-some c =
    rw (← c.self.view_is)
    (took_out c.self.inside.nexts.items c.self.inside.slots.items c.self.inside.later.entries c.pop_first.new.self.entries c.self.inside.known.keys
    c.in-Some.field-0-0 c.in-Some.delivery c.in-Some.ensures.removal)

-- a lane's next number was taken out of turn
took_some : (nexts : List ℕ) (hs gs : List NextSlot) (es fs : List (Ticket × Plain)) (ks : List Ticket) → AreKept nexts hs es ks → fs ≡ es
    → (o : Option Plain) → IfSome o (TakesSlot hs gs)
    → IfSome o (λ x. GivesAny (buffer_by_slots nexts hs es ks) x (buffer_by_slots nexts gs fs ks))
took_some nexts hs gs es fs ks kept same None is = tt
took_some nexts hs gs es fs ks kept same (Some x) is =
    subst (λ (q : List NextSlot × List (Ticket × Plain)). GivesAny (buffer_by_slots nexts hs es ks) x (buffer_by_slots nexts q.0 q.1 ks))
    (λ i. (sym is.3 i, sym same i)) (took_slot nexts hs es ks is.0 x kept.lanes is.1 is.2)

-- the slots are those that `take_first` left
slots : (c : goal.After-self-1) → (with_items c.self.inside.slots c.take_first.new.slots).items ≡ c.take_first.new.slots
slots c = with_items_is c.self.inside.slots c.take_first.new.slots
    (c.take_first.ensures.len ∙ (ap length c.as_mut_slice.ensures.value ∙ sym c.self.inside.slots.ok.0))

pub returns-in-None-clause-some : goal.returns-in-None-clause-some
returns-in-None-clause-some c =
    rw (← c.self.view_is)
    (rw (slots c)
    (took_some c.self.inside.nexts.items c.self.inside.slots.items c.take_first.new.slots c.self.inside.later.entries c.pop_first.new.self.entries
    c.self.inside.known.keys c.self.invariant c.in-None.ensures.unchanged
    c.take_first.result (rw c.as_mut_slice.ensures.value at c.take_first.ensures.some)))

-- a later number was taken out of turn
kept_out : (nexts : List ℕ) (hs : List NextSlot) (es fs : List (Ticket × Plain)) (ks : List Ticket) (t : Ticket) (x : Plain) → AreKept nexts hs es ks
    → es ≡ (t, x) ∷ fs → AreKept nexts hs fs ks
kept_out nexts hs es fs ks t x kept is =
    let k = subst (λ ds. AreKept nexts hs ds ks) is kept in
    record {
      lanes = k.lanes;
      own = k.own;
      indexed = record {
        tied = (and_parts (is_tied (t, x)) (are_tied fs) k.indexed.tied).1;
        among = λ l n e. k.indexed.among l n (or_right (is_ticket_of l n x) (is_among l n (values_of fs)) e);
      };
      apart = k.apart;
    }

pub invariant_of-self : goal.invariant_of-self
invariant_of-self c = kept_out c.self.inside.nexts.items c.self.inside.slots.items c.self.inside.later.entries c.pop_first.new.self.entries
    c.self.inside.known.keys c.in-Some.field-0-0 c.in-Some.delivery c.self.invariant c.in-Some.ensures.removal

-- a lane's next number was taken out of turn, or none waited
kept_some : (nexts : List ℕ) (hs gs : List NextSlot) (es : List (Ticket × Plain)) (ks : List Ticket) → AreKept nexts hs es ks → (o : Option Plain)
    → IfSome o (TakesSlot hs gs) → IfNone o ((waiting_at hs ≡ []) × (gs ≡ hs))
    → AreKept nexts gs es ks
kept_some nexts hs gs es ks kept None some none = subst (λ q. AreKept nexts q es ks) (sym none.1) kept
kept_some nexts hs gs es ks kept (Some x) some none =
    let there : some.0 < length nexts = let less = some.1 in let n = kept.lanes in omega arith in
    subst (λ q. AreKept nexts q es ks) (sym some.3) (kept_set nexts hs es ks some.0 Out kept there tt)

pub invariant_of-self-in-None : goal.invariant_of-self-in-None
invariant_of-self-in-None c =
    let value = c.as_mut_slice.ensures.value in
    rw (slots c, c.in-None.ensures.unchanged)
    (kept_some c.self.inside.nexts.items c.self.inside.slots.items c.take_first.new.slots c.self.inside.later.entries c.self.inside.known.keys
    c.self.invariant c.take_first.result (rw value at c.take_first.ensures.some) (rw value at c.take_first.ensures.none))

pub returns-in-Some-clause-lanes : goal.returns-in-Some-clause-lanes
returns-in-Some-clause-lanes c = ap (λ (d : ReorderBuffer). length d.nexts) c.self.view_is

pub returns-in-None-clause-lanes : goal.returns-in-None-clause-lanes
returns-in-None-clause-lanes c = ap (λ (d : ReorderBuffer). length d.nexts) c.self.view_is
