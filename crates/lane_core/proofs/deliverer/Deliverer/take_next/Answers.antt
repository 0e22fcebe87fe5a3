-- The slot is emptied, the lane's number rises by one, and the slot is filled from the later numbers.
use Rattle.std.proofs.Common.{List, rules, ◌≡◌, ◌<◌, ◌+◌, length, get_or, slice_set, refl, sym, ap, ◌∙◌, subst, arith}
use Rattle.std.proofs.lemmas.Grind.{get_or-set_at}
use Rattle.std.proofs.lemmas.List.{get_or_read, nil_from_length, set-get_or}
use Rattle.lane_core.specs.declared.next_slot.NextSlot.{NextSlot}
use Rattle.lane_core.specs.declared.next_slot.NextSlot.TheVariants.{Missing, Here}
use Rattle.lane_core.specs.ReorderBuffer.{GivesNext, ReorderBuffer}
use Rattle.lane_core.specs.declared.job.Plain.{Plain}
use Rattle.lane_core.specs.declared.ticket.Ticket.{Ticket}
use Rattle.lane_core.specs.inner.NextSlots.{Advances, IsSlotOf, is_here, slot_at}
use Rattle.lane_core.specs.NextSlots.{buffer_by_slots}
use Rattle.lane_core.proofs.AdvanceFacts.{none_later}
use Rattle.lane_core.proofs.BufferFacts.{gave, kept_next, known_same, others_same}
use Rattle.lane_core.proofs.SlotFacts.{next_waits, own_parts}
use Rattle.lane_core.proofs.deliverer.Deliverer.take_next.Goals as goal
use Rattle.lane_core.proofs.deliverer.Deliverer.take_next.Goals.{After-index, After-index_mut, After-index_mut-arg-2-1}

-- the lane and its slot are there
low : (c : After-index_mut) → c.args.lane < length c.self.inside.nexts.items
low c = rw (← c.self.view_is) at c.requires

there : (c : After-index_mut) → c.args.lane < length c.self.inside.slots.items
there c = let less = low c in let n = c.self.invariant.lanes in omega arith

-- the slot that the code reads is the lane's
value_of : (c : After-index_mut) → c.index_mut.result.now ≡ get_or c.self.inside.slots.items c.args.lane c.index_mut.result.now
value_of c = c.index_mut.ensures.value ∙ (λ i. get_or c.self.inside.slots.items (c.from-index.ensures i) c.index_mut.result.now)

slot_read : (c : After-index_mut) → slot_at c.self.inside.slots.items c.args.lane ≡ c.index_mut.result.now
slot_read c = sym (get_or_read c.self.inside.slots.items c.args.lane c.index_mut.result.now (there c) (value_of c) Missing)

-- nothing waits in the slot: it stays as it is
same_of : (c : goal.After-from_residual) → slice_set c.self.inside.slots.items c.from-index.result c.take.new.self ≡ c.self.inside.slots.items
same_of c =
    let d = (goal.at.invariant_of-self c).After-index_mut in
    let slots = c.self.inside.slots.items in
    (λ i. slice_set slots (c.from-index.ensures i) ((c.in_err-delivery.ensures.none.1 ∙ value_of d) i)) ∙ set-get_or slots c.args.lane c.index_mut.result.now

pub index_mut-requires : goal.index_mut-requires
index_mut-requires c =
    let less : c.args.lane < length c.self.inside.nexts.items = rw (← c.self.view_is) at c.requires in
    let n = c.self.invariant.lanes in
    omega arith

pub invariant_of-self : goal.invariant_of-self
invariant_of-self c = rw (same_of c) c.self.invariant

pub returns-in_err-delivery-clause-some : goal.returns-in_err-delivery-clause-some
returns-in_err-delivery-clause-some c = rw c.from_residual.ensures tt

pub returns-in_err-delivery-clause-none : goal.returns-in_err-delivery-clause-none
returns-in_err-delivery-clause-none c =
    let d = (goal.at.returns-in_err-delivery-clause-none c).After-index_mut in
    let none = next_waits c.self.inside.nexts.items c.self.inside.slots.items c.self.inside.later.entries c.self.inside.known.keys c.args.lane
    c.self.invariant (low d) ∙ (ap is_here (slot_read d) ∙ c.in_err-delivery.ensures.none.0) in
    rw c.from_residual.ensures
    (rw (← c.self.view_is)
    (none, ap (λ hs. buffer_by_slots c.self.inside.nexts.items hs c.self.inside.later.entries c.self.inside.known.keys) (same_of c)))

pub returns-in_err-delivery-clause-lanes : goal.returns-in_err-delivery-clause-lanes
returns-in_err-delivery-clause-lanes c = ap (λ (d : ReorderBuffer). length d.nexts) c.self.view_is

-- what the code reads as the lane's next number
next_read : (c : After-index) → c.index.result.now ≡ get_or c.self.inside.nexts.items c.args.lane 0
next_read c =
    let less : c.args.lane < length c.self.inside.nexts.items = rw (← c.self.view_is) at c.requires in
    get_or_read c.self.inside.nexts.items c.args.lane c.index.result.now less
    (c.index.ensures ∙ (λ i. get_or c.self.inside.nexts.items (c.from-index.ensures i) c.index.result.now)) 0

pub index-requires : goal.index-requires
index-requires c =
    let less : c.args.lane < length c.self.inside.nexts.items = rw (← c.self.view_is) at c.requires in
    omega arith

pub index_mut-requires-2 : goal.index_mut-requires-2
index_mut-requires-2 c =
    let less : c.args.lane < length c.self.inside.nexts.items = rw (← c.self.view_is) at c.requires in
    omega arith

-- The slot had a delivery, and its lane's number is raised: `low`, `next_read` and `slot_read` again, at this later point of the code. The name
-- `After-index_mut-arg-2-1` is rattle's own: it is where `self.nexts[index]` is written.
low_of : (c : After-index_mut-arg-2-1) → c.args.lane < length c.self.inside.nexts.items
low_of c = rw (← c.self.view_is) at c.requires

at_of : (c : After-index_mut-arg-2-1) → c.index.result.now ≡ get_or c.self.inside.nexts.items c.args.lane 0
at_of c = next_read (goal.at.index_mut-requires-2 c).After-index

waits_at : (c : After-index_mut-arg-2-1) → slot_at c.self.inside.slots.items c.args.lane ≡ Here c.in_ok-delivery.delivery
waits_at c = slot_read (goal.at.index_mut-requires-2 c).After-index_mut ∙ c.in_ok-delivery.ensures.some.0

own_of : (c : After-index_mut-arg-2-1) → IsSlotOf c.args.lane (get_or c.self.inside.nexts.items c.args.lane 0) (Here c.in_ok-delivery.delivery)
own_of c = subst (IsSlotOf c.args.lane (get_or c.self.inside.nexts.items c.args.lane 0)) (waits_at c) (c.self.invariant.own c.args.lane (low_of c))

pub overflow_add-next : goal.overflow_add-next
overflow_add-next c =
    let d = goal.at.overflow_add-next c in
    let n = get_or c.self.inside.nexts.items c.args.lane 0 in
    let at = next_read d.After-index in
    let own = subst (IsSlotOf c.args.lane n) (slot_read d.After-index_mut ∙ c.in_ok-delivery.ensures.some.0)
    (c.self.invariant.own c.args.lane (low d.After-index_mut)) in
    let small = (own_parts c.args.lane n c.in_ok-delivery.delivery own).2 in
    omega arith

-- the numbers and slots that the code has written are those of `gave`
nexts_of : (c : After-index_mut-arg-2-1)
    → slice_set c.self.inside.nexts.items c.from-index.result (c.index.result.now + 1)
    ≡ slice_set c.self.inside.nexts.items c.args.lane (get_or c.self.inside.nexts.items c.args.lane 0 + 1)
nexts_of c = λ i. slice_set c.self.inside.nexts.items (c.from-index.ensures i) (at_of c i + 1)

slots_of : (c : After-index_mut-arg-2-1) (a : NextSlot)
    → slice_set (slice_set c.self.inside.slots.items c.from-index.result c.take.new.self) c.from-index.result a
    ≡ slice_set (slice_set c.self.inside.slots.items c.args.lane Missing) c.args.lane a
slots_of c a = λ i. slice_set (slice_set c.self.inside.slots.items (c.from-index.ensures i) (c.in_ok-delivery.ensures.some.1 i)) (c.from-index.ensures i) a

-- the lane is given it, whatever there is of the number after it (a)
gives : (c : After-index_mut-arg-2-1) (later : List (Ticket × Plain)) (known : List Ticket) (a : NextSlot)
    → Advances c.args.lane (c.index.result.now + 1) c.self.inside.later.entries c.self.inside.known.keys later known a
    → GivesNext c.args.self.now c.args.lane c.in_ok-delivery.delivery
    (buffer_by_slots (slice_set c.self.inside.nexts.items c.from-index.result (c.index.result.now + 1))
    (slice_set (slice_set c.self.inside.slots.items c.from-index.result c.take.new.self) c.from-index.result a) later known)
gives c later known a moves =
    let is = subst (λ n. Advances c.args.lane (n + 1) c.self.inside.later.entries c.self.inside.known.keys later known a) (at_of c) moves in
    rw (← c.self.view_is)
    (rw (nexts_of c, slots_of c a)
    (gave c.self.inside.nexts.items c.self.inside.slots.items c.self.inside.later.entries later c.self.inside.known.keys known c.args.lane
    c.in_ok-delivery.delivery a (low_of c) c.self.invariant.lanes (waits_at c) (own_of c) is.waiting (known_same c.args.lane _ _ _ _ _ a is)
    (others_same c.args.lane _ _ _ _ _ a is)))

-- no later number is known: the emptied slot is what `gives` has with `Missing`
stays : (c : After-index_mut-arg-2-1)
    → slice_set (slice_set c.self.inside.slots.items c.from-index.result c.take.new.self) c.from-index.result Missing
    ≡ slice_set c.self.inside.slots.items c.from-index.result c.take.new.self
stays c =
    let slots = c.self.inside.slots.items in
    let there : c.from-index.result < length slots =
    let less = low_of c in let n = c.self.invariant.lanes in omega (arith, less, n, c.from-index.ensures) in
    let is : Missing ≡ get_or (slice_set slots c.from-index.result c.take.new.self) c.from-index.result Missing =
    sym (get_or-set_at slots c.from-index.result c.from-index.result c.take.new.self Missing refl there ∙ c.in_ok-delivery.ensures.some.1) in
    let emptied = slice_set slots c.from-index.result c.take.new.self in
    ap (slice_set emptied c.from-index.result) is ∙ set-get_or emptied c.from-index.result Missing

pub returns-clause-some : goal.returns-clause-some
returns-clause-some c = gives (goal.at.returns-clause-some c).After-index_mut-arg-2-1 _ _ _ c.slot_of.ensures

pub returns-then-is_empty-clause-some : goal.returns-then-is_empty-clause-some
returns-then-is_empty-clause-some c =
    let d = (goal.at.returns-then-is_empty-clause-some c).After-index_mut-arg-2-1 in
    let none : length c.self.inside.known.keys ≡ 0 = search rules in
    let stay = none_later c.args.lane (c.index.result.now + 1) _ _ c.self.invariant.indexed (nil_from_length c.self.inside.known.keys none) in
    rw (← stays d) (gives d _ _ _ stay)

pub invariant_of-self-then-is_empty : goal.invariant_of-self-then-is_empty
invariant_of-self-then-is_empty c =
    let d = (goal.at.invariant_of-self-then-is_empty c).After-index_mut-arg-2-1 in
    let none : length c.self.inside.known.keys ≡ 0 = search rules in
    let stay = none_later c.args.lane (c.index.result.now + 1) _ _ c.self.invariant.indexed (nil_from_length c.self.inside.known.keys none) in
    let moved = subst (λ n. Advances c.args.lane (n + 1) c.self.inside.later.entries c.self.inside.known.keys c.self.inside.later.entries
    c.self.inside.known.keys Missing) (at_of d) stay in
    rw (← stays d)
    (rw (nexts_of d, slots_of d Missing)
    (kept_next c.self.inside.nexts.items c.self.inside.slots.items c.self.inside.later.entries c.self.inside.later.entries c.self.inside.known.keys
    c.self.inside.known.keys c.args.lane Missing c.self.invariant (low_of d) moved.own moved.indexed moved.gone
    (others_same c.args.lane _ _ _ _ _ Missing moved)))
