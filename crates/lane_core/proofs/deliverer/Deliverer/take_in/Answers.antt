-- A lane's next number goes into its slot, a later one into both maps, and out of them again if memory is refused.
use Rattle.std.proofs.Common.{rules, ◌≡◌, ◌<◌, ◌^◌, ◌&&◌, not, nat_lt, true, false, length, get_or, slice_set, refl, sym, ap, ◌∙◌, arith}
use Rattle.std.proofs.lemmas.Bool.{and_left, and_right, le-ltb, lt-ltb, not_from_true}
use Rattle.std.proofs.lemmas.List.{get_or_read}
use Rattle.std.specs.BTreeMap.{is_at}
use Rattle.std.specs.Set.{remove_key}
use Rattle.lane_core.specs.declared.job.Plain.{Plain}
use Rattle.lane_core.specs.declared.ticket.Ticket.{Ticket}
use Rattle.lane_core.specs.declared.next_slot.NextSlot.TheVariants.{Here}
use Rattle.lane_core.specs.ReorderBuffer.{ReorderBuffer, is_new, lanes_of, next_of, was_taken}
use Rattle.lane_core.specs.NextSlots.{buffer_by_slots}
use Rattle.lane_core.proofs.TicketLookup.{cmp_tickets}
use Rattle.lane_core.proofs.TakingFacts.{head_kept, head_taken, keys_back, later_kept, later_taken}
use Rattle.lane_core.proofs.deliverer.Deliverer.take_in.Goals as goal
use Rattle.lane_core.proofs.deliverer.Deliverer.take_in.Goals.{After-index, then-lane-len-via-then-lane-len, then-lane-len-via-else-lane-len+then-was_taken}

-- the view has the delivery's lane
pub was_taken-requires : goal.was_taken-requires
was_taken-requires c =
    let view = ap (λ (d : ReorderBuffer). length d.nexts) c.self.view_is in
    omega arith

pub returns-then-lane-len-clause-refused : goal.returns-then-lane-len-clause-refused
returns-then-lane-len-clause-refused c =
    let view = ap (λ (d : ReorderBuffer). length d.nexts) c.self.view_is in
    let d = c.args.self.now in
    let x = c.args.delivery in
    elim c.then-lane-len.branch [
      | then-lane-len-via-then-lane-len w ↦
          (and_left (nat_lt x.lane (lanes_of d)) (not (was_taken d x.lane x.number)) (le-ltb x.lane (lanes_of d) (omega arith)), refl)
      | then-lane-len-via-else-lane-len+then-was_taken w ↦ (
        and_right (nat_lt x.lane (lanes_of d)) (not (was_taken d x.lane x.number)) (not_from_true (was_taken d x.lane x.number)
            ((λ i. was_taken d (sym c.ticket-ticket.ensures.lane i) (sym c.ticket-ticket.ensures.number i))
            ∙ (sym w.was_taken.ensures ∙ w.if-was_taken.true))),
        refl,
      )
    ]

pub returns-then-lane-len-clause-lanes : goal.returns-then-lane-len-clause-lanes
returns-then-lane-len-clause-lanes c = refl

pub index-requires : goal.index-requires
index-requires c = omega arith

pub index_mut-requires : goal.index_mut-requires
index_mut-requires c = let n = c.self.invariant.lanes in omega arith

-- the lane and the number that the code reads are the delivery's: it is one of the lanes, and has 32 bits
lane_is : (c : After-index) → c.from-lane.result ≡ c.args.delivery.lane
lane_is c = c.from-lane.ensures ∙ c.ticket-ticket.ensures.lane

low : (c : After-index) → c.args.delivery.lane < length c.self.inside.nexts.items
low c = let lane = lane_is c in omega arith

small : (c : After-index) → c.ticket-ticket.result.number < 2 ^ 32
small c = search rules

-- its number was not taken in
fresh : (c : After-index) → was_taken (buffer_by_slots c.self.inside.nexts.items c.self.inside.slots.items c.self.inside.later.entries c.self.inside.known.keys)
    c.ticket-ticket.result.lane c.ticket-ticket.result.number ≡ false
fresh c = ap (λ d. was_taken d c.ticket-ticket.result.lane c.ticket-ticket.result.number) c.self.view_is ∙ (sym c.was_taken.ensures ∙ c.if-was_taken.false)

-- what the code reads as the lane's next number
at : (c : After-index) → c.index.result.now ≡ get_or c.self.inside.nexts.items c.args.delivery.lane 0
at c = get_or_read c.self.inside.nexts.items c.args.delivery.lane c.index.result.now (low c)
    (c.index.ensures ∙ (λ i. get_or c.self.inside.nexts.items (lane_is c i) c.index.result.now)) 0

-- the delivery is new
new : (c : After-index) → is_new c.args.self.now c.args.delivery ≡ true
new c =
    let d = c.args.self.now in
    let view = ap (λ (b : ReorderBuffer). length b.nexts) c.self.view_is in
    let less = low c in
    let in_lanes = lt-ltb c.args.delivery.lane (lanes_of d) (omega arith) in
    let not_taken = (λ i. was_taken d (sym c.ticket-ticket.ensures.lane i) (sym c.ticket-ticket.ensures.number i))
    ∙ (sym c.was_taken.ensures ∙ c.if-was_taken.false) in
    λ i. in_lanes i && not (not_taken i)

-- if it is not the number read, it is not its lane's next number in the view
not_next : (c : After-index) → (c.from.result ≡ c.index.result.now → ⊥) → c.args.delivery.number ≡ next_of c.args.self.now c.args.delivery.lane → ⊥
not_next c other e =
    let next = ap (λ (b : ReorderBuffer). get_or b.nexts c.args.delivery.lane 0) c.self.view_is in
    other (c.from.ensures ∙ (c.ticket-ticket.ensures.number ∙ (e ∙ (sym next ∙ sym (at c)))))

-- it is its lane's next number, and goes into that lane's slot
next : (c : goal.Joined-index_mut) → c.ticket-ticket.result.number ≡ get_or c.self.inside.nexts.items c.args.delivery.lane 0
next c = sym c.from.ensures ∙ (c.if-from-index.true ∙ at (goal.at.invariant_of-self c).After-index)

slots : (c : goal.Joined-index_mut) → slice_set c.self.inside.slots.items c.from-lane.result (Here c.args.delivery)
    ≡ slice_set c.self.inside.slots.items c.args.delivery.lane (Here c.args.delivery)
slots c = λ i. slice_set c.self.inside.slots.items ((c.from-lane.ensures ∙ c.ticket-ticket.ensures.lane) i) (Here c.args.delivery)

pub invariant_of-self : goal.invariant_of-self
invariant_of-self c =
    let d = (goal.at.invariant_of-self c).After-index in
    rw (slots c) (head_kept _ _ _ _ c.self.invariant c.ticket-ticket.result c.args.delivery c.ticket-ticket.ensures.lane c.ticket-ticket.ensures.number
    (small d) (low d) (fresh d) (next c))

pub returns-then-from-index-clause-taken : goal.returns-then-from-index-clause-taken
returns-then-from-index-clause-taken c =
    let d = (goal.at.returns-then-from-index-clause-taken c).After-index in
    rw (← c.self.view_is) (rw (slots c) (head_taken _ _ _ _ c.self.invariant c.ticket-ticket.result c.args.delivery c.ticket-ticket.ensures.lane
    c.ticket-ticket.ensures.number (small d) (low d) (fresh d) (next c)))

pub returns-then-from-index-clause-lanes : goal.returns-then-from-index-clause-lanes
returns-then-from-index-clause-lanes c = ap (λ (d : ReorderBuffer). length d.nexts) c.self.view_is

-- memory for its ticket is refused
pub invariant_of-self-in_default : goal.invariant_of-self-in_default
invariant_of-self-in_default c = rw c.in_default.ensures.err c.self.invariant

pub returns-in_default-clause-refused : goal.returns-in_default-clause-refused
returns-in_default-clause-refused c =
    let d = (goal.at.returns-in_default-clause-refused c).After-index in
    (new d, refl, not_next d c.if-from-index.false)

pub returns-in_default-clause-unchanged : goal.returns-in_default-clause-unchanged
returns-in_default-clause-unchanged c = rw c.in_default.ensures.err c.self.view_is

pub returns-in_default-clause-lanes : goal.returns-in_default-clause-lanes
returns-in_default-clause-lanes c = ap (λ (d : ReorderBuffer). length d.nexts) c.self.view_is

-- it is kept as a later number
pub invariant_of-self-in-Ok-insert : goal.invariant_of-self-in-Ok-insert
invariant_of-self-in-Ok-insert c =
    let d = (goal.at.invariant_of-self-in-Ok-insert c).After-index in
    rw (c.in-Ok-insert.ensures.entries, c.in-Ok.ensures.keys)
    (later_kept _ _ _ _ c.self.invariant c.ticket-ticket.result c.args.delivery c.ticket-ticket.ensures.lane c.ticket-ticket.ensures.number (small d) (low d)
    (fresh d) (λ e. c.if-from-index.false (c.from.ensures ∙ (e ∙ sym (at d)))))

pub returns-in-Ok-insert-clause-taken : goal.returns-in-Ok-insert-clause-taken
returns-in-Ok-insert-clause-taken c =
    let d = (goal.at.returns-in-Ok-insert-clause-taken c).After-index in
    rw (← c.self.view_is)
    (rw (c.in-Ok-insert.ensures.entries, c.in-Ok.ensures.keys)
    (later_taken _ _ _ _ c.self.invariant c.ticket-ticket.result c.args.delivery c.ticket-ticket.ensures.lane c.ticket-ticket.ensures.number (small d) (low d)
    (fresh d)))

-- memory for the delivery is refused: its ticket is taken out again
same_keys : (c : goal.After-remove) → c.remove.new.self.keys ≡ c.self.inside.known.keys
same_keys c =
    let d = (goal.at.invariant_of-self-in-Err c).After-index in
    c.remove.ensures.keys
    ∙ (ap (λ ks. remove_key (is_at (cmp_tickets c.ticket-ticket.result)) ks) c.in-Ok.ensures.keys
    ∙ keys_back _ _ _ _ c.self.invariant c.ticket-ticket.result c.args.delivery c.ticket-ticket.ensures.lane c.ticket-ticket.ensures.number (small d) (low d)
    (fresh d))

pub invariant_of-self-in-Err : goal.invariant_of-self-in-Err
invariant_of-self-in-Err c = rw (c.in-Err.ensures.err, same_keys c) c.self.invariant

pub returns-clause-unchanged : goal.returns-clause-unchanged
returns-clause-unchanged c =
    rw (← c.self.view_is) (λ i. buffer_by_slots c.self.inside.nexts.items c.self.inside.slots.items (c.in-Err.ensures.err i) (same_keys c i))

pub returns-in-Ok-insert-clause-lanes : goal.returns-in-Ok-insert-clause-lanes
returns-in-Ok-insert-clause-lanes c = ap (λ (d : ReorderBuffer). length d.nexts) c.self.view_is

pub returns-clause-refused : goal.returns-clause-refused
returns-clause-refused c =
    let d = (goal.at.returns-clause-refused c).After-index in
    (new d, ap (λ (e : Ticket × Plain). e.1) c.in-Err.ensures.value_returned, not_next d c.if-from-index.false)

pub returns-clause-lanes : goal.returns-clause-lanes
returns-clause-lanes c = ap (λ (d : ReorderBuffer). length d.nexts) c.self.view_is
