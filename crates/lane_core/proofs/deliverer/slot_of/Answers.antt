-- The ticket is taken off those that are known, and its delivery off those that wait, if it is there.
use Rattle.std.proofs.Common.{rules, ◌≡◌, ◌<◌, ◌^◌, Bool, false, true, refl, sym, ap, ◌∙◌}
use Rattle.std.specs.List.{list_any}
use Rattle.std.specs.Map.{lookup}
use Rattle.std.specs.BTreeMap.{is_at}
use Rattle.std.specs.Set.{remove_key}
use Rattle.lane_core.specs.declared.ticket.Ticket.{Ticket}
use Rattle.lane_core.proofs.AdvanceFacts.{was_here, was_out}
use Rattle.lane_core.proofs.TicketLookup.{Finds, finds_at, cmp_tickets}
use Rattle.lane_core.proofs.deliverer.slot_of.Goals as goal
use Rattle.lane_core.proofs.deliverer.slot_of.Goals.{After-remove-2}

-- the test of both look-ups: the ticket is lane `lane`'s number `next`
abbrev test : After-remove-2 → Ticket → Bool
test c = is_at (cmp_tickets (record { lane = c.args.lane; number = c.in-Ok.number }))

-- the number has 32 bits
small : (c : After-remove-2) → c.args.next < 2 ^ 32
small c = search rules

-- `test` finds this ticket alone
finds : (c : After-remove-2) → Finds (test c) c.args.lane c.args.next
finds c =
    let same : c.in-Ok.number ≡ c.args.next = search rules in
    finds_at (record { lane = c.args.lane; number = c.in-Ok.number }) c.args.lane c.args.next refl same

-- the ticket was known, and is no more
there : (c : After-remove-2) → list_any (test c) c.args.known.now.keys ≡ true
there c = sym c.remove.ensures.test ∙ c.if-not-remove.false

gone : (c : After-remove-2) → list_any (test c) (remove_key (test c) c.args.known.now.keys) ≡ false
gone c = ap (list_any (test c)) (sym c.remove.ensures.keys) ∙ c.remove.ensures.updates.1

pub returns-in-Some : goal.returns-in-Some
returns-in-Some c =
    let d = (goal.at.returns-in-Some c).After-remove-2 in
    let none = ap (lookup (test d)) (sym c.remove-2.ensures.entries) ∙ c.remove-2.ensures.updates.1 in
    rw (c.remove-2.ensures.entries, c.remove.ensures.keys)
    (was_here (test d) c.args.lane c.args.next (finds d) c.args.later.now.entries c.args.known.now.keys c.requires (there d) (gone d) c.in-Some.delivery
    (sym c.in-Some.ensures.value) none (small d))

pub returns-in-None : goal.returns-in-None
returns-in-None c =
    let d = (goal.at.returns-in-None c).After-remove-2 in
    rw (c.in-None.ensures.unchanged, c.remove.ensures.keys)
    (was_out (test d) c.args.lane c.args.next (finds d) c.args.later.now.entries c.args.known.now.keys c.requires (there d) (gone d)
    (sym c.in-None.ensures.value))
