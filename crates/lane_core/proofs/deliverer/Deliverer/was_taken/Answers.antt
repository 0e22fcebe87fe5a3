-- The three tests look at the three parts of what was taken in (`was_is`).
use Rattle.std.proofs.Common.{◌≡◌, ◌==◌, ◌&&◌, ◌||◌, nat_lt, not, sym, ap, ◌∙◌, get_or, arith}
use Rattle.std.proofs.lemmas.Grind.{common_steps}
use Rattle.lane_core.specs.ReorderBuffer.{is_known, was_taken}
use Rattle.lane_core.specs.inner.NextSlots.{has_come, slot_at}
use Rattle.lane_core.proofs.BufferFacts.{was_is}
use Rattle.lane_core.proofs.TicketLookup.{any_finds, finds_own}
use Rattle.lane_core.proofs.deliverer.Deliverer.was_taken.Goals as goal

pub returns : goal.returns
returns c =
    let lane = c.args.ticket.lane in
    let number = c.args.ticket.number in
    let nexts = c.self.inside.nexts.items in
    let slots = c.self.inside.slots.items in
    let given : nat_lt c.from-number.result c.index.result.now ≡ nat_lt number (get_or nexts lane 0) = grind (arith, common_steps) in
    let is_next : (c.from-number.result == c.index-2.result.now) ≡ (get_or nexts lane 0 == number) = grind (arith, common_steps) in
    let come : not c.match-matches.matches ≡ has_come (slot_at slots lane) = elim c.match-matches.branch [ goal.in-Missing w ↦ grind (arith, common_steps) | goal.in_default w ↦ grind (arith, common_steps) ] in
    let later : c.contains.result ≡ is_known lane number c.self.inside.known.keys =
    c.contains.ensures ∙ any_finds _ lane number (finds_own c.args.ticket) c.self.inside.known.keys in
    (λ i. given i || (is_next i && come i) || later i)
    ∙ (sym (was_is nexts slots c.self.inside.later.entries c.self.inside.known.keys c.self.invariant.lanes lane number)
    ∙ ap (λ d. was_taken d lane number) c.self.view_is)
