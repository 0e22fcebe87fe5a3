-- Each test looks at one place of the machine; what is in none of the others waits.
use Rattle.std.proofs.Common.{◌<◌, length, arith, sym, ap, ◌∙◌}
use Rattle.std.proofs.lemmas.Bool.{lt-ltb}
use Rattle.lane_core.specs.Holding.{held}
use Rattle.lane_core.specs.Machine.{handed_of, polled_of}
use Rattle.lane_core.specs.Tickets.{is_held_by}
use Rattle.lane_core.proofs.SeenFacts.{seen_at, must_wait}
use Rattle.lane_core.proofs.TruthFacts.{between}
use Rattle.lane_core.proofs.world.World.place.Goals as goal

pub returns-then-index-clause-none : goal.returns-then-index-clause-none
returns-then-index-clause-none c =
    let l = c.args.ticket.lane in
    let less : l < length c.self.inside.lanes.items = omega arith in
    rw (← c.self.view_is) (λ s reached shows.
    let a = seen_at c.self.inside l c.index.result.now less c.index.ensures s reached shows in
    let b = a.issued in omega arith)

pub returns-then-index-2-clause-found : goal.returns-then-index-2-clause-found
returns-then-index-2-clause-found c =
    let l = c.args.ticket.lane in
    let less : l < length c.self.inside.lanes.items = omega arith in
    rw (← c.self.view_is) (λ s reached shows.
    let a = seen_at c.self.inside l c.index-2.result.now less c.index-2.ensures s reached shows in
    let b = a.polled in lt-ltb c.args.ticket.number (polled_of s l) (omega arith))

pub returns-then-index-len-clause-found : goal.returns-then-index-len-clause-found
returns-then-index-len-clause-found c =
    let l = c.args.ticket.lane in
    let less : l < length c.self.inside.lanes.items = omega arith in
    rw (← c.self.view_is) (λ s reached shows.
    let a = (seen_at c.self.inside l c.index-2.result.now less c.index-2.ensures s reached shows).polled in
    let b = (seen_at c.self.inside l c.index-3.result.now less c.index-3.ensures s reached shows).handed in
    between c.args.ticket.number (polled_of s l) (handed_of s l) (omega arith) (omega arith))

pub returns-clause-found : goal.returns-clause-found
returns-clause-found c =
    let l = c.args.ticket.lane in
    let less : l < length c.self.inside.lanes.items = omega arith in
    let workers = ap (is_held_by l c.args.ticket.number) (sym c.deref.ensures.value) ∙ (sym c.is_held.ensures ∙ c.if-is_held.false) in
    rw (← c.self.view_is) (λ s reached shows.
    let a = (seen_at c.self.inside l c.index.result.now less c.index.ensures s reached shows).issued in
    let b = (seen_at c.self.inside l c.index-3.result.now less c.index-3.ensures s reached shows).handed in
    must_wait (held c.self.inside) s l c.args.ticket.number reached shows (omega arith) (omega arith)
    (sym c.is_job_of.ensures ∙ c.if-is_job_of.false) workers (sym c.is_result_of.ensures ∙ c.if-is_result_of.false))
