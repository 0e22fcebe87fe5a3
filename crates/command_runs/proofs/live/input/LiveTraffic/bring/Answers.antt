-- A delivery waits with those of its lane until the turn is written.
use Rattle.command_runs.proofs.live.Words.{HasMoved, Waiting, [], ap, arith, get_or, length, length-append, refl, turn_of, with_more, ◌∙◌, ◌∷◌, ◌≡◌}
use Rattle.command_runs.proofs.live.LinesAndDeliveries.{came_lane}
use Rattle.command_runs.proofs.live.ListsGrow.{adds_one, placed_at}
use Rattle.command_runs.proofs.live.LivedOn.{lived_on}
use Rattle.command_runs.proofs.live.input.LiveTraffic.bring.Goals as goal

pub push_reserved-requires : goal.push_reserved-requires
push_reserved-requires g c =
    let at = c.requires.3.come.waiting in
    let next = c.requires.4 in
    let w = c.index_mut.result.now in
    let i = at.each c.args.delivery.lane w (placed_at c.args.self.now.lanes.items _ c.args.delivery.lane w (omega (arith, next.lane, at.deliveries, at.count))
    c.index_mut.ensures.value (c.from-index.ensures ∙ c.ticket.ensures.lane)) in
    omega (arith, next.owed, ap length i.whole, length-append i.written w.deliveries.items, i.first, i.next, i.room, w.deliveries.ok.0)

pub returns-clause-brings : goal.returns-clause-brings
returns-clause-brings g c = λ start given brought l next.
    let s = c.args.self.now in
    let x = c.args.delivery in
    let w = c.index_mut.result.now in
    let v : Waiting = record { first = w.first; next = w.next; deliveries = c.push_reserved.new.self } in
    let here : c.from-index.result ≡ x.lane = c.from-index.ensures ∙ c.ticket.ensures.lane in
    let at = l.come.waiting in
    let got = placed_at s.lanes.items _ x.lane w (omega (arith, next.lane, at.deliveries, at.count)) c.index_mut.ensures.value here in
    let a = adds_one x.lane x brought next.lane in
    let moved : HasMoved 0 (x ∷ []) w v =
    record { first = refl; next = omega arith; deliveries = c.push_reserved.ensures.items; room = omega (arith, c.push_reserved.ensures.capacity) } in
    lived_on s _ _ _ _ refl start given given brought (with_more x.lane x brought) l (rw here (came_lane _ (turn_of s) l.come x.lane w v got (x ∷ [])
    (with_more x.lane x brought) a moved (omega (arith, next.owed, ap length a.here, length-append (get_or brought x.lane []) (x ∷ [])))))
