-- The line of a row is that of the delivery which waits under its number; a notice has its own.
use Rattle.command_runs.proofs.live.Words.{arith, length, on_ok_weaker, refl, slice_get_read}
use Rattle.command_runs.proofs.live.ListsGrow.{placed_at}
use Rattle.command_runs.proofs.live.pending.push_reply.Goals as goal

pub index-requires : goal.index-requires
index-requires c =
    let r = rw c.in-Row.is at c.requires in
    let v = c.index-lanes-from.result in
    let low = r.1 v (placed_at c.args.lanes.now _ c.in-Row.lane v r.0 c.index-lanes-from.is c.from.ensures) in
    omega (arith, low.0, low.1, v.deliveries.ok.0)

pub returns-in-Row : goal.returns-in-Row
returns-in-Row c =
    let r = rw c.in-Row.is at c.requires in
    let v = c.index-lanes-from.result in
    let got = placed_at c.args.lanes.now _ c.in-Row.lane v r.0 c.index-lanes-from.is c.from.ensures in
    let low = r.1 v got in
    let x = c.index.result.now in
    let there = slice_get_read v.deliveries.items (length v.deliveries.items) _ x refl (omega (arith, low.0, low.1)) c.index.ensures in
    rw c.in-Row.is (on_ok_weaker c.push_line.result (λ p. (_, p.2, (v, x, p.0, got, low.0, there, p.1, refl))) c.push_line.ensures)

pub returns-in-Notice : goal.returns-in-Notice
returns-in-Notice c = rw c.in-Notice.is c.push_notice.ensures
