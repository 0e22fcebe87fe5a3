-- The lane of this place takes the number, and no other lane changes.
use Rattle.command_runs.proofs.live.Words.{ap, arith, set}
use Rattle.command_runs.proofs.live.ListsGrow.{placed_at}
use Rattle.command_runs.proofs.live.waiting.next_number.Goals as goal

pub returns : goal.returns
returns c =
    let lanes = c.args.lanes.now in
    let w = c.index_mut.result.now in
    let v = c.take_number.new.waiting in
    let got = placed_at lanes.items _ c.args.lane w (omega (arith, c.requires, lanes.ok.0)) c.index_mut.ensures.value c.from.ensures in
    (w, v, got, ap (λ k. set lanes.items k v) c.from.ensures, c.take_number.ensures)
