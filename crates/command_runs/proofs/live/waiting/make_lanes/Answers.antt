-- The lanes so far are fresh.
use Rattle.command_runs.proofs.live.Words.{All-nil, All-push, IfOk-from_err, IsFresh, ap, length, length-append, refl, ◌+◌, ◌∙◌}
use Rattle.command_runs.proofs.live.waiting.make_lanes.Goals as goal

pub loop-lane-init : goal.loop-lane-init
loop-lane-init c = record { count = ap length c.in_ok-lanes.ensures.items; each = rw c.in_ok-lanes.ensures.items (All-nil IsFresh) }

pub loop-lane-preserved : goal.loop-lane-preserved
loop-lane-preserved c =
    let lanes = c.loop-lane.lanes.items in
    let more = c.in_ok-push.ensures.items in
    record {
      count = ap length more ∙ length-append lanes _ ∙ ap (λ n. n + 1) c.loop-lane.invariant.count;
      each = rw more (All-push IsFresh lanes _ c.loop-lane.invariant.each (record { first = refl; next = refl; deliveries = c.new.ensures.items }));
    }

pub returns-in_err-push : goal.returns-in_err-push
returns-in_err-push c = IfOk-from_err c.from_residual-in_err-push.result _ c.from_residual-in_err-push.ensures.0
