-- One delivery after another is taken of those that wait.
use Rattle.std.proofs.Common.{[], arith}
use Rattle.hub_core.proofs.DrainsAddUp.{drained_none}
use Rattle.hub_core.proofs.EachIsDrained.{taken_more}
use Rattle.hub_core.proofs.drain.place_waiting.Goals as goal

pub loop-delivery-init : goal.loop-delivery-init
loop-delivery-init c = ([], drained_none c.args.lists.now.items, λ h. omega arith)

pub loop-delivery-preserved : goal.loop-delivery-preserved
loop-delivery-preserved c =
    let inv = c.loop-delivery.invariant in
    let left = c.in-Some.ensures.some.leaves.waiting in
    taken_more c.args.deliverer.now.waiting c.loop-delivery.deliverer.waiting c.take_any.new.self.waiting c.in-Some.delivery c.args.lists.now.items
    c.loop-delivery.lists.items c.place.new.lists.items inv (λ h. let k = left h in omega arith) c.place.ensures
