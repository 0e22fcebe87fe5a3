-- One delivery after another comes out of the ring, until none is left.
use Rattle.hub_core.proofs.EachIsDrained.{rest_more, rest_all}
use Rattle.hub_core.proofs.drain.place_rest.Goals as goal

pub loop-i-preserved : goal.loop-i-preserved
loop-i-preserved c =
    let r = rest_more _ _ _ _ _ _ _ _ _ c.loop-i.invariant.left c.loop-i.invariant.drained c.pop_known.ensures.received.1 c.place.ensures in
    record { left = r.0; drained = r.1 }

pub returns-clause-drains : goal.returns-clause-drains
returns-clause-drains c = (
  c.loop-i.invariant.drained.0,
  c.loop-i.invariant.drained.1,
  rest_all _ _ _ _ _ _ _ _ _ c.loop-i.invariant.left c.loop-i-test.false c.loop-i.invariant.drained.2 c.slots_beside-left.ensures.fifo
      c.slots_beside-left.ensures.looked.1 c.slots_beside-left.ensures.producer.1,
)
