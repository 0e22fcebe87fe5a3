-- The first result goes to the deliverer, to which it is no stranger.
use Rattle.std.proofs.Common.{◌≡◌, map, true, false, sym, ◌∙◌}
use Rattle.lane_core.specs.declared.event.Event.TheVariants.{Collect}
use Rattle.lane_core.specs.Contents.{Steps, contents}
use Rattle.lane_core.specs.Holding.{held, lane_held}
use Rattle.lane_core.proofs.WorldShowsNext.{collect_done, result_is_new, shown_after}
use Rattle.lane_core.proofs.world.World.collect.Goals as goal

-- the deliverer has the first result, and the queue has the others
collects : (c : goal.In-Ok) → Steps (held c.self.inside) Collect true (contents c.self.inside.year (map lane_held c.self.inside.lanes.items)
    c.self.inside.jobs.items c.self.inside.workers.items c.pop_front.new.self.items c.take_in.new.self)
collects c = collect_done (held c.self.inside) c.in-Some.delivery c.pop_front.new.self.items c.take_in.new.self c.in-Some.ensures.items c.in-Ok.ensures.taken

pub invariant_of-self-in-Ok : goal.invariant_of-self-in-Ok
invariant_of-self-in-Ok c = shown_after (held c.self.inside) _ Collect _ c.self.invariant (collects c)

pub returns-in-Ok-clause-steps : goal.returns-in-Ok-clause-steps
returns-in-Ok-clause-steps c = rw (← c.self.view_is) (collects c)

-- no result is a stranger
pub unreachable-requires : goal.unreachable-requires
unreachable-requires c =
    let new = result_is_new (held c.self.inside) c.in-Some.delivery c.pop_front.new.self.items c.in-Some.ensures.items c.self.invariant in
    let refused = rw c.in-Err-Stranger.field-0-is at c.in-Err-Stranger.ensures.refused in
    let both : true ≡ false = sym new ∙ refused.0 in
    absurd (cc)
