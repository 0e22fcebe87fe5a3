-- What was drained is all of the parts: so each list is what its lane had not polled.
use Rattle.std.proofs.Common.{◌∙◌, subst, List}
use Rattle.hub_core.specs.inner.DrainedLists.{AreMade}
use Rattle.hub_core.specs.Serving.{items_of}
use Rattle.hub_core.specs.Hubs.{IsLaneOf, shape_of}
use Rattle.hub_core.specs.declared.lane_seat.LaneSeat.{LaneSeat}
use Rattle.hub_core.proofs.SeatsAsLanes.{GivesRows, lanes_settled}
use Rattle.hub_core.proofs.ListsHaveUnpolled.{owed}
use Rattle.hub_core.proofs.PartsAreAState.{parts_are}
use Rattle.hub_core.proofs.hub.Hub.settle.Goals as goal
use Rattle.hub_core.proofs.ListsByPlace.{all_at}

pub drain_all-requires : goal.drain_all-requires
drain_all-requires g c = c.requires

pub returns : goal.returns
returns g c =
    let h = c.args.self in
    let ls = c.args.lanes.items in
    let p = c.drain_all.ensures in
    let are = parts_are h _ _ _ p.0 p.1 p.2 c.all_found.ensures c.received_first.ensures c.kept_whole.ensures c.lost_is_none.ensures c.requires p.3 in
    let made = subst (λ (lanes : List LaneSeat). AreMade lanes (shape_of h).lanes c.in-Ok.lists.items) c.as_slice.ensures.value c.in-Ok.ensures in
    let lists = owed ls _ _ p.0 p.1 p.2 _ c.in-Ok.lists.items c.drain_all.new.lists.items c.sort_all.new.lists.items c.claims_settle.ensures p.3 are.0
    c.requires.deliverer.lanes made p.4 c.sort_all.ensures in
    let rows : GivesRows h ls (items_of c.sort_all.new.lists.items) = λ i v e. lists i v e ∙ (all_at (IsLaneOf h) ls i v c.requires.lanes e).rows in
    record {
      settled = lanes_settled h ls _ rows;
      count = c.sort_all.ensures.0 ∙ (p.4.counted ∙ made.counted);
      whole = are.1;
      unsettled = tt;
    }
