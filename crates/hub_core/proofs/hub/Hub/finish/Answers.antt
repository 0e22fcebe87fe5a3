-- What was drained is all of the parts: so each lane polled the first of its rows' deliveries.
use Rattle.hub_core.proofs.SeatsAsLanes.{lanes_polled_first}
use Rattle.hub_core.proofs.PartsAreAState.{first_of_rows, parts_are}
use Rattle.hub_core.proofs.hub.Hub.finish.Goals as goal

pub drain_all-requires : goal.drain_all-requires
drain_all-requires g c = c.requires

pub returns : goal.returns
returns g c =
    let p = c.drain_all.ensures in
    let are = parts_are c.args.self _ _ _ p.0 p.1 p.2 c.all_found.ensures c.received_first.ensures c.kept_whole.ensures c.lost_is_none.ensures c.requires p.3 in
    record {
      polled = lanes_polled_first c.args.self c.args.lanes.items (first_of_rows c.args.self _ _ _ p.0 p.1 p.2 c.requires p.3 are.0);
      whole = are.1;
    }
