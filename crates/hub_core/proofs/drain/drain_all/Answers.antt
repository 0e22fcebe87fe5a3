-- What was found in each place adds up to all that the lanes had not polled.
use Rattle.std.proofs.Common.{rules, ◌++◌, option_to_list, ap, arith}
use Rattle.std.specs.List.{flat_map}
use Rattle.std.proofs.lemmas.List.{length-map}
use Rattle.crossbeam_queue.specs.Passes.{view}
use Rattle.hub_core.specs.Hubs.{shape_of}
use Rattle.hub_core.specs.Lanes.{lane_of, numbers_of}
use Rattle.hub_core.specs.inner.Workers.{deliveries_in_hand}
use Rattle.hub_core.specs.declared.lane_seat.LaneSeat.{LaneSeat}
use Rattle.hub_core.specs.declared.rule.Trace.{Trace}
use Rattle.hub_core.proofs.DrainsAddUp.{drained_then}
use Rattle.hub_core.proofs.EachNumberOnce.{each_counted}
use Rattle.hub_core.proofs.RingsAreDrained.{all_paired, all_rings}
use Rattle.hub_core.proofs.drain.drain_all.Goals as goal
use Rattle.hub_core.proofs.SumFacts.{sum_joined}
use Rattle.hub_core.proofs.PassesAreJoined.{jobs_whole, results_whole}

pub place_rings-requires-clause-rings : goal.place_rings-requires-clause-rings
place_rings-requires-clause-rings g c =
    all_paired c.args.hub.now c.args.deliverer.rings.items c.args.lanes.items c.requires.deliverer.rings
    (all_rings c.args.hub.now c.args.deliverer c.requires.deliverer) c.requires.lanes

pub place_queue-requires : goal.place_queue-requires
place_queue-requires g c =
    let a = ap (λ (v : Trace). v.shares) c.place_hands.ensures.results.1 in
    (c.place_hands.ensures.results.0, (let f = c.requires.deliverer.shares_of_results in let k = c.requires.each_worker in omega arith))

pub place_queue-requires-2 : goal.place_queue-requires-2
place_queue-requires-2 g c =
    let a = ap (λ (v : Trace). v.shares) c.place_rings.ensures.jobs.1 in
    let b = ap (λ (v : Trace). v.shares) c.place_hands.ensures.jobs.1 in
    let d = each_counted (shape_of c.args.hub.now).lanes (numbers_of c.args.lanes.items) c.requires.each_lane in
    let e = length-map c.args.lanes.items (λ (s : LaneSeat). lane_of s) in
    (search rules, (let f = c.requires.deliverer.shares_of_jobs in let k = c.requires.each_worker in omega arith))

pub returns : goal.returns
returns g c =
    let rings = c.place_rings.ensures.drains in
    let jobs = c.place_queue-2.ensures.drains in
    let results = c.place_queue.ensures.drains in
    let waiting = c.place_waiting.ensures.drains in
    let hands = flat_map deliveries_in_hand c.args.workers.items in
    let held = option_to_list c.args.deliverer.held in
    let found = ((((rings.0 ++ waiting.0) ++ held) ++ hands) ++ results.0) ++ jobs.0 in
    let idle = c.args.deliverer.idle_at_jobs in (
      jobs.0,
      results.0,
      found,
      record {
        jobs = jobs_whole (view c.args.deliverer.jobs) (view c.place_rings.new.all_jobs) (view c.place_hands.new.all_jobs) _ _ c.args.lanes.items
            c.args.workers.items jobs.0 idle.0 idle.1 c.place_rings.ensures.jobs.1 c.place_hands.ensures.jobs.1 jobs.2;
        results = results_whole (view c.args.deliverer.collects) (view c.place_hands.new.all_results) _ c.args.workers.items results.0
            c.args.deliverer.collects_only c.place_hands.ensures.results.1 results.2;
        first = c.place_rings.ensures.received;
        whole = λ h. let e = sum_joined h rings.0 waiting.0 held hands results.0 jobs.0 in let r = rings.2 h in let w = waiting.2 h in omega arith;
      },
      drained_then _ _ _ _ _ (drained_then _ _ _ _ _ (drained_then _ _ _ _ _
          (drained_then _ _ _ _ _ (drained_then _ _ _ _ _ rings.1 waiting.1) c.place_any.ensures) c.place_hands.ensures.drains) results.1) jobs.1,
    )
