-- The pass with all shares pops until it learns that the queue is empty.
use Rattle.std.proofs.Common.{rules, [], refl, arith}
use Rattle.crossbeam_queue.specs.Passes.{view}
use Rattle.hub_core.proofs.RuleIsKept.{takes, learns}
use Rattle.hub_core.proofs.EachIsDrained.{popped_more, popped_all}
use Rattle.hub_core.proofs.DrainsAddUp.{drained_none}
use Rattle.hub_core.proofs.drain.place_queue.Goals as goal
use Rattle.hub_core.proofs.drain.place_queue.Goals.{in-None, in-Some+in_default}

pub loop-init : goal.loop-init
loop-init g c = record {
  can = search rules;
  ends = search rules;
  same = search rules;
  whole = c.requires.1;
  put = refl;
  drained =
      ([], drained_none c.args.lists.now.items, λ h. omega arith);
}

pub pop_as-requires-clause-rule : goal.pop_as-requires-clause-rule
pop_as-requires-clause-rule g c = (takes g.T.Queued.plain _ _ (let p = c.loop.invariant.whole in omega arith), learns g.T.Queued.plain _ _)

pub loop-preserved : goal.loop-preserved
loop-preserved g c =
    let r = popped_more (view c.args.all.now) (view c.loop.all) (view c.pop_as.new.pass) (g.T.Queued.plain c.in-Some-pop_as.item) c.into_delivery.result
    c.args.lists.now.items c.loop.lists.items c.place.new.lists.items c.loop.invariant.whole c.loop.invariant.put c.loop.invariant.drained
    c.in-Some-pop_as.ensures.rule c.into_delivery.ensures c.place.ensures in
    record { can = search rules; ends = search rules; same = search rules; whole = r.0; put = r.1; drained = r.2 }

pub returns : goal.returns
returns g c = record {
  drains = elim c.match-next.branch [
    | in-None w ↦ absurd (search rules)
    | in-Some+in_default w ↦ (
      c.loop.invariant.drained.0,
      c.loop.invariant.drained.1,
      let a = w.in_default.ensures.rule in popped_all g.T.Queued.plain (view c.args.all.now) (view c.loop.all) a.1.0 c.loop.invariant.drained.0
          c.loop.invariant.put c.loop.invariant.drained.2 a.1.1 (a.1.2 c.loop.invariant.whole),
    )
  ];
}
