-- Each worker's pass is joined, and the delivery in its hand placed.
use Rattle.std.proofs.Common.{rules, ap, arith, refl}
use Rattle.crossbeam_queue.specs.Passes.{view}
use Rattle.hub_core.specs.declared.rule.Trace.{Trace}
use Rattle.hub_core.proofs.RuleIsKept.{merges}
use Rattle.hub_core.specs.Workers.{posted, taken}
use Rattle.hub_core.proofs.EachIsDrained.{hands_drained}
use Rattle.hub_core.proofs.drain.place_hands.Goals as goal
use Rattle.hub_core.proofs.PassesAreJoined.{pops_more, pushes_more}

pub absorb-requires-clause-rule : goal.absorb-requires-clause-rule
absorb-requires-clause-rule c = merges _ _ _ _ _ (let e = ap (λ (v : Trace). v.shares) c.loop-seat.invariant.jobs in omega arith)

pub absorb-requires-in-loop-seat-clause-rule : goal.absorb-requires-in-loop-seat-clause-rule
absorb-requires-in-loop-seat-clause-rule c = merges _ _ _ _ _ (let e = ap (λ (v : Trace). v.shares) c.loop-seat.invariant.results in omega arith)

pub loop-seat-preserved : goal.loop-seat-preserved
loop-seat-preserved c = record {
  can = search rules;
  ends = search rules;
  same_jobs = search rules;
  same_results = search rules;
  jobs = pops_more taken (view c.args.all_jobs.now) (view c.loop-seat.all_jobs) (view c.absorb.new.pass) (view c.in-Some.seat.takes) c.loop-seat.yielded
      c.in-Some.seat c.in-Some.seat.share_of_jobs c.in-Some.seat.takes_only refl c.loop-seat.invariant.jobs c.absorb.ensures.rule;
  results = pushes_more posted (view c.args.all_results.now) (view c.loop-seat.all_results) (view c.absorb-in-loop-seat.new.pass)
      (view c.in-Some.seat.posts) c.loop-seat.yielded c.in-Some.seat c.in-Some.seat.share_of_results c.in-Some.seat.posts_only refl
      c.loop-seat.invariant.results c.absorb-in-loop-seat.ensures.rule;
  drained = hands_drained c.args.lists.now.items c.loop-seat.lists.items c.place_any.new.lists.items c.loop-seat.yielded c.in-Some.seat
      c.loop-seat.invariant.drained c.place_any.ensures;
}
