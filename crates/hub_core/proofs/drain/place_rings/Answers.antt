-- Each lane's pass is joined, and the rest of its ring placed.
use Rattle.std.proofs.Common.{rules, List, ◌≡◌, ◌<◌, [], ◌∷◌, ◌++◌, length, length-append, refl, sym, ap, ◌∙◌, arith, subst, append_assoc}
use Rattle.std.proofs.lemmas.List.Elements.{All-head, All-rest, All-same}
use Rattle.std.specs.Vec.Iter.{into_iter_items}
use Rattle.crossbeam_queue.specs.Passes.{view}
use Rattle.hub_core.specs.declared.lane_seat.LaneSeat.{LaneSeat}
use Rattle.hub_core.specs.declared.rule.Trace.{Trace}
use Rattle.hub_core.specs.inner.Fresh.{IsPairedIn}
use Rattle.hub_core.specs.Lanes.{lane_of, submitted}
use Rattle.hub_core.specs.inner.Draining.{AreFromFirst, AreLeftInRings}
use Rattle.hub_core.specs.inner.Rule.{JoinsPushes}
use Rattle.hub_core.proofs.DrainsAddUp.{drained_none}
use Rattle.hub_core.proofs.RingsAreDrained.{from_first, pair_now, ring_drained, sent_now}
use Rattle.hub_core.proofs.RingsAfterStep.{ends_same, ends_set, sent_same}
use Rattle.hub_core.proofs.RuleIsKept.{merges}
use Rattle.hub_core.proofs.drain.place_rings.Goals as goal
use Rattle.hub_core.proofs.ListsByPlace.{front_is_all}
use Rattle.hub_core.proofs.PassesAreJoined.{pushes_more}
use Rattle.hub_core.specs.inner.DrainedLists.{Drains}

pub loop-closed-init : goal.loop-closed-init
loop-closed-init c = record {
  can = search rules;
  ends = search rules;
  same = search rules;
  all = refl;
  left = search rules;
  jobs = search rules;
  rings = ends_same c.args.rings.now.items c.args.rings.now.items refl;
  sent = refl;
  drained = ([], drained_none c.args.lists.now.items, λ h. refl);
  received = search rules;
}

pub absorb-requires-clause-rule : goal.absorb-requires-clause-rule
absorb-requires-clause-rule c = merges _ _ _ _ _ (let e = ap (λ (v : Trace). v.shares) c.loop-closed.invariant.jobs in omega arith)

pub place_rest-requires : goal.place_rest-requires
place_rest-requires c =
    let paired : IsPairedIn c.args.rings.now.items c.closed.inside.seat =
    subst (λ (s : LaneSeat). IsPairedIn c.args.rings.now.items s) (sym c.closed.view_is)
    (All-head (IsPairedIn c.args.rings.now.items) c.in-Some.closed c.next.new.self.rest.items
    (All-same (IsPairedIn c.args.rings.now.items) _ _ (sym c.in-Some.ensures.steps.0) c.loop-closed.invariant.left)) in
    pair_now c.args.rings.now.items c.loop-closed.rings.items c.closed.inside.seat c.index_mut.result.now paired c.loop-closed.invariant.rings
    c.index_mut.ensures.value

pub loop-closed-preserved : goal.loop-closed-preserved
loop-closed-preserved c =
    let inv = c.loop-closed.invariant in
    let rings = c.args.rings.now.items in
    let now = c.loop-closed.rings.items in
    let seat = c.closed.inside.seat in
    let ring = c.index_mut.result.now in
    let low : lane_of seat < length now = search rules in
    let rest = c.place_rest.ensures in
    let whole_ring = rest.drains.2 ∙ sent_now rings now seat ring inv.sent c.index_mut.ensures.value low in
    let is : seat ≡ c.in-Some.closed = c.closed.view_is in
    record {
      can = search rules;
      ends = search rules;
      same = search rules;
      all = append_assoc c.loop-closed.yielded (c.in-Some.closed ∷ []) _ ∙ (ap (λ l. c.loop-closed.yielded ++ l) (sym c.in-Some.ensures.steps.0) ∙ inv.all);
      left = All-rest (IsPairedIn rings) c.in-Some.closed c.next.new.self.rest.items _ c.in-Some.ensures.steps.0 inv.left;
      jobs = subst (λ (s : LaneSeat). JoinsPushes submitted (c.loop-closed.yielded ++ s ∷ []) (view c.args.all_jobs.now) (view c.absorb.new.pass)) is
          (pushes_more submitted (view c.args.all_jobs.now) (view c.loop-closed.all_jobs) (view c.absorb.new.pass) (view seat.pass) c.loop-closed.yielded seat
          seat.share seat.pushes_only refl inv.jobs c.absorb.ensures.rule);
      rings = ends_set rings now (lane_of seat) ring c.place_rest.new.producer inv.rings c.index_mut.ensures.value low rest.same.0;
      sent = sent_same now (lane_of seat) ring c.place_rest.new.producer c.index_mut.ensures.value rest.same.1 ∙ inv.sent;
      drained = subst (λ (s : LaneSeat). Drains c.args.lists.now.items c.place_rest.new.lists.items (AreLeftInRings rings (c.loop-closed.yielded ++ s ∷ []))) is
          (ring_drained c.args.lists.now.items c.loop-closed.lists.items c.place_rest.new.lists.items rings c.loop-closed.yielded seat rest.drains.0
          inv.drained rest.drains.1 whole_ring);
      received = subst (λ (s : LaneSeat). AreFromFirst rings (c.loop-closed.yielded ++ s ∷ [])) is
          (from_first rings c.loop-closed.yielded seat rest.drains.0 inv.received whole_ring);
    }

pub returns-clause-received : goal.returns-clause-received
returns-clause-received c =
    let start : into_iter_items c.into_iter-closed-iterator.result ≡ c.args.lanes.items = search rules in
    let rest = into_iter_items c.loop-closed.closed-iterator in
    let none : length rest ≡ 0 = search rules in
    let whole = c.loop-closed.invariant.all ∙ start in
    let all = front_is_all c.loop-closed.yielded rest c.args.lanes.items whole
    (omega (arith, none, ap length whole, length-append c.loop-closed.yielded rest)) in
    subst (λ (ss : List LaneSeat). AreFromFirst c.args.rings.now.items ss) all c.loop-closed.invariant.received
