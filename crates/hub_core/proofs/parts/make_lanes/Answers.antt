-- One lane more, with one share of the queue of jobs and a ring of its own.
use Rattle.std.proofs.Common.{rules, ◌≡◌, ◌-◌, List, subst, ap, arith, sym, ◌∙◌}
use Rattle.std.specs.List.{All, range_with_len}
use Rattle.std.proofs.lemmas.List.Elements.{All-push}
use Rattle.std.proofs.lemmas.Result.{IfOk-from_err}
use Rattle.crossbeam_queue.specs.Passes.{view, IsPassOf}
use Rattle.rtrb.specs.Ring.{IsPair}
use Rattle.hub_core.specs.declared.rule.Trace.{Trace}
use Rattle.hub_core.specs.declared.lane_seat.LaneSeat.{LaneSeat}
use Rattle.hub_core.specs.Fresh.{HasDoneNothing}
use Rattle.hub_core.specs.inner.Fresh.{IsPairedIn, IsUnsent}
use Rattle.hub_core.specs.Passes.{shares_of}
use Rattle.hub_core.specs.Rule.{trace}
use Rattle.hub_core.specs.Rings.{PopEnd, PushEnd}
use Rattle.hub_core.proofs.RuleIsKept.{forks}
use Rattle.hub_core.proofs.SeatsAreNew.{cut_more, seat_numbers_more, paired_more}
use Rattle.hub_core.proofs.ListsByPlace.{count_more}
use Rattle.hub_core.proofs.parts.make_lanes.Goals as goal

pub another-pass-requires-clause-rule : goal.another-pass-requires-clause-rule
another-pass-requires-clause-rule c = forks _ _ _ (let e = ap (λ (v : Trace). v.shares) c.loop-lane.invariant.left in omega arith)

pub another-pass-requires-clause-queue : goal.another-pass-requires-clause-queue
another-pass-requires-clause-queue c = c.loop-lane.invariant.of_jobs

pub loop-lane-preserved : goal.loop-lane-preserved
loop-lane-preserved c =
    let seat = c.lane_seat-seat.result in
    let made = c.lane_seat-seat.ensures in
    let inv = c.loop-lane.invariant in
    let new = c.in_ok-producer.ensures in
    let pair : IsPair c.in_ok-producer.producer seat.ring = subst (λ (r : PopEnd). IsPair c.in_ok-producer.producer r) (sym made.2) new.pair in
    let p = paired_more c.loop-lane.rings.items c.loop-lane.seats.items c.in_ok-producer.producer seat inv.paired (made.0 ∙ sym inv.count) pair in
    let q = c.another-pass.ensures in
    record {
      of_jobs = search rules;
      left = q.rule.0 ∙ cut_more (view c.args.all_jobs.now) (view c.loop-lane.all_jobs) c.loop-lane.lane inv.left;
      lanes = seat_numbers_more c.loop-lane.seats.items c.push_reserved.new.self.items seat c.loop-lane.lane inv.lanes c.push_reserved.ensures.items made.0;
      seats = subst (λ (l : List LaneSeat). All (λ (s : LaneSeat). IsPassOf c.args.jobs.now s.pass × HasDoneNothing s) l) (sym c.push_reserved.ensures.items)
          (All-push (λ (s : LaneSeat). IsPassOf c.args.jobs.now s.pass × HasDoneNothing s) c.loop-lane.seats.items seat inv.seats (search rules));
      count = count_more c.loop-lane.rings.items c.push_reserved-in-loop-lane.new.self.items c.in_ok-producer.producer c.loop-lane.lane
          c.push_reserved-in-loop-lane.ensures.items inv.count;
      drained = search rules;
      unsent = subst (λ (l : List PushEnd). All (IsUnsent c.args.capacity) l) (sym c.push_reserved-in-loop-lane.ensures.items)
          (All-push (IsUnsent c.args.capacity) c.loop-lane.rings.items c.in_ok-producer.producer inv.unsent (new.producer.0, new.producer.2));
      paired = subst (λ (x : List PushEnd × List LaneSeat). All (IsPairedIn x.0) x.1)
          (λ i. (sym c.push_reserved-in-loop-lane.ensures.items i, sym c.push_reserved.ensures.items i)) p;
    }

pub returns : goal.returns
returns c =
    let inv = c.loop-lane.invariant in
    let was = view c.args.all_jobs.now in
    let all : c.loop-lane.lane ≡ c.args.count = omega (arith, c.loop-lane-test.false, c.loop-lane.auto.lane-end) in
    record {
      left = (inv.of_jobs, inv.left ∙ ap (λ k. trace (shares_of c.args.all_jobs.now - k) was.pushed was.popped) all);
      made = record {
        numbers = inv.lanes ∙ ap (range_with_len 0) all;
        seats = inv.seats;
        rings = (inv.count ∙ all, inv.unsent);
        paired = inv.paired;
      };
    }

-- ---- where memory is refused, nothing is claimed

pub returns-in_err-seats : goal.returns-in_err-seats
returns-in_err-seats c = let e = c.from_residual in record { left = IfOk-from_err e.result _ e.ensures.0; made = IfOk-from_err e.result _ e.ensures.0 }

pub returns-in_err-rings : goal.returns-in_err-rings
returns-in_err-rings c = let e = c.from_residual-in_err-rings in record { left = IfOk-from_err e.result _ e.ensures.0; made = IfOk-from_err e.result _ e.ensures.0 }

pub returns-in_err-producer : goal.returns-in_err-producer
returns-in_err-producer c = let e = c.from_residual-in_err-producer in record { left = IfOk-from_err e.result _ e.ensures.0; made = IfOk-from_err e.result _ e.ensures.0 }
