-- The seats are cut off the passes that have all shares, and nothing has happened.
use Rattle.std.proofs.Common.{◌∙◌, ap, arith, get_or, length, map, refl, sym}
use Rattle.std.proofs.lemmas.List.{length-replicate}
use Rattle.lane_core.specs.ReorderBuffer.{ReorderBuffer}
use Rattle.hub_core.specs.Lane.{new_lane}
use Rattle.hub_core.proofs.SeatsAsLanes.{fresh_lanes}
use Rattle.hub_core.proofs.HubIsNew.{fresh_accounted, given_none, has_each, left_of_jobs, left_after_cut, no_rows, ring_of, few_seats}
use Rattle.hub_core.proofs.RingsAfterStep.{ends_same}
use Rattle.hub_core.proofs.BadCountsAlone.{never, no_hub_made, ok_is_no_err}
use Rattle.hub_core.proofs.hub.Hub.new.Goals as goal

-- `few`: there are 16 lanes and 16 workers at most. `j` and `r`: what is left of the shares of the queue of jobs and of that of
-- results. All three stand again in `returns-clause-new`.
pub invariant_of-deliverer : goal.invariant_of-deliverer
invariant_of-deliverer g c =
    let few = few_seats c.args.shape (sym c.is_allowed.ensures ∙ c.if-not-is_allowed.false) in
    let j = left_of_jobs _ _ _ c.args.shape.lanes c.args.shape.workers few.0 few.1 c.in_ok-jobs.ensures.3 c.in_ok-lanes.ensures.left.1
    c.in_ok-workers.ensures.jobs.1 in
    let r = left_after_cut _ _ c.args.shape.workers few.1 c.in_ok-results.ensures.3 c.in_ok-workers.ensures.results.1 in
    record {
      idle_at_jobs = (j.0, j.1);
      shares = (j.2, r.2);
      collects_only = r.0;
      accounted = fresh_accounted c.from.result c.from-capacity.result c.in_ok-lanes.rings.items c.in_ok-deliverer.deliverer _ c.in_ok-deliverer.ensures
          (c.in_ok-lanes.ensures.made.rings.0 ∙ sym c.from.ensures) c.in_ok-lanes.ensures.made.rings.1 r.1;
    }

-- `few`, `j` and `r` are as in `invariant_of-deliverer`
pub returns-clause-new : goal.returns-clause-new
returns-clause-new g c =
    let few = few_seats c.args.shape (sym c.is_allowed.ensures ∙ c.if-not-is_allowed.false) in
    let j = left_of_jobs _ _ _ c.args.shape.lanes c.args.shape.workers few.0 few.1 c.in_ok-jobs.ensures.3 c.in_ok-lanes.ensures.left.1
    c.in_ok-workers.ensures.jobs.1 in
    let r = left_after_cut _ _ c.args.shape.workers few.1 c.in_ok-results.ensures.3 c.in_ok-workers.ensures.results.1 in
    let rings = c.in_ok-lanes.ensures.made.rings in
    let made = ap (λ v. v.items) c.of.ensures in
    record {
      shape = refl;
      year = refl;
      seen = fresh_lanes c.in_ok-lanes.lanes.items (λ k d less. (c.in_ok-lanes.ensures.made.seats k d less).1)
          ∙ ap (map new_lane) c.in_ok-lanes.ensures.made.numbers;
      lanes = c.in_ok-lanes.ensures.made.numbers;
      seats = record {
        lanes = λ k d less.
            let p = c.in_ok-lanes.ensures.made.seats k d less in
            let q = c.in_ok-lanes.ensures.made.paired k d less in
            record {
              pass = p.0;
              ring = ring_of _ c.in_ok-lanes.rings.items (get_or c.in_ok-lanes.lanes.items k d) made q;
              lane = omega (arith, q.0, rings.0);
              limit = (let n = ap length p.1.0 in omega arith);
              rows = no_rows _ c.args.year _ p.1.0;
            };
        workers = λ k d less. let p = c.in_ok-workers.ensures.made.seats k d less in record { takes = p.0; posts = p.1 };
        deliverer = record {
          jobs = c.in_ok-workers.ensures.jobs.0;
          results = c.in_ok-workers.ensures.results.0;
          rings = ends_same _ c.in_ok-lanes.rings.items made;
          lanes = ap (λ (e : ReorderBuffer). length e.nexts) c.in_ok-deliverer.ensures ∙ (length-replicate c.from.result 0 ∙ c.from.ensures);
          shares_of_jobs = j.3;
          shares_of_results = r.3;
        };
        each_lane = has_each c.args.shape.lanes _ c.in_ok-lanes.ensures.made.numbers;
        each_worker = c.in_ok-workers.ensures.made.number;
      };
      unused = record {
        lanes = λ k d less. (c.in_ok-lanes.ensures.made.seats k d less).1;
        workers = λ k d less. (c.in_ok-workers.ensures.made.seats k d less).2;
        none_collected = r.1;
        empty_hand = refl;
        none_handed = λ l. given_none c.from-capacity.result c.in_ok-lanes.rings.items l c.in_ok-lanes.ensures.made.rings.1;
      };
      capacity = record {
        jobs = c.in_ok-jobs.ensures.0 ∙ c.from-capacity.ensures;
        results = c.in_ok-results.ensures.0 ∙ c.from-capacity.ensures;
        rings = λ k d less. (c.in_ok-lanes.ensures.made.rings.1 k d less).1 ∙ c.from-capacity.ensures;
      };
    }

pub returns-clause-refused : goal.returns-clause-refused
returns-clause-refused g c = never (sym c.is_allowed.ensures ∙ c.if-not-is_allowed.false) (ok_is_no_err _ _)

-- ---- at each `?` memory is refused, of a shape that is allowed: alike, but each goal has steps of its own

pub returns-in_err-jobs : goal.returns-in_err-jobs
returns-in_err-jobs g c =
    let e = c.from_residual in
    let no = no_hub_made e.result _ (sym c.is_allowed.ensures ∙ c.if-not-is_allowed.false) e.ensures.0 e.ensures.1 in record { refused = no.0; new = no.1 }

pub returns-in_err-results : goal.returns-in_err-results
returns-in_err-results g c =
    let e = c.from_residual-in_err-results in
    let no = no_hub_made e.result _ (sym c.is_allowed.ensures ∙ c.if-not-is_allowed.false) e.ensures.0 e.ensures.1 in record { refused = no.0; new = no.1 }

pub returns-in_err-lanes : goal.returns-in_err-lanes
returns-in_err-lanes g c =
    let e = c.from_residual-in_err-lanes in
    let no = no_hub_made e.result _ (sym c.is_allowed.ensures ∙ c.if-not-is_allowed.false) e.ensures.0 e.ensures.1 in record { refused = no.0; new = no.1 }

pub returns-in_err-workers : goal.returns-in_err-workers
returns-in_err-workers g c =
    let e = c.from_residual-in_err-workers in
    let no = no_hub_made e.result _ (sym c.is_allowed.ensures ∙ c.if-not-is_allowed.false) e.ensures.0 e.ensures.1 in record { refused = no.0; new = no.1 }

pub returns-in_err-deliverer : goal.returns-in_err-deliverer
returns-in_err-deliverer g c =
    let e = c.from_residual-in_err-deliverer in
    let no = no_hub_made e.result _ (sym c.is_allowed.ensures ∙ c.if-not-is_allowed.false) e.ensures.0 e.ensures.1 in record { refused = no.0; new = no.1 }
