-- The lane's next number goes from the deliverer to the lane's ring, and what the seat has stays accounted for (`Accounted`).
use Rattle.std.proofs.Common.{List, [], Some, ap, arith, get_or, length, option_to_list, refl, rules, set, subst, sym, ◌++◌, ◌<◌, ◌∙◌, ◌∷◌, ◌≡◌}
use Rattle.std.proofs.lemmas.List.{length-set}
use Rattle.std.specs.List.{slice_get}
use Rattle.rtrb.specs.Ring.{known_free, sent}
use Rattle.lane_core.specs.declared.job.Plain.{Plain}
use Rattle.hub_core.specs.Passes.{popped_by}
use Rattle.hub_core.specs.Rings.{PushEnd, all_sent}
use Rattle.hub_core.specs.inner.Accounting.{Accounted}
use Rattle.hub_core.proofs.RingsAfterStep.{ends_set, rings_counted, same_ring, sent_more, sent_same}
use Rattle.hub_core.proofs.DeliveriesAreAccounted.{given_else, given_now, handed_one}
use Rattle.hub_core.proofs.deliverer_seat.DelivererSeat.hand.Goals as goal
use Rattle.hub_core.proofs.ListsByPlace.{got_set}
use Rattle.hub_core.proofs.TestsAndCounts.{some_if_not_none}

pub invariant_of-self-then-is_full : goal.invariant_of-self-then-is_full
invariant_of-self-then-is_full c =
    let s = c.args.self.now in
    let same = sent_same s.rings.items c.from.result c.index_mut-ring.result.now c.is_full.new.self c.index_mut-ring.ensures.value
    c.is_full.ensures.looked.1 in
    record {
      idle_at_jobs = s.idle_at_jobs;
      shares = s.shares;
      collects_only = s.collects_only;
      accounted = subst (λ (gs : List (List Plain)). Accounted s.deliverer (popped_by s.collects) (option_to_list s.held) gs) (sym same) s.accounted;
    }

-- `same` is as in `invariant_of-self-then-is_full`, and `less` as in `returns`
pub returns-then-is_full : goal.returns-then-is_full
returns-then-is_full c =
    let s = c.args.self.now in
    let less : c.from.result < length s.rings.items = omega (arith, c.from.ensures, c.requires, rings_counted s) in
    let same = sent_same s.rings.items c.from.result c.index_mut-ring.result.now c.is_full.new.self c.index_mut-ring.ensures.value
    c.is_full.ensures.looked.1 in
    record {
      hands = (
        c.next.ensures.exactly.0 (some_if_not_none c.next.result (search rules)),
        refl,
        refl,
        refl,
        (λ l. ap (λ gs. get_or gs l []) same),
        λ (r : PushEnd) at. subst (λ (u : PushEnd). known_free u ≡ 0)
            (got_set s.rings.items c.from.result c.is_full.new.self r
            (subst (λ k. slice_get (set s.rings.items c.from.result c.is_full.new.self) k ≡ Some r) (sym c.from.ensures) at))
            (c.is_full.ensures.value.0 (search rules)),
      );
      lanes = refl;
      of_hub = λ h is. record {
        jobs = is.jobs;
        results = is.results;
        rings = ends_set h.rings.value.items s.rings.items c.from.result c.index_mut-ring.result.now c.is_full.new.self is.rings c.index_mut-ring.ensures.value less
            c.is_full.ensures.looked.0;
        lanes = is.lanes;
        shares_of_jobs = is.shares_of_jobs;
        shares_of_results = is.shares_of_results;
      };
    }

pub invariant_of-self-in-Some : goal.invariant_of-self-in-Some
invariant_of-self-in-Some c =
    let s = c.args.self.now in
    let less : c.from.result < length s.rings.items = omega (arith, c.from.ensures, c.requires, rings_counted s) in
    let is : sent c.push_reserved.new.self ≡ sent c.index_mut-ring.result.now ++ c.in-Some.delivery ∷ [] =
    c.push_reserved.ensures.sent.0 ∙ ap (λ l. l ++ c.in-Some.delivery ∷ []) c.is_full.ensures.looked.1 in
    let put = sent_more s.rings.items c.from.result c.args.lane c.index_mut-ring.result.now c.push_reserved.new.self c.in-Some.delivery c.from.ensures
    c.index_mut-ring.ensures.value less is in
    record {
      idle_at_jobs = s.idle_at_jobs;
      shares = s.shares;
      collects_only = s.collects_only;
      accounted = handed_one s.deliverer c.take_next.new.self c.args.lane c.in-Some.delivery (popped_by s.collects) (option_to_list s.held)
          (all_sent s.rings.items) _ c.requires c.in-Some.ensures.some put s.accounted;
    }

-- `less`, `is` and `put` are as in `invariant_of-self-in-Some`: the lane was sent one more
pub returns : goal.returns
returns c =
    let s = c.args.self.now in
    let less : c.from.result < length s.rings.items = omega (arith, c.from.ensures, c.requires, rings_counted s) in
    let is : sent c.push_reserved.new.self ≡ sent c.index_mut-ring.result.now ++ c.in-Some.delivery ∷ [] =
    c.push_reserved.ensures.sent.0 ∙ ap (λ l. l ++ c.in-Some.delivery ∷ []) c.is_full.ensures.looked.1 in
    let put = sent_more s.rings.items c.from.result c.args.lane c.index_mut-ring.result.now c.push_reserved.new.self c.in-Some.delivery c.from.ensures
    c.index_mut-ring.ensures.value less is in
    let low : c.args.lane < length (all_sent s.rings.items) = omega (arith, c.requires, s.accounted.giving.lanes) in
    let g = c.in-Some.ensures.some in
    record {
      hands = (
        c.in-Some.delivery,
        g,
        g.number ∙ sym (s.accounted.giving.counted c.args.lane),
        given_now (all_sent s.rings.items) _ c.args.lane c.in-Some.delivery low put,
        (λ m apart. given_else (all_sent s.rings.items) _ c.args.lane m c.in-Some.delivery apart put),
        refl,
        refl,
      );
      lanes = c.take_next.ensures.lanes;
      of_hub = λ h is. record {
        jobs = is.jobs;
        results = is.results;
        rings = ends_set h.rings.value.items s.rings.items c.from.result c.index_mut-ring.result.now c.push_reserved.new.self is.rings c.index_mut-ring.ensures.value less
            (same_ring c.index_mut-ring.result.now c.is_full.new.self c.push_reserved.new.self c.is_full.ensures.looked.0 c.push_reserved.ensures.ring);
        lanes = ap length g.nexts ∙ (length-set s.deliverer.nexts c.args.lane _ ∙ is.lanes);
        shares_of_jobs = is.shares_of_jobs;
        shares_of_results = is.shares_of_results;
      };
    }
