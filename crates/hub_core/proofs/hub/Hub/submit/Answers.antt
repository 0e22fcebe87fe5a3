-- The lane's pass has pushed one job more, under its next ticket; a full queue or a spent lane changes nothing.
use Rattle.std.proofs.Common.{rules, ◌∷◌, ◌++◌, [], ◌∙◌, ap, arith, length, length-append, map, refl, sym}
use Rattle.std.proofs.lemmas.List.{length-map, map-append}
use Rattle.crossbeam_queue.specs.Passes.{view}
use Rattle.lane_core.specs.Issuing.{ticket_of}
use Rattle.lane_core.specs.Plain.{plain_of}
use Rattle.lane_core.specs.declared.job.Plain.{Plain}
use Rattle.hub_core.specs.declared.rule.Trace.{Trace}
use Rattle.hub_core.specs.Lanes.{as_lane, polled}
use Rattle.hub_core.proofs.RuleIsKept.{puts}
use Rattle.hub_core.proofs.LanesGrow.{lane_more, rows_and_one}
use Rattle.hub_core.proofs.SeatsAsLanes.{a_lane}
use Rattle.hub_core.proofs.hub.Hub.submit.Goals as goal

pub push_as-requires-clause-rule : goal.push_as-requires-clause-rule
push_as-requires-clause-rule g c = (puts _ _ _ _ _ (let p = c.args.seat.now.share in omega arith), λ items views b at. tt)

pub invariant_of-seat : goal.invariant_of-seat
invariant_of-seat g c =
    let s = c.args.seat.now in
    let r = lane_more _ _ _ _ _ c.in-Ok.ensures.rule s.share s.pushes_only s.counted s.in_order refl refl in
    record {
      share = r.0;
      pushes_only = r.1;
      counted = r.2;
      in_order = r.3;
      polls_counted = s.polls_counted;
      polled_in_order =
          s.polled_in_order;
      polled_issued = (let p = s.polled_issued in omega arith);
    }

pub returns-in-Ok : goal.returns-in-Ok
unfolding as_lane
returns-in-Ok g c =
    let s = c.args.seat.now in
    let r = c.requires in
    let q = c.push_as.ensures.queue in
    let put = ap (λ (t : Trace). t.pushed) c.in-Ok.ensures.rule in
    record {
      seen = ap (λ rows. a_lane s.lane rows (polled s)) (ap (map (λ (x : Plain). x.widths)) put
          ∙ map-append (λ (x : Plain). x.widths) (view s.pass).pushed (plain_of s.lane s.issued c.args.self.now.year c.args.row ∷ []));
      ticket = ap (ticket_of s.lane) (s.counted ∙ sym (length-map (view s.pass).pushed (λ (x : Plain). x.widths)));
      submits = (
        omega (arith, c.if-seat-self.false, s.counted),
        ap (ticket_of s.lane) s.counted,
        put ∙ ap (λ n. (view s.pass).pushed ++ plain_of s.lane n c.args.self.now.year c.args.row ∷ []) s.counted,
      );
      of_hub = record {
        pass = (q.0 ∙ r.pass.0, q.2 ∙ r.pass.1);
        ring = r.ring;
        lane = r.lane;
        limit = (let n = ap length put in let m = length-append (view s.pass).pushed (plain_of s.lane s.issued c.args.self.now.year c.args.row ∷ []) in let k =
            s.counted in let j = c.if-seat-self.false in omega arith);
        rows = rows_and_one s.lane c.args.self.now.year s.issued (view s.pass).pushed _ c.args.row r.rows s.counted put;
      };
      lane = search rules;
      received = search rules;
    }

pub returns-in-Err : goal.returns-in-Err
unfolding as_lane
returns-in-Err g c = record {
  seen = search rules;
  ticket = search rules;
  submits = search rules;
  of_hub = search rules;
  lane = search rules;
  received = search rules;
}

pub returns-then-seat-self : goal.returns-then-seat-self
returns-then-seat-self g c = record {
  seen = search rules;
  ticket = search rules;
  submits = (omega (arith, c.if-seat-self.true, c.args.seat.now.counted, c.requires.limit), refl, refl);
  of_hub = c.requires;
  lane = search rules;
  received = search rules;
}
