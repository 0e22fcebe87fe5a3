-- However the hub ends, the live input has lived so far and ends so.
use Rattle.command_runs.specs.declared.live.fault.LiveFault.TheVariants as fault
use Rattle.hub_core.specs.declared.fault.ServeFault.TheVariants as serve
use Rattle.command_runs.proofs.live.Words.{HasCome, Past, ap, on_ok_weaker, subst, turn_of, ◌∙◌}
use Rattle.command_runs.proofs.live.BeginningAndEnd.{all_answered, are_of_rows, finished_parts, lived_nothing, kept_if_never}
use Rattle.command_runs.proofs.live.answering.answer_live.Goals as goal

pub returns-in-Ok-serve_traffic-clause-lived : goal.returns-in-Ok-serve_traffic-clause-lived
returns-in-Ok-serve_traffic-clause-lived g c =
    let t = c.args.terms in
    let s = c.in-Ok-serve_traffic.live in
    let all = c.in-Ok-serve_traffic.ensures.served (kept_if_never (λ never. elim never [ ]) c.in-Ok-serve_traffic.ended) in
    let came = all.2 in
    let p : Past = record { terms = t; events = came.events; given = all.0; brought = all.1 } in
    let begun = c.in-Ok.ensures.ok in
    let at : HasCome p (turn_of s) = rw begun.1 at came.come in
    let are = are_of_rows p c.served_by_place.ensures all.3 in
    let stands = at.stands are in
    let ends = c.ending.ensures in
    let read = ends.told fault.ReadFault (λ e. cc e) in
    let write = ends.told fault.WriteFault (λ e. cc e) in
    record {
      events = came.events;
      were_done = subst (λ w. g.W.Wire.Did w s.wire came.events) begun.0 came.were_done;
      prompt = stands.prompt;
      front = stands.front;
      ok = on_ok_weaker c.ending.result (λ e.
          let last = finished_parts s.lines.has_ended _ s.replies.items s.stopped (all.4 e.1).0 in
          let k = at.keeps (λ is. (let none = last.3 in cc (none, is))) in
          ((all_answered p _ _ s.lines k are last.2 last.1 last.0, stands.ended last.0), came.ended last.0)) ends.done;
      cut = λ is. stands.answered (read.0 is);
      read = λ first. let told = came.read (ap g.W.Wire.read_failed begun.0 ∙ first) in (λ is. told.0 (read.0 is), λ is. read.1 (told.1 is));
      write = λ first. let told = came.write (ap g.W.Wire.write_failed begun.0 ∙ first) in (λ is. told.0 (write.0 is), λ is. write.1 (told.1 is));
    }

-- it had its threads
pub returns-in-Ok-serve_traffic-clause-untouched : goal.returns-in-Ok-serve_traffic-clause-untouched
returns-in-Ok-serve_traffic-clause-untouched g c = λ is.
    let came = (c.in-Ok-serve_traffic.ensures.served (kept_if_never (λ never. elim never [ ]) c.in-Ok-serve_traffic.ended)).2 in
    absurd (came.begun ((c.ending.ensures.told fault.NoThread (λ e. cc e)).0 is))

-- no memory for a live input
pub returns-in-Err-clause-lived : goal.returns-in-Err-clause-lived
returns-in-Err-clause-lived g c = lived_nothing c.args.terms g.W.Wire.Did g.W.Wire.read_failed g.W.Wire.write_failed g.W.Wire.at_end c.args.wire _
    serve.NoMemory c.requires.fresh c.in-Err.ensures.err

-- no memory for a hub, or no thread
pub returns-in-Err-serve_traffic-clause-lived : goal.returns-in-Err-serve_traffic-clause-lived
returns-in-Err-serve_traffic-clause-lived g c =
    rw c.live_fault_of.ensures (lived_nothing c.args.terms g.W.Wire.Did g.W.Wire.read_failed g.W.Wire.write_failed g.W.Wire.at_end c.args.wire _
    c.in-Err-serve_traffic.field-0.fault c.requires.fresh (ap (λ s. s.wire) c.in-Err-serve_traffic.ensures.untouched ∙ c.in-Ok.ensures.ok.0))
