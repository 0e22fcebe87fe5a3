-- What is read comes behind what is held, and nothing that ended is unanswered then.
use Rattle.command_runs.proofs.live.Words.{Held, Read, WriteFault, [], ap, inl, refl, sym, turn_of, ◌++◌, ◌∙◌, ◌∷◌}
use Rattle.command_runs.proofs.live.LivedOn.{other_told}
use Rattle.command_runs.proofs.live.ReadsAndWrites.{came_failed, came_read, no_wire_stop}
use Rattle.command_runs.proofs.live.input.Live.read_on.Goals as goal

pub returns-in-Err-clause-came : goal.returns-in-Err-clause-came
returns-in-Err-clause-came g c = λ start given brought l.
    let s = c.args.self.now in
    let opened = inl c.in-None.is in
    let going = sym c.has_ended.ensures ∙ c.if-has_ended.false in
    let e = c.in-Err.ensures in
    let did = e.ok.2 in
    record {
      events = l.events;
      were_done = did.nothing start.wire l.events l.were_done;
      come = rw e.err (came_failed _ (turn_of s) l.come opened c.requires c.in-None-line.ensures.none going);
      terms = l.terms;
      read = λ f. (λ _. did.faults.err, λ _. refl);
      write = other_told _ _ _ s.stopped _ WriteFault (no_wire_stop s.stopped opened).1 (λ is. cc is) did.faults.other_side l.write;
      begun = λ is. cc is;
      ended = λ is. absurd (let wrong = sym (ap (λ (h : Held). h.has_ended) e.err ∙ going) ∙ is in cc wrong);
    }

pub returns-in-Ok-clause-came : goal.returns-in-Ok-clause-came
returns-in-Ok-clause-came g c = λ start given brought l.
    let going = sym c.has_ended.ensures ∙ c.if-has_ended.false in
    let e = c.in-Ok.ensures in
    let did = e.ok.2 in
    record {
      events = l.events ++ Read e.ok.0 ∷ [];
      were_done = did.done start.wire l.events l.were_done;
      come = rw e.ok.1 (came_read _ (turn_of c.args.self.now) l.come (inl c.in-None.is) c.requires c.in-None-line.ensures.none going e.ok.0);
      terms = l.terms;
      read = rw did.faults.ok l.read;
      write = rw did.faults.other_side l.write;
      begun = l.begun;
      ended = e.end;
    }
