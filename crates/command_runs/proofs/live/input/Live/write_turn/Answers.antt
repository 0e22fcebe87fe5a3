-- The lines that are written are the replies that were pending.
use Rattle.command_runs.proofs.live.Words.{ReadFault, ap, refl, turn_of, writes_of, ◌++◌, ◌∙◌}
use Rattle.command_runs.proofs.live.LivedOn.{other_told, took_nothing}
use Rattle.command_runs.proofs.live.ReadsAndWrites.{all_ready, came_part, came_written, keeps, no_wire_stop}
use Rattle.command_runs.proofs.live.input.Live.write_turn.Goals as goal

pub push_replies-requires : goal.push_replies-requires
push_replies-requires g c =
    let t = turn_of c.args.self.now in
    let was = c.requires in
    let opened = c.is_open.ensures.0 c.if-not-is_open.false in
    rw (c.as_slice.ensures.value, c.as_slice-2.ensures.value) (all_ready _ t was.3.come (keeps _ t was.3.come opened) was.4)

pub returns-in-Err-clause-came : goal.returns-in-Err-clause-came
returns-in-Err-clause-came g c = λ start given brought l even.
    let s = c.args.self.now in
    let opened = c.is_open.ensures.0 c.if-not-is_open.false in
    let said = rw (c.as_slice.ensures.value, c.as_slice-2.ensures.value, l.terms) at c.in-Ok.ensures in
    let e = c.in-Err.ensures in
    let w = e.err in
    record {
      events = l.events ++ writes_of w.2.0;
      were_done = w.2.1 start.wire l.events l.were_done;
      come = came_part _ (turn_of s) l.come opened said.0 w.2.0 w.1 said.1 (ap (λ t. t ++ w.1) w.2.2 ∙ w.3 ∙ c.as_bytes.ensures.value ∙ said.2);
      terms = l.terms;
      read = other_told _ _ _ s.stopped _ ReadFault (no_wire_stop s.stopped opened).0 (λ is. cc is) e.faults.other_side l.read;
      write = λ f. (λ _. e.faults.err, λ _. refl);
      begun = λ is. cc is;
      ended = λ is. e.end (l.ended is);
    }

pub returns-in-Ok-write_all-clause-came : goal.returns-in-Ok-write_all-clause-came
returns-in-Ok-write_all-clause-came g c = λ start given brought l even.
    let s = c.args.self.now in
    let opened = c.is_open.ensures.0 c.if-not-is_open.false in
    let said = rw (c.as_slice.ensures.value, c.as_slice-2.ensures.value, l.terms) at c.in-Ok.ensures in
    let e = c.in-Ok-write_all.ensures in
    let w = e.ok in
    record {
      events = l.events ++ writes_of w.0;
      were_done = w.1 start.wire l.events l.were_done;
      come = rw c.clear.ensures.items (came_written _ (turn_of s) l.come opened said.0 w.0 c.end_turn.new.lanes.items even said.1
          (w.2 ∙ c.as_bytes.ensures.value ∙ said.2) c.end_turn.ensures);
      terms = l.terms;
      read = rw e.faults.other_side l.read;
      write = rw e.faults.ok l.write;
      begun = l.begun;
      ended = λ is. e.end (l.ended is);
    }

-- memory was refused
pub returns-in_default-clause-came : goal.returns-in_default-clause-came
returns-in_default-clause-came g c = λ start given brought l even.
    took_nothing c.args.self.now c.push_replies.new.text (c.is_open.ensures.0 c.if-not-is_open.false) start given brought l
