-- The line that is taken is that of the record whose reply is kept.
use Rattle.command_runs.proofs.live.Words.{HasLived, LiveTerms, Ok, after_line, ap, length, refl, sym, ◌∙◌, ◌≡◌}
use Rattle.command_runs.proofs.live.LivedOn.{takes_behind, took_none}
use Rattle.command_runs.proofs.live.input.Live.take_line.Goals as goal

pub keep-requires : goal.keep-requires
keep-requires g c =
    let l = c.requires.3 in
    let found = rw c.in-Some.is at c.in_ok-count.ensures in
    let count : c.args.self.now.terms.lanes ≡ length c.args.self.now.lanes.items = ap (λ (t : LiveTerms). t.lanes) l.terms ∙ sym l.come.waiting.count in
    (c.in-Some.count, rw count at found)

pub returns-in-Ok-clause-takes : goal.returns-in-Ok-clause-takes
returns-in-Ok-clause-takes g c =
    let s = c.args.self.now in
    let used = c.next_record.new.pool in
    rw c.take_line.ensures (takes_behind (HasLived g.W.Wire.Did g.W.Wire.read_failed g.W.Wire.write_failed g.W.Wire.at_end) (Ok c.in-Ok.taken) s
    (record s { pool = used }) (after_line (Ok c.in-Ok.taken) c.keep.new.self) (took_none s s.lanes s.replies s.lines used refl (λ p come. come)) c.in-Ok.ensures.takes)

pub returns-in-Err-clause-takes : goal.returns-in-Err-clause-takes
returns-in-Err-clause-takes g c = λ start given brought l.
    let s = c.args.self.now in
    c.in-Err.ensures.takes start given brought (took_none s s.lanes s.replies s.lines c.next_record.new.pool refl (λ p come. come) start given brought l)
