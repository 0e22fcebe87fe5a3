-- How far a live input has come, by the lines that it takes and the deliveries that it is brought (of `HasCome` of specs/inner/Came).
use Rattle.command_runs.specs.declared.live.record.LineFault.TheVariants as line_fault
use Rattle.command_runs.specs.declared.live.record.Notice.TheVariants as notice
use Rattle.command_runs.specs.declared.live.pending.PendingReply.TheVariants as pending
use Rattle.command_runs.specs.declared.live.record.Record.TheVariants as read
use Rattle.command_runs.proofs.live.Words.{AllZip, AreOfRows, AreWaiting, Event, HasCome, HasMoved, HasRoom, Held, HoldsRecord, IsOneMore, IsPending, IsRecord, KeepsReplies, List, Meant, NoMemory, Notice, Option, Past, PendingReply, Plain, Record, Row, Some, TakesLines, Turn, Waiting, WriteFault, [], ap, append_assoc, arith, beside-append, cases_eq, cons_option, counts, eq-eqb, get_or, got_after, le-ltb, length, length-append, line_meant, lines_are_pieces, lt-ltb, most_rows, ne_eqb, numbers_from, one_later, refl, replies_from, set, slice_get, slice_get_within, subst, sym, was_read, was_written, with_more, without_line, ℕ, ⊎_elim, ◌++◌, ◌<◌, ◌∙◌, ◌∷◌, ◌≡◌, ◌≢◌, ◌≤◌}
use Rattle.command_runs.proofs.live.LineMeanings.{record_meant}
use Rattle.command_runs.proofs.live.LanesOfTurn.{FirstsStay, firsts_same, moved, same_first, still_pending}
use Rattle.command_runs.proofs.live.ListsGrow.{GrowsAt, EachGrows, adds_none, adds_one, got_grown, grown, grows_same}
use Rattle.command_runs.proofs.live.RepliesGrow.{numbers_after_more, replies_more}

-- what is so of more rows and deliveries is so of these
of_fewer : (p : Past) (given : List (List (List ℕ))) (brought : List (List Plain)) → EachGrows p.given given → EachGrows p.brought brought
    → AreOfRows (record p { given = given; brought = brought }) → AreOfRows p
of_fewer p given brought rows_grow brought_grow are lane number widths x got came =
    are lane number widths x (got_grown p.given given lane number widths rows_grow got) (got_grown p.brought brought lane number x brought_grow came)

-- ---- the replies to a line

-- these are pending for what a record means, and more rows are given
abbrev pub IsFor : Past → Record → List (List (List ℕ)) → List Waiting → List PendingReply → Type 0
IsFor p r given lanes rs = (m : Option Meant) → IsRecord p.terms.lanes r m
    → AllZip (IsPending given lanes) rs (replies_from (counts p.given) (cons_option m [])) × (numbers_from (counts p.given) (cons_option m []) ≡ counts given)

-- a row under its lane's next number
row_for : (p : Past) (lanes : List Waiting) (lane number : ℕ) (row : List ℕ) → AreWaiting p.terms.lanes (with_more lane row p.given) p.brought lanes
    → lane < length p.given → number ≡ counts p.given lane → number < most_rows → length (get_or p.brought lane []) ≤ number
    → IsFor p (read.Row lane row) (with_more lane row p.given) lanes (pending.Row lane number ∷ [])
row_for p lanes lane number row waiting low is left behind = λ m means.
    let new = with_more lane row p.given in
    let a = adds_one lane row p.given low in
    let got : slice_get (get_or new lane []) number ≡ Some row =
    ap (λ rows. slice_get rows number) a.here ∙ got_after (get_or p.given lane []) (row ∷ []) 0 number row (omega (arith, is)) refl in
    let late : (w : Waiting) → slice_get lanes lane ≡ Some w → w.first ≤ number = λ w at.
    let i = waiting.each lane w at in omega (arith, behind, i.first, ap length i.whole, length-append i.written w.deliveries.items) in
    let one : (l : ℕ) → one_later lane (counts p.given) l ≡ counts new l = λ l. ⊎_elim
    (λ (e : l ≡ lane). rw (eq-eqb l lane e, e) (omega (arith, ap length a.here, length-append (get_or p.given lane []) (row ∷ []))))
    (λ (e : l ≢ lane). rw (ne_eqb l lane e) (ap length (sym (a.others l e))))
    (cases_eq l lane) in
    rw (means.0, lt-ltb (counts p.given lane) most_rows (omega (arith, is, left)))
    (((row, ap (λ n. Row lane n row) (sym is), got, omega (arith, low, a.count, waiting.rows, waiting.count), late), tt), λ i l. one l i)

-- none of a line without a byte, and what is reported of a record that is no row, or whose lane has had all its numbers
pub none_for : (p : Past) (lanes : List Waiting) → IsFor p read.Blank p.given lanes []
none_for p lanes = λ m means. rw means (tt, refl)

pub notice_for : (p : Past) (lanes : List Waiting) (n : Notice) → IsFor p (read.Notice n) p.given lanes (pending.Notice n ∷ [])
notice_for p lanes n = λ m means. rw means ((refl, tt), refl)

pub spent_for : (p : Past) (lanes : List Waiting) (lane : ℕ) (row : List ℕ) → counts p.given lane ≡ most_rows
    → IsFor p (read.Row lane row) p.given lanes (pending.Notice (notice.Refused (Some lane) line_fault.Spent) ∷ [])
spent_for p lanes lane row all = λ m means. rw (means.0, le-ltb (counts p.given lane) most_rows (omega (arith, all))) ((refl, tt), refl)

-- ---- steps

-- what is kept of replies stays in the same turn, if no line is taken and nothing written
pub still_kept : {p : Past} {lanes : List Waiting} {rs : List PendingReply} {h : Held} (k : KeepsReplies p lanes rs h) (events : List Event)
    (brought : List (List Plain)) (later : List Waiting) (now : Held) → TakesLines (was_read events) k.taken now → was_written events ≡ was_written p.events
    → FirstsStay lanes later → EachGrows p.brought brought → KeepsReplies (record p { events = events; brought = brought }) later rs now
still_kept {p} {lanes} {rs} k events brought later now lines same stay more = record {
  taken = k.taken;
  done = k.done;
  left = k.left;
  lines = lines;
  replied = k.replied;
  pending = still_pending p.given p.given lanes later (grows_same p.given) stay rs k.left k.pending;
  numbers = k.numbers;
  answers = λ are. rw same (k.answers (of_fewer p p.given brought (grows_same p.given) more are));
}

module _ (p : Past) (t : Turn) (c : HasCome p t) where
  -- a line was taken
  came_line : (lanes : List Waiting) (given : List (List (List ℕ))) (all rs : List PendingReply) (count : ℕ) (r : Record) → all ≡ t.replies ++ rs
      → HoldsRecord (length t.lanes) t.lines count r → AreWaiting p.terms.lanes given p.brought lanes → EachGrows p.given given → FirstsStay t.lanes lanes
      → IsFor p r given lanes rs → HasCome (record p { given = given }) (record t { lanes = lanes; replies = all; lines = without_line t.lines })
  came_line lanes given all rs count r is found waiting more stay for =
      let meant = line_meant p.terms.lanes in
      let fewer : AreOfRows (record p { given = given }) → AreOfRows p = of_fewer p given p.brought more (grows_same p.brought) in
      record {
        waiting = waiting;
        keeps = λ on.
            let k = c.keeps on in
            let held = subst (λ n. HoldsRecord n t.lines count r) c.waiting.count found in
            let line = lines_are_pieces.taken (was_read p.events) k.taken t.lines held.0 k.lines held.1 in
            let new = replies_from (counts p.given) (cons_option (meant line.0) []) in
            let are = for (meant line.0) (record_meant p.terms.lanes t.lines count r line.0 held line.1) in
            record {
              taken = k.taken ++ line.0 ∷ [];
              done = k.done;
              left = k.left ++ new;
              lines = line.2;
              replied = replies_more meant k.taken (line.0 ∷ []) (counts p.given) k.numbers ∙ ap (λ ys. ys ++ new) k.replied ∙ append_assoc k.done k.left new;
              pending = rw is (beside-append (IsPending given lanes) t.replies rs k.left new
                  (still_pending p.given given t.lanes lanes more stay t.replies k.left k.pending) are.0);
              numbers = numbers_after_more meant k.taken (line.0 ∷ []) (counts p.given) k.numbers ∙ are.1;
              answers = λ h. k.answers (fewer h);
            };
        stands = λ h. c.stands (fewer h);
      }

  -- a line of no row
  pub came_plain : (all rs : List PendingReply) (count : ℕ) (r : Record) → all ≡ t.replies ++ rs → HoldsRecord (length t.lanes) t.lines count r
      → IsFor p r p.given t.lanes rs → HasCome p (record t { replies = all; lines = without_line t.lines })
  came_plain all rs count r is found for = came_line t.lanes p.given all rs count r is found c.waiting (grows_same p.given) (firsts_same t.lanes) for

  module _ (lane : ℕ) (w v : Waiting) (at : slice_get t.lanes lane ≡ Some w) where
    -- a lane has changed, by deliveries or room
    pub came_lane : (more : List Plain) (brought : List (List Plain)) → GrowsAt lane more p.brought brought → HasMoved 0 more w v
        → length (get_or brought lane []) ≤ counts p.given lane → HasCome (record p { brought = brought }) (record t { lanes = set t.lanes lane v })
    came_lane more brought a m behind =
        let i = c.waiting.each lane w at in
        let grows = grown lane more p.brought brought a in
        record {
          waiting = moved c.waiting lane w v at [] more p.given brought (adds_none lane p.given) a m (omega (arith, m.room, m.next, m.first, i.room)) behind;
          keeps = λ on. let k = c.keeps on in
              still_kept k p.events brought (set t.lanes lane v) t.lines k.lines refl (same_first c.waiting lane w v at m.first) grows;
          stands = λ h. c.stands (of_fewer p p.given brought (grows_same p.given) grows h);
        }

    -- by room alone
    pub came_roomier : HasMoved 0 [] w v → HasCome p (record t { lanes = set t.lanes lane v })
    came_roomier m = came_lane [] p.brought (adds_none lane p.brought) m (c.waiting.each lane w at).behind

    -- a row was taken under its lane's next number
    pub came_row : (all : List PendingReply) (count number : ℕ) (row : List ℕ) → all ≡ t.replies ++ pending.Row lane number ∷ [] → IsOneMore number w v
        → HoldsRecord (length t.lanes) t.lines count (read.Row lane row) → HasRoom lane p.given
        × HasCome (record p { given = with_more lane row p.given }) (record t { lanes = set t.lanes lane v; replies = all; lines = without_line t.lines })
    came_row all count number row is o found =
        let i = c.waiting.each lane w at in
        let there : lane < length p.given = omega (arith, slice_get_within t.lanes lane w at, c.waiting.rows, c.waiting.count) in
        let new = with_more lane row p.given in
        let a = adds_one lane row p.given there in
        let waiting = moved c.waiting lane w v at (row ∷ []) [] new p.brought a (adds_none lane p.brought) o.moved o.room
        (omega (arith, i.behind, ap length a.here, length-append (get_or p.given lane []) (row ∷ []))) in (
          (there, omega (arith, o.left, o.same, i.next)),
          came_line (set t.lanes lane v) new all (pending.Row lane number ∷ []) count (read.Row lane row) is found waiting (grown lane (row ∷ []) p.given new a)
              (same_first c.waiting lane w v at o.moved.first)
              (row_for p (set t.lanes lane v) lane number row waiting there (o.same ∙ i.next) o.left (omega (arith, i.behind, o.same, i.next))),
        )

  -- memory was refused
  pub came_refusal : t.stopped ≢ Some WriteFault → HasCome p (record t { stopped = Some NoMemory })
  came_refusal other = record {
    waiting = c.waiting;
    keeps = λ _. c.keeps other;
    stands = λ h. let s = c.stands h in record { prompt = s.prompt; front = s.front; ended = s.ended; answered = λ is. cc };
  }
