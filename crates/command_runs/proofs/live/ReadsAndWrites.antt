-- How far a live input has come, by the reads and writes of its wire (of `Stands` of specs/inner/Came).
use Rattle.command_runs.specs.declared.live.pending.PendingReply.TheVariants as pending
use Rattle.command_runs.proofs.live.Words.{All, AllZip, AnsweredWhole, AnswersBy, AreEnded, AreOfRows, AreWaiting, BeginsBy, HasCome, Held, IsAllBrought, IsPending, IsReady, IsReplyTo, KeepsReplies, List, LiveFault, MayStillWrite, NoMemory, None, Option, Past, PendingReply, Read, ReadFault, Reply, Some, Stands, TakesLines, TellsPending, Turn, Waiting, WriteFault, [], ap, append-nil, append_assoc, arith, arrived, beside, beside-append, concat, concat-append, counts, eqb-true, false, filter_map, first_of_pairs, get_or, got_after, held_line, length, length-append, line_meant, lines_are_pieces, nil_from_length, no_pairs, pieces_of, refl, replies_from, replies_in, slice_get, sym, take, take-append_seam, was_read, was_written, whole_lines, with_room, writes_of, zip_weaker, ℕ, ⊎_elim, ◌++◌, ◌-◌, ◌∙◌, ◌∷◌, ◌≡◌, ◌≢◌}
use Rattle.command_runs.proofs.live.LinesAndDeliveries.{still_kept}
use Rattle.command_runs.proofs.live.LanesOfTurn.{firsts_same, ready, turn_ended}
use Rattle.command_runs.proofs.live.ListsGrow.{grows_same}
use Rattle.command_runs.proofs.live.LogGrows.{answers_begin, front_more, prompt_more, read_all_same, read_more, writes_more, written_all, written_same}
use Rattle.command_runs.proofs.live.RepliesGrow.{replies_more}

-- it has stopped for no fault of its wire
pub no_wire_stop : (stopped : Option LiveFault) → MayStillWrite stopped → (stopped ≢ Some ReadFault) × (stopped ≢ Some WriteFault)
no_wire_stop stopped opened =
    ⊎_elim (λ (e : stopped ≡ None). (λ is. cc, λ is. cc)) (λ (e : stopped ≡ Some NoMemory). (λ is. cc, λ is. cc)) opened

-- the line of a pending reply answers it, if deliveries are of the rows of their numbers
says_reply : (p : Past) (lanes : List Waiting) → AreWaiting p.terms.lanes p.given p.brought lanes → AreOfRows p → (y : Reply) (t : List ℕ)
    → (r : PendingReply) × IsPending p.given lanes r y × TellsPending p.terms lanes r t → IsReplyTo p.terms y t
says_reply p lanes a are y t (pending.Row l n, (widths, is, got, low, late), (w, x, answer, at, first, there, answers, line)) =
    let i = a.each l w at in
    let came : slice_get (get_or p.brought l []) n ≡ Some x =
    ap (λ bs. slice_get bs n) i.whole ∙ got_after i.written w.deliveries.items _ n x (omega (arith, first, i.first)) there in
    let same = are l n widths x got came in
    rw is (answer, rw (same.0, same.1) at answers, line)
says_reply p lanes a are y t (pending.Notice n, is, says) = rw is says

module _ {p : Past} {lanes : List Waiting} {replies : List PendingReply} {h : Held} (k : KeepsReplies p lanes replies h) where
  -- without replies all that was taken is answered
  pub all_done : replies ≡ [] → replies_in p.terms k.taken ≡ k.done
  all_done empty = k.replied ∙ ap (λ ys. k.done ++ ys) (no_pairs (IsPending p.given lanes) replies k.left empty k.pending) ∙ append-nil k.done

  -- what answers the lines that were taken begins what answers all that was read
  begins : (rs : List Reply) (text : List ℕ) → replies_in p.terms k.taken ≡ rs → AnswersBy (IsReplyTo p.terms) rs text
      → BeginsBy (IsReplyTo p.terms) (replies_in p.terms (pieces_of (was_read p.events))) text
  begins rs text is answers =
      let (later, all) = lines_are_pieces.begins (was_read p.events) k.taken h k.lines in
      answers_begin (IsReplyTo p.terms) _ rs _ text (ap (replies_in p.terms) all ∙ replies_more (line_meant p.terms.lanes) k.taken later (counts p.given) k.numbers
      ∙ ap (λ xs. xs ++ replies_from (counts p.given) (filter_map (line_meant p.terms.lanes) later)) is) answers

module _ (p : Past) (t : Turn) (c : HasCome p t) where
  module _ (k : KeepsReplies p t.lanes t.replies t.lines) where
    -- all rows of the turn have come back
    pub all_ready : IsAllBrought p.given p.brought → All (IsReady t.lanes) t.replies
    all_ready even = first_of_pairs (IsPending p.given t.lanes) (IsReady t.lanes) (ready c.waiting even) t.replies k.left k.pending

    -- what was written and then the lines of the turn
    turn_answers : (texts : List (List ℕ)) → AllZip (TellsPending p.terms t.lanes) t.replies texts → AreOfRows p
        → AnswersBy (IsReplyTo p.terms) (k.done ++ k.left) (was_written p.events ++ concat texts)
    turn_answers texts says are = let a = k.answers are in (
      a.0 ++ texts,
      beside-append (IsReplyTo p.terms) k.done k.left a.0 texts a.1 (zip_weaker _ (IsReplyTo p.terms) (says_reply p t.lanes c.waiting are) k.left texts
          (beside (IsPending p.given t.lanes) (TellsPending p.terms t.lanes) t.replies k.left texts k.pending says)),
      ap (λ t. t ++ concat texts) a.2 ∙ sym (concat-append a.0 texts),
    )

    -- some of the turn's lines were written
    wrote_some : (stopped : Option LiveFault) (texts pieces : List (List ℕ)) (rest : List ℕ) → AllZip (TellsPending p.terms t.lanes) t.replies texts
        → concat pieces ++ rest ≡ concat texts → stopped ≢ Some ReadFault → AreOfRows p → Stands p.terms (p.events ++ writes_of pieces) t.lines.has_ended stopped
    wrote_some stopped texts pieces rest says is other are =
        let s = c.stands are in
        let begun = begins k _ _ k.replied (turn_answers texts says are) in
        let both = writes_more (IsReplyTo p.terms) (replies_in p.terms) p.events pieces rest s.prompt s.front (rw is begun) in
        record {
          prompt = both.0;
          front = both.1;
          ended = λ e. let h = s.ended e in
              (h.0, h.1 ++ writes_of pieces, ap (λ es. es ++ writes_of pieces) h.2 ∙ append_assoc h.0 (Read [] ∷ h.1) (writes_of pieces), read_all_same h.1 pieces ∙ h.3);
          answered = λ e. absurd (other e);
        }

  module _ (opened : MayStillWrite t.stopped) where
    -- no write has failed, so the replies are kept
    pub keeps : KeepsReplies p t.lanes t.replies t.lines
    keeps = c.keeps (no_wire_stop t.stopped opened).1

    -- a write failed
    pub came_part : (texts pieces : List (List ℕ)) (rest : List ℕ) → AllZip (TellsPending p.terms t.lanes) t.replies texts → concat pieces ++ rest ≡ concat texts
        → HasCome (record p { events = p.events ++ writes_of pieces }) (record t { stopped = Some WriteFault })
    came_part texts pieces rest says is = record {
      waiting = c.waiting;
      keeps = λ on. absurd (on refl);
      stands = wrote_some keeps (Some WriteFault) texts pieces rest says is (λ e. cc e);
    }

    -- the turn was written
    pub came_written : (texts pieces : List (List ℕ)) (new : List Waiting) → IsAllBrought p.given p.brought
        → AllZip (TellsPending p.terms t.lanes) t.replies texts → concat pieces ≡ concat texts → AreEnded t.lanes new
        → HasCome (record p { events = p.events ++ writes_of pieces }) (record t { lanes = new; replies = [] })
    came_written texts pieces new even says is end = record {
      waiting = turn_ended c.waiting new even end;
      keeps = λ on. record {
        taken = keeps.taken;
        done = keeps.done ++ keeps.left;
        left = [];
        lines = rw (read_all_same p.events pieces) keeps.lines;
        replied = keeps.replied ∙ sym (append-nil _);
        pending = tt;
        numbers = keeps.numbers;
        answers = λ are. rw (written_all p.events pieces, is) (turn_answers keeps texts says are);
      };
      stands = wrote_some keeps t.stopped texts pieces [] says (append-nil (concat pieces) ∙ is) (no_wire_stop t.stopped opened).0;
    }

    module _ (empty : t.replies ≡ []) (none : held_line t.lines ≡ None) (going : t.lines.has_ended ≡ false) where
      -- all lines that had ended were answered, if no line is held and no reply pending
      whole_answered : AreOfRows p → AnsweredWhole p.terms.lanes p.terms.form p.terms.year p.events
      whole_answered are =
          let taken = keeps.taken in
          let (last, even) = lines_are_pieces.even (was_read p.events) taken t.lines keeps.lines none going in
          let whole : whole_lines (was_read p.events) ≡ taken = ap (λ ps. take (length ps - 1) ps) even
          ∙ ap (λ n. take n (taken ++ last ∷ [])) (omega (arith, length-append taken (last ∷ []))) ∙ take-append_seam taken (last ∷ []) in
          rw (whole, all_done keeps empty) (keeps.answers are)

      -- a read gave these bytes
      pub came_read : (bytes : List ℕ) → HasCome (record p { events = p.events ++ Read bytes ∷ [] }) (record t { lines = arrived t.lines bytes })
      came_read bytes =
          let now = p.events ++ Read bytes ∷ [] in
          let L = IsReplyTo p.terms in
          let lines : TakesLines (was_read now) keeps.taken (arrived t.lines bytes) =
          rw (read_more p.events bytes) (lines_are_pieces.more (was_read p.events) bytes keeps.taken t.lines keeps.lines none going) in
          let kept : KeepsReplies (record p { events = now }) t.lanes t.replies (arrived t.lines bytes) =
          still_kept keeps now p.brought t.lanes (arrived t.lines bytes) lines (written_same p.events bytes) (firsts_same t.lanes) (grows_same p.brought) in
          record {
            waiting = c.waiting;
            keeps = λ on. kept;
            stands = λ are. let s = c.stands are in record {
              prompt = prompt_more L (replies_in p.terms) p.events (Read bytes) s.prompt (λ _ _. whole_answered are);
              front = front_more L (replies_in p.terms) p.events (Read bytes) s.front
                  (begins kept kept.done (was_written now) (all_done kept empty) (kept.answers are));
              ended = λ e. (p.events, [], ap (λ bs. p.events ++ Read bs ∷ []) (nil_from_length bytes (eqb-true (length bytes) 0 e)), refl);
              answered = λ e. absurd ((no_wire_stop t.stopped opened).0 e);
            };
          }

      -- a read failed
      pub came_failed : HasCome p (record t { lines = with_room t.lines; stopped = Some ReadFault })
      came_failed = record {
        waiting = c.waiting;
        keeps = λ on. still_kept keeps p.events p.brought t.lanes (with_room t.lines)
            (lines_are_pieces.room (was_read p.events) keeps.taken t.lines keeps.lines none going) refl (firsts_same t.lanes) (grows_same p.brought);
        stands = λ are. let s = c.stands are in record { prompt = s.prompt; front = s.front; ended = s.ended; answered = λ _. whole_answered are };
      }
