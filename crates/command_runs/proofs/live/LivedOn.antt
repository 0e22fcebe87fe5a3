-- A live input as a whole, as it takes lines, and what its wire tells of its faults (of `HasLived` of specs/inner/Came).
use Rattle.command_runs.specs.declared.live.input.NextLine.TheVariants as take
use Rattle.command_runs.proofs.live.Words.{AllocError, Bool, Err, Event, Gives, Global, HasCome, HasLived, HasRoom, Held, History, IsErr, List, Live, LiveFault, MayStillWrite, NextLine, NoMemory, Ok, Option, Past, PendingReply, Plain, ReadFault, Result, Some, Stays, StopsFor, String, TakesLine, Vec, Waiting, WriteFault, after_line, false≢true, past_from, refl, sym, turn_of, with_more, ℕ, ◌∙◌, ◌≡◌, ◌≢◌}
use Rattle.command_runs.proofs.live.LinesAndDeliveries.{came_refusal}
use Rattle.command_runs.proofs.live.ReadsAndWrites.{no_wire_stop}

-- of a fault that was not and is not why it has stopped, `StopsFor` stays if nothing of it has failed since
pub other_told : (first was now : Bool) (stopped new : Option LiveFault) (fault : LiveFault) → stopped ≢ Some fault → new ≢ Some fault → now ≡ was
    → StopsFor first was stopped fault → StopsFor first now new fault
other_told first was now stopped new fault old other same t = λ f. (λ is. absurd (other is), λ is. absurd (old ((t f).1 (sym same ∙ is))))

-- the same with another turn and other memory of rows
abbrev pub other_turn : {W : Type 0} → Live W → Vec Waiting Global → Vec PendingReply Global → Held → ℕ → Live W
other_turn s lanes replies h pool = record s { lanes = lanes; replies = replies; lines = h; pool = pool }

module _ {W : Type 0} {did : W → W → List Event → Type 0} {read_failed write_failed : W → Bool} {at_end : W → Type 0} (s : Live W) (lanes : Vec Waiting Global)
    (replies : Vec PendingReply Global) (h : Held) (pool : ℕ) (ended : h.has_ended ≡ s.lines.has_ended) where
  -- a live input that did nothing on its wire has lived on, if the turn has come further
  pub lived_on : (start : Live W) (given more : List (List (List ℕ))) (brought after : List (List Plain))
      → (l : HasLived did read_failed write_failed at_end start s given brought) → HasCome (past_from start l.events more after) (turn_of (other_turn s lanes replies h pool))
      → HasLived did read_failed write_failed at_end start (other_turn s lanes replies h pool) more after
  lived_on start given more brought after l come = record {
    events = l.events;
    were_done = l.were_done;
    come = come;
    terms = l.terms;
    read = l.read;
    write = l.write;
    begun = l.begun;
    ended = λ is. l.ended (sym ended ∙ is);
  }

  -- it gave no row
  pub took_none : ((p : Past) → HasCome p (turn_of s) → HasCome p (turn_of (other_turn s lanes replies h pool))) → Stays (HasLived did read_failed write_failed at_end) s (other_turn s lanes replies h pool)
  took_none on = λ start given brought l. lived_on start given given brought brought l (on _ l.come)

  -- it gave this row
  pub took_row : (row : ℕ × List ℕ)
      → ((p : Past) → HasCome p (turn_of s) → HasRoom row.0 p.given × HasCome (record p { given = with_more row.0 row.1 p.given }) (turn_of (other_turn s lanes replies h pool)))
      → Gives (HasLived did read_failed write_failed at_end) row s (other_turn s lanes replies h pool)
  took_row row on = λ start given brought l. let both = on _ l.come in (both.0, lived_on start given _ brought brought l both.1)

-- memory was refused
pub took_nothing : {W : Type 0} {did : W → W → List Event → Type 0} {read_failed write_failed : W → Bool} {at_end : W → Type 0} (s : Live W) (text : String Global)
    → MayStillWrite s.stopped → Stays (HasLived did read_failed write_failed at_end) s (record s { text = text; stopped = Some NoMemory })
took_nothing s text opened = λ start given brought l. let no = no_wire_stop s.stopped opened in record {
  events = l.events;
  were_done = l.were_done;
  come = came_refusal _ (turn_of s) l.come no.1;
  terms = l.terms;
  read = other_told _ _ _ s.stopped (Some NoMemory) ReadFault no.0 (λ is. cc is) refl l.read;
  write = other_told _ _ _ s.stopped (Some NoMemory) WriteFault no.1 (λ is. cc is) refl l.write;
  begun = λ is. cc is;
  ended = l.ended;
}

-- a line whose reply could not be kept is not taken
pub refused_line : {W : Type 0} (came : History (Live W)) (r : Result NextLine AllocError) (s t : Live W) → IsErr r → Stays came s t
    → TakesLine came r s (after_line r t)
refused_line came (Ok taken) s t failed same = absurd (false≢true failed)
refused_line came (Err e) s t failed same = same

-- a line that is taken behind a step that gives nothing
pub takes_behind : {W : Type 0} (came : History (Live W)) (r : Result NextLine AllocError) (s u t : Live W) → Stays came s u → TakesLine came r u t
    → TakesLine came r s t
takes_behind came (Ok take.Nothing) s u t same takes = λ start given brought l. takes start given brought (same start given brought l)
takes_behind came (Ok take.Line) s u t same takes = λ start given brought l. takes start given brought (same start given brought l)
takes_behind came (Ok (take.Row lane row)) s u t same takes = λ start given brought l. takes start given brought (same start given brought l)
takes_behind came (Err refused) s u t same takes = λ start given brought l. takes start given brought (same start given brought l)
