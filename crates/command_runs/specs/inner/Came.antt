-- How far a live input has come (`live/input.rt`): the lanes of a turn, the replies that are pending, what was read and written.
use Rattle.std.specs.Prelude.{◌≡◌, ◌≢◌, ◌<◌, ◌≤◌, ◌-◌, ◌+◌, ◌++◌, Bool, true, ⊤, ℕ, List, [], Option, None, Some, Result, Ok, Err, length, replicate, slice_get, slice_index_or, vec_capacity}
use Rattle.std.specs.List.{AllZip}
use Rattle.std.specs.declared.alloc.AllocError.{AllocError}
use Rattle.scan_core.specs.Answers.{IsAnswer}
use Rattle.scan_core.specs.declared.answer.Answer.{Answer}
use Rattle.lane_core.specs.declared.job.Plain.{Plain}
use Rattle.hub_core.specs.Traffics.{Gives, History, Stays}
use Rattle.wire_core.specs.Events.{Event, was_read, was_written}
use Rattle.wire_core.specs.Lines.{Held, TakesLines, without_line}
use Rattle.command_runs.specs.answers.Reports.{numbered_line}
use Rattle.command_runs.specs.live.Answering.{AnswersBy}
use Rattle.command_runs.specs.live.Replies.{Numbers, Reply, Told, replies_to}
use Rattle.command_runs.specs.live.Replies.Reply.{Row, Line}
use Rattle.command_runs.specs.live.Text.{AnsweredWhole, HasEnded, IsFront, IsPrompt, IsReply, IsTold, line_meant}
use Rattle.command_runs.specs.inner.Meaning.{told_of}
use Rattle.command_runs.specs.inner.NextNumbers.{numbers_after_lines}
use Rattle.command_runs.specs.inner.Stops.{StopsFor}
use Rattle.command_runs.specs.declared.live.fault.LiveFault.{LiveFault}
use Rattle.command_runs.specs.declared.live.fault.LiveFault.TheVariants.{NoThread, ReadFault, WriteFault}
use Rattle.command_runs.specs.declared.live.input.Live.{Live}
use Rattle.command_runs.specs.declared.live.input.NextLine.{NextLine}
use Rattle.command_runs.specs.declared.live.input.NextLine.TheVariants as take
use Rattle.command_runs.specs.declared.live.pending.PendingReply.{PendingReply}
use Rattle.command_runs.specs.declared.live.pending.PendingReply.TheVariants as pending
use Rattle.command_runs.specs.declared.live.terms.LiveTerms.{LiveTerms}
use Rattle.command_runs.specs.declared.live.waiting.Waiting.{Waiting}

-- the history of a live input: its terms, what its wire did, the rows that it gave and the deliveries that it got
pub record Past : Type 0 where
  pub terms : LiveTerms
  pub events : List Event
  pub given : List (List (List ℕ))
  pub brought : List (List Plain)

-- the lanes and the replies of a turn, what is held of the input, and why nothing more is taken
pub record Turn : Type 0 where
  pub lanes : List Waiting
  pub replies : List PendingReply
  pub lines : Held
  pub stopped : Option LiveFault

-- these four of a live input
abbrev pub turn_of : {W : Type 0} → Live W → Turn
turn_of s = record { lanes = s.lanes.items; replies = s.replies.items; lines = s.lines; stopped = s.stopped }

-- ---- the lanes

-- a lane gave these rows and got these deliveries; the last of these wait to be written, with room for all that may come
pub record IsWaiting (rows : List (List ℕ)) (brought : List Plain) (w : Waiting) : Type 0 where
  pub written : List Plain
  pub whole : brought ≡ written ++ w.deliveries.items
  pub first : w.first ≡ length written
  pub next : w.next ≡ length rows
  pub behind : length brought ≤ length rows
  pub room : w.next ≤ w.first + vec_capacity w.deliveries

-- each of this many lanes is as `IsWaiting` says
pub record AreWaiting (n : ℕ) (given : List (List (List ℕ))) (brought : List (List Plain)) (lanes : List Waiting) : Type 0 where
  pub count : length lanes ≡ n
  pub rows : length given ≡ n
  pub deliveries : length brought ≡ n
  pub each : (l : ℕ) (w : Waiting) → slice_get lanes l ≡ Some w → IsWaiting (slice_index_or given l []) (slice_index_or brought l []) w

-- each delivery is of the row of its number, under the reference year
abbrev pub AreOfRows : Past → Type 0
AreOfRows p = (lane number : ℕ) (widths : List ℕ) (x : Plain) → slice_get (slice_index_or p.given lane []) number ≡ Some widths
    → slice_get (slice_index_or p.brought lane []) number ≡ Some x → (x.widths ≡ widths) × (x.year ≡ p.terms.year)

-- how many rows of each lane were given
abbrev pub counts : List (List (List ℕ)) → Numbers
counts given = λ l. length (slice_index_or given l [])

-- ---- replies and their lines

-- a pending reply is this one, of a row that was given in this turn or of what is reported
abbrev pub IsPending : List (List (List ℕ)) → List Waiting → PendingReply → Reply → Type 0
IsPending given lanes (pending.Row lane number) r = (widths : List ℕ) × (r ≡ Row lane number widths) × (slice_get (slice_index_or given lane []) number ≡ Some widths)
    × (lane < length lanes) × ((w : Waiting) → slice_get lanes lane ≡ Some w → w.first ≤ number)
IsPending given lanes (pending.Notice n) r = r ≡ Line (told_of n)

-- the delivery of a pending reply has been brought, if it is of a row
abbrev pub IsReady : List Waiting → PendingReply → Type 0
IsReady lanes (pending.Row lane number) =
    (lane < length lanes) × ((w : Waiting) → slice_get lanes lane ≡ Some w → (w.first ≤ number) × (number < w.first + length w.deliveries.items))
IsReady lanes (pending.Notice n) = ⊤

-- what is reported, written as terms ask for
abbrev pub IsToldBy : LiveTerms → Told → List ℕ → Type 0
IsToldBy t = IsTold t.year t.form

-- the line of a pending reply, by the deliveries that wait: for a row what `IsReply` says, with the widths and the year of its delivery
abbrev pub TellsPending : LiveTerms → List Waiting → PendingReply → List ℕ → Type 0
TellsPending t lanes (pending.Row lane number) text = (w : Waiting) × (x : Plain) × (a : Answer) × (slice_get lanes lane ≡ Some w) × (w.first ≤ number)
    × (slice_get w.deliveries.items (number - w.first) ≡ Some x) × IsAnswer x.widths x.year a × (text ≡ numbered_line t.form lane number a)
TellsPending t lanes (pending.Notice n) text = IsToldBy t (told_of n) text

-- the line of a reply
abbrev pub IsReplyTo : LiveTerms → Reply → List ℕ → Type 0
IsReplyTo t = IsReply t.year t.form

-- what is written for lines
abbrev pub replies_in : LiveTerms → List (List ℕ) → List Reply
replies_in t = replies_to (line_meant t.lanes)

-- ---- reads and writes

-- of the replies to the lines that were taken the first were written, and the others are pending
pub record KeepsReplies (p : Past) (lanes : List Waiting) (replies : List PendingReply) (h : Held) : Type 0 where
  pub taken : List (List ℕ)
  pub done : List Reply
  pub left : List Reply
  pub lines : TakesLines (was_read p.events) taken h
  pub replied : replies_in p.terms taken ≡ done ++ left
  pub pending : AllZip (IsPending p.given lanes) replies left
  pub numbers : numbers_after_lines (line_meant p.terms.lanes) taken ≡ counts p.given
  pub answers : AreOfRows p → AnswersBy (IsReplyTo p.terms) done (was_written p.events)

-- what is true of the reads and writes so far. At the end it makes `Lived`: `answered` its `cut`, and `ended` a part of its `ok`.
pub record Stands (t : LiveTerms) (events : List Event) (has_ended : Bool) (stopped : Option LiveFault) : Type 0 where
  pub prompt : IsPrompt t.lanes t.form t.year events
  pub front : IsFront t.lanes t.form t.year events
  pub ended : has_ended ≡ true → HasEnded events
  pub answered : stopped ≡ Some ReadFault → AnsweredWhole t.lanes t.form t.year events

-- A live input has come this far. Of its replies nothing is said after a failed write, and of its reads and writes only if each delivery is of its row, as
-- the hub claims.
pub record HasCome (p : Past) (t : Turn) : Type 0 where
  pub waiting : AreWaiting p.terms.lanes p.given p.brought t.lanes
  pub keeps : t.stopped ≢ Some WriteFault → KeepsReplies p t.lanes t.replies t.lines
  pub stands : AreOfRows p → Stands p.terms p.events t.lines.has_ended t.stopped

-- ---- the whole

-- what has led from this start, by these reads and writes, rows and deliveries
abbrev pub past_from : {W : Type 0} → Live W → List Event → List (List (List ℕ)) → List (List Plain) → Past
past_from start events given brought = record { terms = start.terms; events = events; given = given; brought = brought }

-- from its start a live input has come this far: what its wire did, and why it has stopped
pub record HasLived {W : Type 0} (did : W → W → List Event → Type 0) (read_failed write_failed : W → Bool) (at_end : W → Type 0) (start s : Live W)
    (given : List (List (List ℕ))) (brought : List (List Plain)) : Type 0 where
  pub events : List Event
  pub were_done : did start.wire s.wire events
  pub come : HasCome (past_from start events given brought) (turn_of s)
  pub terms : s.terms ≡ start.terms
  pub read : StopsFor (read_failed start.wire) (read_failed s.wire) s.stopped ReadFault
  pub write : StopsFor (write_failed start.wire) (write_failed s.wire) s.stopped WriteFault
  pub begun : s.stopped ≢ Some NoThread
  pub ended : s.lines.has_ended ≡ true → at_end s.wire

-- a live input of this wire that has read nothing and has not stopped
abbrev pub HasBegun : {W : Type 0} → History (Live W) → LiveTerms → W → Live W → Type 0
HasBegun came terms wire s = (s.wire ≡ wire) × (s.terms ≡ terms) × (s.stopped ≡ None) × came s s (replicate terms.lanes []) (replicate terms.lanes [])

-- a row that was taken was given to the hub, and nothing else was
abbrev pub TakesLine : {W : Type 0} → History (Live W) → Result NextLine AllocError → Live W → Live W → Type 0
TakesLine came (Ok (take.Row lane row)) s t = Gives came (lane, row) s t
TakesLine came (Ok take.Line) s t = Stays came s t
TakesLine came (Ok take.Nothing) s t = Stays came s t
TakesLine came (Err refused) s t = Stays came s t

-- what is held of the input stays as it is, and so does the reason why nothing more is taken
abbrev pub HoldsOn : {W : Type 0} → Live W → Live W → Type 0
HoldsOn s t = (t.lines ≡ s.lines) × (t.stopped ≡ s.stopped)

-- a live input without the line that it held, unless memory was refused
abbrev pub after_line : {W : Type 0} → Result NextLine AllocError → Live W → Live W
after_line (Ok taken) s = record s { lines = without_line s.lines }
after_line (Err refused) s = s
