-- What a line of a live input means, and the text that answers the lines.
use Rattle.std.specs.Prelude.{◌≡◌, ◌==◌, ◌++◌, ◌∷◌, ℕ, Bool, List, [], Option, Some, None, Ok, Err, length, nat_lt, if◌then◌else◌}
use Rattle.std.specs.List.{after_first, before_first, slice_split}
use Rattle.std.specs.Str.Parse.{digits_value}
use Rattle.digits_core.specs.Refusals.{refusal_words}
use Rattle.digits_core.specs.declared.refusal.RefusalKind.TheVariants as refusal
use Rattle.message_core.specs.Heads.{is_message}
use Rattle.message_core.specs.Messages.{IsMessageLine}
use Rattle.scan_core.specs.Answers.{IsAnswer}
use Rattle.scan_core.specs.declared.answer.Answer.{Answer}
use Rattle.wire_core.specs.Events.{Event, was_read, was_written}
use Rattle.wire_core.specs.Events.Event.{Read}
use Rattle.wire_core.specs.Lines.{most_line, pieces_of}
use Rattle.csv_records.specs.input.Faults.{record_fault_text}
use Rattle.csv_records.specs.lanes.Feeds.{is_lane}
use Rattle.csv_records.specs.lanes.Widths.{field_fault, widths_in}
use Rattle.command_runs.specs.answers.Reports.{numbered_line}
use Rattle.command_runs.specs.live.Answering.{AnswersBy, IsFrontBy, IsPromptBy, whole_lines}
use Rattle.command_runs.specs.live.Replies.{Meant, Reply, Told, unnumbered_line, replies_to}
use Rattle.command_runs.specs.live.Replies.Reply.{Row, Line}
use Rattle.command_runs.specs.live.Replies.Told.{Refusal, Message}
use Rattle.csv_records.specs.declared.input.fault.RecordFault.{RecordFault}
use Rattle.csv_records.specs.declared.input.fault.RecordFault.TheVariants as fault
use Rattle.command_runs.specs.declared.live.record.LineFault.{LineFault}
use Rattle.command_runs.specs.declared.live.record.LineFault.TheVariants as line_fault
use Rattle.element_core.specs.Terms.{Terms}
use Rattle.element_core.specs.declared.form.Form.{Form}

-- ---- lines

-- a line without a carriage return at its end
abbrev pub without_return : List ℕ → List ℕ
without_return [] = []
without_return (b ∷ []) = if b == 13 then [] else b ∷ []
without_return (b ∷ c ∷ line) = b ∷ without_return (c ∷ line)

-- why a line gets no ticket, as its answer says it
abbrev pub line_fault_text : LineFault → List ℕ
line_fault_text (line_fault.Record f) = record_fault_text f
line_fault_text line_fault.InputSize = refusal_words refusal.InputSize
line_fault_text line_fault.Spent = refusal_words refusal.Spent

-- a row of a lane, or the line that refuses its widths
abbrev pub row_or_line : ℕ → Option RecordFault → List ℕ → Meant
row_or_line lane None widths = Ok (lane, widths)
row_or_line lane (Some f) widths = Err (Refusal (unnumbered_line (Some lane) (record_fault_text f)))

-- what the fields of a line mean: two, a lane and the widths of a row; it is `lane_row` of csv_records, with the line that refuses the record for its fault.
-- A field that is no lane is refused as in `message_meant`.
abbrev pub fields_meant : ℕ → List (List ℕ) → Meant
fields_meant lanes (lane ∷ widths ∷ []) = if is_lane lanes lane then row_or_line (digits_value 10 lane) (field_fault widths) (widths_in widths) else Err
    (Refusal (unnumbered_line None (record_fault_text fault.BadLane)))
fields_meant lanes _ = Err (Refusal (unnumbered_line None (record_fault_text fault.Csv)))

abbrev pub is_comma : ℕ → Bool
is_comma b = b == 44

-- the fields of a line
abbrev pub fields_in : List ℕ → List (List ℕ)
fields_in line = slice_split is_comma line

-- what a lane and a message of a scanner mean: the message, or the line that refuses the lane, which is that of `fields_meant`
abbrev pub message_meant : ℕ → List ℕ → List ℕ → Meant
message_meant lanes lane text = if is_lane lanes lane then Err (Message (digits_value 10 lane) text) else Err
    (Refusal (unnumbered_line None (record_fault_text fault.BadLane)))

-- what a line that has a byte and not too many means: if a message stands behind its first comma that message, with all commas in it, and else its
-- fields
abbrev pub record_in : ℕ → List ℕ → Meant
record_in lanes line = if is_message (after_first is_comma line) then message_meant lanes (before_first is_comma line) (after_first is_comma line) else
    fields_meant lanes (fields_in line)

-- what a line means whose carriage return was cut off: nothing if it has no byte
abbrev pub text_meant : ℕ → List ℕ → Option Meant
text_meant lanes [] = None
text_meant lanes (b ∷ line) = Some (if nat_lt most_line (length (b ∷ line)) then Err (Refusal (unnumbered_line None (line_fault_text line_fault.InputSize))) else
    record_in lanes (b ∷ line))

-- what a line means
abbrev pub line_meant : ℕ → List ℕ → Option Meant
line_meant lanes line = text_meant lanes (without_return line)

-- ---- the text

-- the text reports this in the place of a row
abbrev pub IsTold : Terms → Form → Told → List ℕ → Type 0
IsTold year f (Refusal line) text = text ≡ line
IsTold year f (Message lane said) text = (words : List ℕ) × IsMessageLine f year said words × (text ≡ unnumbered_line (Some lane) words)

-- the text is the line of this reply: that of an answer to the row, or of what is reported
abbrev pub IsReply : Terms → Form → Reply → List ℕ → Type 0
IsReply year f (Row lane number widths) text = (a : Answer) × IsAnswer widths year a × (text ≡ numbered_line f lane number a)
IsReply year f (Line told) text = IsTold year f told text

-- the text answers these lines
abbrev pub Answers : ℕ → Form → Terms → List (List ℕ) → List ℕ → Type 0
Answers lanes f year lines text = AnswersBy (IsReply year f) (replies_to (line_meant lanes) lines) text

-- `IsPromptBy` with the replies to lines
abbrev pub IsPrompt : ℕ → Form → Terms → List Event → Type 0
IsPrompt lanes f year events = IsPromptBy (IsReply year f) (replies_to (line_meant lanes)) events

-- `IsFrontBy` with the replies to lines
abbrev pub IsFront : ℕ → Form → Terms → List Event → Type 0
IsFront lanes f year events = IsFrontBy (IsReply year f) (replies_to (line_meant lanes)) events

-- the last read gave nothing: the input has ended
abbrev pub HasEnded : List Event → Type 0
HasEnded events = (before : List Event) × (after : List Event) × (events ≡ before ++ Read [] ∷ after) × (was_read after ≡ [])

-- all that was read was answered, and the input has ended
abbrev pub AnsweredAll : ℕ → Form → Terms → List Event → Type 0
AnsweredAll lanes f year events = Answers lanes f year (pieces_of (was_read events)) (was_written events) × HasEnded events

-- all lines that have ended were answered, and nothing else was written
abbrev pub AnsweredWhole : ℕ → Form → Terms → List Event → Type 0
AnsweredWhole lanes f year events = Answers lanes f year (whole_lines (was_read events)) (was_written events)
