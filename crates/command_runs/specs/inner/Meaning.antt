-- Records as they are read of lines (`live/record.rt`).
use Rattle.std.specs.Prelude.{◌≡◌, ◌<◌, ℕ, List, Option, Some, None, Ok, Err, true, false, length}
use Rattle.wire_core.specs.Lines.{Held, held_line}
use Rattle.command_runs.specs.live.Replies.{Meant, Told, unnumbered_line}
use Rattle.command_runs.specs.live.Replies.Told.{Refusal, Message}
use Rattle.command_runs.specs.live.Text.{line_fault_text, line_meant}
use Rattle.command_runs.specs.declared.live.record.LineFault.TheVariants as line_fault
use Rattle.command_runs.specs.declared.live.record.Notice.{Notice}
use Rattle.command_runs.specs.declared.live.record.Notice.TheVariants as notice
use Rattle.command_runs.specs.declared.live.record.Record.{Record}
use Rattle.command_runs.specs.declared.live.record.Record.TheVariants as read

-- what is reported by a notice
abbrev pub told_of : Notice → Told
told_of (notice.Message lane text) = Message lane text.items
told_of (notice.Refused lane fault) = Refusal (unnumbered_line lane (line_fault_text fault))

-- the record is what a line means
abbrev pub IsRecord : ℕ → Record → Option Meant → Type 0
IsRecord lanes read.Blank m = m ≡ None
IsRecord lanes (read.Row lane row) m = (m ≡ Some (Ok (lane, row))) × (lane < lanes)
IsRecord lanes (read.Notice n) m = m ≡ Some (Err (told_of n))

-- the record means this
abbrev pub ReadAs : ℕ → Meant → Record → Type 0
ReadAs lanes m found = IsRecord lanes found (Some m)

-- a line is held, this many bytes of it, and this is the record that it means; if its front was given up, that it is too long
abbrev pub HoldsRecord : ℕ → Held → ℕ → Record → Type 0
HoldsRecord lanes h count r = (found : List ℕ) × (held_line h ≡ Some found) × (length found ≡ count)
    × (h.is_cut ≡ false → IsRecord lanes r (line_meant lanes found))
    × (h.is_cut ≡ true → r ≡ read.Notice (notice.Refused None line_fault.InputSize))

-- no line is held, or this many bytes of one that means this record
abbrev pub HoldsNext : ℕ → Held → Option (ℕ × Record) → Type 0
HoldsNext lanes h None = held_line h ≡ None
HoldsNext lanes h (Some found) = HoldsRecord lanes h found.0 found.1

-- a line is held that means this record
abbrev pub IsHeld : ℕ → Held → Record → Type 0
IsHeld lanes h r = (count : ℕ) × HoldsRecord lanes h count r
