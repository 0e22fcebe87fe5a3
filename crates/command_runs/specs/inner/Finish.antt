-- Whether a live input has been answered whole (`live/input.rt`).
use Rattle.std.specs.Prelude.{◌==◌, ◌&&◌, Bool, is_none, length}
use Rattle.wire_core.specs.Lines.{held_line}
use Rattle.command_runs.specs.declared.live.input.Live.{Live}

-- the input has ended, no line of it is left, each record is answered, and nothing has stopped
abbrev pub is_finished : {W : Type 0} → Live W → Bool
is_finished s = s.lines.has_ended && (is_none (held_line s.lines) && (length s.replies.items == 0 && is_none s.stopped))
