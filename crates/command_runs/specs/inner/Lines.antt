-- The lines of what is held of a plain text, one after another (`answers/lines.rt`, `answers/row_reader.rt`).
use Rattle.std.specs.Prelude.{◌≡◌, ◌<◌, ◌+◌, ℕ, List, [], ◌∷◌, ◌==◌, drop, length, slice_index_or, take, if◌then◌else◌}
use Rattle.command_runs.specs.live.Laws.{has_byte, record_lines}
use Rattle.command_runs.specs.live.Text.{without_return}

-- a line before others, if it has a byte
abbrev pub with_line : List ℕ → List (List ℕ) → List (List ℕ)
with_line line lines = if has_byte line then line ∷ lines else lines

-- where a line begins: behind the line feed of the line before it, if that is held
abbrev pub line_start : List ℕ → ℕ
line_start [] = 0
line_start (b ∷ bytes) = if b == 10 then 1 else 0

-- all that is held from there on, which is the last line if no line feed follows, without its carriage return
abbrev pub last_of : List ℕ → List ℕ
last_of bytes = without_return (drop (line_start bytes) bytes)

-- one line at most is held, and no line feed ends it; the first byte may be the line feed of the line before it
abbrev pub IsLastLine : List ℕ → Type 0
IsLastLine bytes = record_lines bytes ≡ with_line (last_of bytes) []

-- a carriage return stands at this place, and a line feed or no byte after it
abbrev pub IsReturnAt : List ℕ → ℕ → Type 0
IsReturnAt bytes place = (slice_index_or bytes place 0 ≡ 13) × (place + 1 < length bytes → slice_index_or bytes (place + 1) 0 ≡ 10)

-- a line feed stands at this place, and before it these bytes have one line that has a byte, this one without its carriage return; or none, and it is empty
pub record IsLineTo (bytes line : List ℕ) (end : ℕ) : Type 0 where
  pub cut : record_lines (take end bytes) ≡ with_line line []
  pub feed : drop end bytes ≡ 10 ∷ drop (end + 1) bytes
  pub some : 0 < end
  pub low : end < length bytes
