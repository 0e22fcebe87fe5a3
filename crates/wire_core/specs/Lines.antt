-- The lines of an input, and what is held of it while it comes in pieces.
use Rattle.std.specs.Prelude.{◌≡◌, ◌<◌, ◌⊎◌, ◌==◌, ◌&&◌, ◌||◌, ◌+◌, ◌++◌, ◌∷◌, ℕ, Bool, true, false, nat_lt, All, List, [], Option, Some, None, length, if◌then◌else◌}
use Rattle.std.specs.List.{after_first, before_first, flat_map, position_or_len, slice_split}

-- a line feed
abbrev pub is_feed : ℕ → Bool
is_feed b = b == 10

-- the pieces between line feeds: the lines that have ended, and then the last, which has not
abbrev pub pieces_of : List ℕ → List (List ℕ)
pieces_of bytes = slice_split is_feed bytes

-- as many bytes as a line has at most
abbrev pub most_line : ℕ
most_line = 65536

-- What is held of an input: the bytes that came and were not taken, whether the front of their first line was given up for its length, and whether
-- the input has ended. It is the model of `Lines` (src/lines.rt); clap has a `Held` of its own, and `HeldInput` of command_runs is another reader.
pub record Held : Type 0 where
  pub rest : List ℕ
  pub is_cut : Bool
  pub has_ended : Bool

-- nothing has come
abbrev pub nothing_held : Held
nothing_held = record { rest = []; is_cut = false; has_ended = false }

-- the bytes before the first line feed, if there is one, or if these are the last bytes of the input
abbrev pub first_line : List ℕ → Bool → Option (List ℕ)
first_line bytes are_last = if nat_lt (position_or_len is_feed bytes) (length bytes) || are_last then Some (before_first is_feed bytes) else None

-- whether these are the last bytes of the input, and there is one of their line
abbrev pub are_last : Held → Bool
are_last h = h.has_ended && (h.is_cut || nat_lt 0 (length h.rest))

-- the next line except a front that was given up
abbrev pub held_line : Held → Option (List ℕ)
held_line h = first_line h.rest (are_last h)

-- the line was taken, with its line feed
abbrev pub without_line : Held → Held
without_line h = record { rest = after_first is_feed h.rest; is_cut = false; has_ended = h.has_ended }

-- whether what is held of a line that has not ended is too much for a line: one byte more may be a carriage return
abbrev pub is_too_long : Held → Bool
is_too_long h = h.is_cut || nat_lt (most_line + 1) (length h.rest)

-- the front of a line that is too long is given up
abbrev pub with_room : Held → Held
with_room h = record { rest = if is_too_long h then [] else h.rest; is_cut = is_too_long h; has_ended = h.has_ended }

-- a read gave these bytes, and none at the end of the input
abbrev pub arrived : Held → List ℕ → Held
arrived h bytes = record { rest = (with_room h).rest ++ bytes; is_cut = is_too_long h; has_ended = length bytes == 0 }

-- ---- what was taken of all that came

-- no byte is a line feed
abbrev pub HasNoFeed : List ℕ → Type 0
HasNoFeed bytes = All (λ b. is_feed b ≡ false) bytes

-- each line with its line feed
abbrev pub ended_lines : List (List ℕ) → List ℕ
ended_lines lines = flat_map (λ line. line ++ 10 ∷ []) lines

-- of these bytes these lines were taken, each with its line feed, and the rest is held except for the front of a line that is too long
pub record AreTaken (bytes : List ℕ) (lines : List (List ℕ)) (h : Held) : Type 0 where
  pub front : List ℕ
  pub whole : bytes ≡ ended_lines lines ++ (front ++ h.rest)
  pub each : All HasNoFeed lines
  pub none : HasNoFeed front
  pub all : h.is_cut ≡ false → front ≡ []
  pub long : h.is_cut ≡ true → most_line + 1 < length front

-- of these bytes all pieces were taken, the last without a line feed
pub record AreAllTaken (bytes : List ℕ) (lines : List (List ℕ)) (h : Held) : Type 0 where
  pub pieces : pieces_of bytes ≡ lines
  pub rest : h.rest ≡ []
  pub whole : h.is_cut ≡ false
  pub ended : h.has_ended ≡ true

-- of these bytes these lines were taken
abbrev pub TakesLines : List ℕ → List (List ℕ) → Held → Type 0
TakesLines bytes lines h = AreTaken bytes lines h ⊎ AreAllTaken bytes lines h

-- a line that was found, its front being known to be too long if it was given up
abbrev pub IsLine : Held → List ℕ → List ℕ → Type 0
IsLine h found line = (h.is_cut ≡ false → line ≡ found) × (h.is_cut ≡ true → most_line + 1 < length line)

-- the law of src/laws.rt: however an input is cut into pieces, the lines that are taken of it are those between its line feeds
pub record LinesArePieces : Type 0 where
  -- at first nothing has come
  pub first : TakesLines [] [] nothing_held
  -- a line is taken
  pub taken : (bytes : List ℕ) (lines : List (List ℕ)) (h : Held) (found : List ℕ) → TakesLines bytes lines h → held_line h ≡ Some found
      → (line : List ℕ) × IsLine h found line × TakesLines bytes (lines ++ line ∷ []) (without_line h)
  -- more comes, if no line is held and the input has not ended
  pub more : (bytes more : List ℕ) (lines : List (List ℕ)) (h : Held) → TakesLines bytes lines h → held_line h ≡ None → h.has_ended ≡ false
      → TakesLines (bytes ++ more) lines (arrived h more)
  -- a read fails, after room was made for it
  pub room : (bytes : List ℕ) (lines : List (List ℕ)) (h : Held) → TakesLines bytes lines h → held_line h ≡ None → h.has_ended ≡ false
      → TakesLines bytes lines (with_room h)
  -- the lines that were taken are the first pieces
  pub begins : (bytes : List ℕ) (lines : List (List ℕ)) (h : Held) → TakesLines bytes lines h
      → (later : List (List ℕ)) × (pieces_of bytes ≡ lines ++ later)
  -- if no line is held and the input has not ended they are all but the last
  pub even : (bytes : List ℕ) (lines : List (List ℕ)) (h : Held) → TakesLines bytes lines h → held_line h ≡ None → h.has_ended ≡ false
      → (last : List ℕ) × (pieces_of bytes ≡ lines ++ last ∷ [])
  -- at its end they are all pieces except a last one without a byte
  pub ended : (bytes : List ℕ) (lines : List (List ℕ)) (h : Held) → TakesLines bytes lines h → held_line h ≡ None → h.has_ended ≡ true
      → (pieces_of bytes ≡ lines) ⊎ (pieces_of bytes ≡ lines ++ [] ∷ [])
