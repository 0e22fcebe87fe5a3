-- What answers the lines of an input, and what the reads and writes of a wire show of it.
use Rattle.std.specs.Prelude.{◌≡◌, ◌++◌, ◌-◌, ◌∷◌, ℕ, List, length, take}
use Rattle.std.specs.List.{AllZip, concat}
use Rattle.wire_core.specs.Events.{Event, was_read, was_written}
use Rattle.wire_core.specs.Events.Event.{Read}
use Rattle.wire_core.specs.Lines.{pieces_of}

-- the lines of these bytes that have ended
abbrev pub whole_lines : List ℕ → List (List ℕ)
whole_lines bytes = take (length (pieces_of bytes) - 1) (pieces_of bytes)

-- the text has a line for each of the records, in their order; L says which texts are the line of a record
abbrev pub AnswersBy : {X : Type 0} → (X → List ℕ → Type 0) → List X → List ℕ → Type 0
AnswersBy L records text = (texts : List (List ℕ)) × AllZip L records texts × (text ≡ concat texts)

-- the text is a front of the lines of the records, by the first of them
abbrev pub BeginsBy : {X : Type 0} → (X → List ℕ → Type 0) → List X → List ℕ → Type 0
BeginsBy {X} L records text = (first : List X) × (later : List X) × (texts : List (List ℕ)) × (rest : List ℕ) × (records ≡ first ++ later)
    × AllZip L first texts × (concat texts ≡ text ++ rest)

-- at each read the lines of all records that had ended were written, and nothing else
abbrev pub IsPromptBy : {X : Type 0} → (X → List ℕ → Type 0) → (List (List ℕ) → List X) → List Event → Type 0
IsPromptBy L records events = (before after : List Event) (bytes : List ℕ) → events ≡ before ++ Read bytes ∷ after
    → AnswersBy L (records (whole_lines (was_read before))) (was_written before)

-- at each moment what was written is a front of the lines that answer what was read
abbrev pub IsFrontBy : {X : Type 0} → (X → List ℕ → Type 0) → (List (List ℕ) → List X) → List Event → Type 0
IsFrontBy L records events = (before after : List Event) → events ≡ before ++ after → BeginsBy L (records (pieces_of (was_read before))) (was_written before)
