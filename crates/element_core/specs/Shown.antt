-- The elements that stand in a text, whatever their values are (GS1 General Specifications, section 7.8).
use Rattle.std.specs.Prelude.{ℕ, zero, suc, List, [], ◌∷◌, length, drop, Option, Some, None}
use Rattle.element_core.specs.Table.{Row, row_at}
use Rattle.element_core.specs.Elements.{Entry, field_of, value_in}
use Rattle.element_core.specs.Fronts.{after_separator}

-- the value after an AI of this row
abbrev pub shown_value : Row → List ℕ → List ℕ
shown_value row text = value_in row (field_of (drop (length row.ai) text))

-- what is after the value and its separator
abbrev pub shown_rest : Row → List ℕ → List ℕ
shown_rest row text = after_separator (drop (length (shown_value row text)) (drop (length row.ai) text))

-- the element at the front of a text that begins with the AI of this row
abbrev pub shown_entry : Row → List ℕ → Entry
shown_entry row text = record { ai = row.ai; value = shown_value row text }

-- the element at the front and what is said of the rest; none if no AI of the table stands there
abbrev pub shown_by : (List ℕ → List Entry) → List ℕ → Option Row → List Entry
shown_by more text None = []
shown_by more text (Some row) = shown_entry row text ∷ more (shown_rest row text)

-- the first elements of a text, this many at most
abbrev pub shown_in : ℕ → List ℕ → List Entry
shown_in zero text = []
shown_in (suc n) text = shown_by (shown_in n) text (row_at text)

-- the elements of a text, which are no more than its bytes: one after another up to its end, or to where
-- no AI of the table stands
unfoldable pub shown_elements : List ℕ → List Entry
shown_elements text = shown_in (length text) text
