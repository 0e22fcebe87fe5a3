-- The front of a text as the code has it.
use Rattle.std.specs.Prelude.{◌≡◌, ◌<◌, ℕ, List, [], ◌∷◌, Option, Some, None, All}
use Rattle.std.specs.List.{AllByRecursion}
use Rattle.element_core.specs.declared.front.Front.{Front}
use Rattle.element_core.specs.Table.{row_at}
use Rattle.element_core.specs.Elements.{Entry}
use Rattle.element_core.specs.inner.Families.{row_with}
use Rattle.element_core.specs.Shown.{shown_value, shown_rest, shown_elements}

-- the text begins with the AI of this row, its value and its separator
pub record IsFrontOfText (text : List ℕ) (f : Front) : Type 0 where
  pub row : row_at text ≡ Some (row_with f.family text)
  pub ai : f.ai.now ≡ (row_with f.family text).ai
  pub value : f.value.now ≡ shown_value (row_with f.family text) text
  pub rest : f.rest.now ≡ shown_rest (row_with f.family text) text

-- the element at the front
abbrev pub front_entry : Front → Entry
front_entry f = record { ai = f.ai.now; value = f.value.now }

-- the element at the front, and those of the rest
abbrev pub elements_from : Option Front → List Entry
elements_from None = []
elements_from (Some f) = front_entry f ∷ shown_elements f.rest.now

-- each AI and each value is ASCII
abbrev pub AreAscii : List Entry → Type 0
AreAscii es = AllByRecursion (λ e. All (λ b. b < 128) e.ai × All (λ b. b < 128) e.value) es
