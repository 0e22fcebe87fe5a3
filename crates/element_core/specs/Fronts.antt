-- Element strings read from the left, element by element (GS1 General Specifications, section 7.8).
use Rattle.std.specs.Prelude.{◌≡◌, ◌↔◌, ℕ, Bool, true, ◌||◌, List, [], ◌∷◌, ◌++◌, IsTrue, ◌==◌, if◌then◌else◌}
use Rattle.element_core.specs.Terms.{Terms, rows_by}
use Rattle.element_core.specs.Table.{Row}
use Rattle.element_core.specs.Elements.{Entry, IsElement, ReadsElements}

-- a text that is empty or begins with a separator
abbrev pub ends_element : List ℕ → Bool
ends_element [] = true
ends_element (b ∷ text) = b == 29

-- the text without the one separator that may stand first
abbrev pub after_separator : List ℕ → List ℕ
after_separator [] = []
after_separator (b ∷ text) = if b == 29 then text else b ∷ text

-- the text is the element, at most one separator, and the rest; without one it ends there or the length is predefined
pub record Begins (year : Terms) (e : Entry) (text rest : List ℕ) : Type 0 where
  pub row : Row
  pub element : IsElement (rows_by year) year.year row e
  pub after : List ℕ
  pub text_is : text ≡ e.ai ++ e.value ++ after
  pub closed : IsTrue (row.predefined || ends_element after)
  pub rest_is : rest ≡ after_separator after

-- the text begins with these elements, one after another, and goes on with the rest
abbrev pub ReadsFromLeft : Terms → List ℕ → List Entry → List ℕ → Type 0
ReadsFromLeft year text [] rest = text ≡ rest
ReadsFromLeft year text (e ∷ es) rest = (mid : List ℕ) × Begins year e text mid × ReadsFromLeft year mid es rest

-- joined pieces are what is read from the left, element by element
abbrev pub ReadsPieces : Type 0
ReadsPieces = (year : Terms) (text : List ℕ) (es : List Entry) (rest : List ℕ)
    → ReadsElements (rows_by year) year.year text es rest ↔ ReadsFromLeft year text es rest
