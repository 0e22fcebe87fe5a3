-- An element at the front of a text, and those behind it.
use Rattle.std.specs.Prelude.{List, [], ◌∷◌, Option, Some, None}
use Rattle.element_core.specs.Elements.{Entry}
use Rattle.element_core.specs.Shown.{shown_elements}
use Rattle.element_core.specs.declared.walk.Seen.{Seen}

-- the element
abbrev pub entry_seen : Seen → Entry
entry_seen s = record { ai = s.ai.now; value = s.value.now }

-- the element and those of the rest
abbrev pub elements_seen : Option Seen → List Entry
elements_seen None = []
elements_seen (Some s) = entry_seen s ∷ shown_elements s.rest.now
