-- What callers see of a list of elements.
use Rattle.element_core.specs.declared.elements.Elements.TheInside.{Inside}
use Rattle.element_core.specs.Elements.{Listing}
use Rattle.element_core.specs.Shown.{shown_elements}

-- the year, and the elements that stand in the text
abbrev pub listing : Inside → Listing
listing s = record { year = s.year; list = shown_elements s.text.items }
