-- How elements are collected from a text.
use Rattle.std.specs.Prelude.{◌≡◌, ◌++◌, Bool, true, false, List}
use Rattle.element_core.specs.Elements.{Entry}
use Rattle.message_core.specs.Links.{fits}

-- the elements that are collected
pub record Collected : Type 0 where
  pub list : List Entry

-- entries are put behind others, or would not fit
abbrev pub Puts : Bool → List Entry → List Entry → List Entry → Type 0
Puts true old new es = new ≡ old ++ es
Puts false old new es = fits (old ++ es) ≡ false
