-- Elements that are taken while a text is read.
use Rattle.std.specs.Prelude.{◌≤◌, List, ℕ, length}
use Rattle.element_core.specs.Elements.{Entry}
use Rattle.element_core.specs.Fronts.{Begins, ReadsFromLeft}
use Rattle.element_core.specs.Terms.{Terms}

-- the element stands next in a text, whose elements before it have been taken
pub record IsNext {S : Type 0} (Holds : S → List Entry → Type 0) (taken : S) (e : Entry) : Type 0 where
  pub year : Terms
  pub text : List ℕ
  pub list : List Entry
  pub mid : List ℕ
  pub rest : List ℕ
  pub fits : length text ≤ 192
  pub reads : ReadsFromLeft year text list mid
  pub begins : Begins year e mid rest
  pub holds : Holds taken list
