-- Conflicts that are added one after another.
use Rattle.std.specs.Prelude.{◌≡◌, ◌+◌, ℕ, List, [], ◌∷◌, length, min, set}
use Rattle.answer_core.specs.declared.conflict.Conflict.{Conflict}

-- a list with others in it from a place on, as many as it has room for
abbrev pub with_added : List Conflict → ℕ → List Conflict → List Conflict
with_added old at [] = old
with_added old at (c ∷ cs) = with_added (set old at c) (at + 1) cs

-- these are added at a place, as many as there is room for, and end before another
pub record AreAdded (cs : List Conflict) (at : ℕ) (old new : List Conflict) (end : ℕ) : Type 0 where
  pub put : new ≡ with_added old at cs
  pub counted : end ≡ min (at + length cs) (length old)
