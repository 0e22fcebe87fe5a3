use Rattle.std.proofs.Common.{◌<◌, ℕ, length, get_or}
use Rattle.shop_core.specs.Drawings.{LieApart}
use Rattle.shop_core.specs.declared.part.Part.{Part}
use Rattle.shop_core.proofs.drawing.lie_apart.Given as goal

abbrev pub invariant-parts : goal.invariant-parts
invariant-parts l = (i j : ℕ) (d : Part) → i < l.k → i < j → j < length l.parts → LieApart (get_or l.parts i d) (get_or l.parts j d)
