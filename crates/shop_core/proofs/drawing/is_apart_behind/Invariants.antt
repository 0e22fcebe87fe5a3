use Rattle.std.proofs.Common.{◌<◌, ℕ, get_or}
use Rattle.shop_core.specs.Drawings.{LieApart}
use Rattle.shop_core.specs.declared.part.Part.{Part}
use Rattle.shop_core.proofs.drawing.is_apart_behind.Given as goal

abbrev pub invariant-parts : goal.invariant-parts
invariant-parts l = (j : ℕ) (d : Part) → l.place < j → j < l.k → LieApart (get_or l.parts l.place d) (get_or l.parts j d)
