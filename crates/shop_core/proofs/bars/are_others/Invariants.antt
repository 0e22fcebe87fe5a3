use Rattle.std.proofs.Common.{◌<◌, ◌≤◌, ℕ, get_or}
use Rattle.shop_core.specs.Drawings.{IsOther}
use Rattle.shop_core.specs.declared.part.Part.{Part}
use Rattle.shop_core.proofs.bars.are_others.Given as goal

abbrev pub invariant-parts : goal.invariant-parts
invariant-parts l = (i : ℕ) (p : Part) → l.first ≤ i → i < l.k → IsOther l.bearers l.zone (get_or l.parts i p)
