use Rattle.std.proofs.Common.{◌≡◌, ◌++◌, drop, map, take}
use Rattle.gs1_c.specs.Drawn.{lent_part}
use Rattle.gs1_c.proofs.drawing.write_parts.Given as goal

abbrev pub invariant-parts : goal.invariant-parts
invariant-parts l = l.out ≡ map lent_part (take l.k l.parts) ++ drop l.k l.fn.out
