use Rattle.std.proofs.Common.{◌≡◌, ◌+◌, ◌≤◌}
use Rattle.picture_core.specs.Pictures.{side_up_to}
use Rattle.picture_core.proofs.layout.side_of.Given as goal

abbrev pub invariant-sides : goal.invariant-sides
invariant-sides l = record {
  so_far : l.side ≡ side_up_to l.dots l.more;
  some : 8 ≤ l.side;
  few : l.side ≤ 8 + l.more;
}
