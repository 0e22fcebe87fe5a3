use Rattle.std.proofs.Common.{subst}
use Rattle.picture_core.specs.Places.{IsOn}
use Rattle.picture_core.proofs.telling.is_on_line.Goals as goal

pub returns-in-Some : goal.returns-in-Some
returns-in-Some c = λ yes. record {
  dot = c.in-Some.dot;
  shown = c.in-Some.ensures;
  on = subst (IsOn c.args.symbol.now.corners) c.place_at.ensures (c.hold.ensures.0 yes);
}
