use Rattle.std.proofs.Common.{subst}
use Rattle.picture_core.specs.Lines.{IsBefore}
use Rattle.picture_core.specs.Told.{IsOnLine}
use Rattle.picture_core.proofs.telling.are_on_lines.Goals as goal

pub returns : goal.returns
returns c = λ yes. record {
  first = c.is_on_line.ensures (cc);
  second = subst (IsOnLine c.args.picture.now c.args.year c.args.symbol.now) c.second-second.ensures (c.is_on_line-2.ensures yes);
  two = subst (IsBefore c.args.lines.now.first) c.second-second.ensures (c.is_before.ensures (cc));
}
