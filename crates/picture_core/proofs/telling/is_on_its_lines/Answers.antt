use Rattle.std.proofs.Common.{Option, subst, sym}
use Rattle.std.specs.Prelude.{IsSomeAnd}
use Rattle.picture_core.specs.Told.{AreOnLines}
use Rattle.picture_core.specs.declared.seen_line.SeenLines.{SeenLines}
use Rattle.picture_core.proofs.telling.is_on_its_lines.Goals as goal

pub returns-in-Some : goal.returns-in-Some
returns-in-Some c = λ yes. subst (λ (lines : Option SeenLines). IsSomeAnd lines (AreOnLines c.args.picture.now c.args.year c.args.symbol.now))
    (sym c.in-Some.is) (c.are_on_lines.ensures yes)
