use Rattle.std.proofs.Common.{◌∷◌, ◌∙◌, ap, sym}
use Rattle.std.specs.Str.Lines.{lines}
use Rattle.answer_core.proofs.LineByLine.{one_line}
use Rattle.answer_core.proofs.lines.first_line.Goals as goal

pub returns-in-Some-clause-lines : goal.returns-in-Some-clause-lines
returns-in-Some-clause-lines c =
    one_line c.args.text.now c.in-Some.line.now c.in-Some.rest.now c.in-Some.ensures.parts
    ∙ ap (λ line. line ∷ lines c.in-Some.rest.now) (sym c.without_return.ensures)
