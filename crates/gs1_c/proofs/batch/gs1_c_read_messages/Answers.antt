use Rattle.std.proofs.Common.{subst}
use Rattle.answer_core.specs.Lines.{AreLinesAnswered}
use Rattle.answer_core.specs.declared.lines.LineKind.TheVariants as kind
use Rattle.gs1_c.proofs.batch.gs1_c_read_messages.Goals as goal

pub returns : goal.returns
returns c =
    let done = c.read_lines-answered in
    subst (λ terms. AreLinesAnswered kind.Message terms c.args.text.now c.args.answers.now done.new.answers done.result.count done.result.used)
    c.terms_of.ensures done.ensures
