-- Without a mark, a quote and a return inside a line a text is plain.
use Rattle.command_runs.proofs.answers.PlainBytes.{plain_if}
use Rattle.command_runs.proofs.answers.lines.are_plain.Goals as goal

pub returns-then-not-may_have_mark : goal.returns-then-not-may_have_mark
returns-then-not-may_have_mark c = λ is.
    plain_if c.args.bytes.now (c.may_have_mark.ensures c.if-not-may_have_mark.true) (c.are_lines.ensures.quotes is) (c.are_lines.ensures.returns is)
