-- What was looked at up to a place has no quote, and no carriage return inside a line.
use Rattle.std.proofs.Common.{None, Some, arith, length-drop, subst}
use Rattle.memchr.specs.Find.{IsFirstByte, is_byte2}
use Rattle.command_runs.proofs.answers.PlainBytes.{no_more_quotes, no_more_returns, one_more_return, one_more_unquoted}
use Rattle.std.proofs.lemmas.List.{take_rest}
use Rattle.command_runs.proofs.answers.lines.are_lines.Goals as goal

pub returns-in_default-clause-quotes : goal.returns-in_default-clause-quotes
returns-in_default-clause-quotes c = λ _.
    no_more_quotes c.args.bytes.now c.each.from c.each.invariant.quotes
    (subst (λ hay. IsFirstByte (is_byte2 13 34) hay None) (take_rest c.args.bytes.now c.each.from) c.in_default.ensures)

pub returns-in_default-clause-returns : goal.returns-in_default-clause-returns
returns-in_default-clause-returns c = λ _.
    no_more_returns c.args.bytes.now c.each.from c.each.invariant.end
    (subst (λ hay. IsFirstByte (is_byte2 13 34) hay None) (take_rest c.args.bytes.now c.each.from) c.in_default.ensures)

pub each-preserved : goal.each-preserved
each-preserved c =
    let bytes = c.args.bytes.now in
    let found = subst (λ hay. IsFirstByte (is_byte2 13 34) hay (Some c.in-Some.at)) (take_rest bytes c.each.from) c.in-Some.ensures in
    let high = found.0.high in
    let here = c.is_return.ensures c.if-not-is_return.false in
    record {
      quotes = one_more_unquoted bytes c.each.from c.in-Some.at c.each.invariant.quotes found here.0;
      end = one_more_return bytes c.each.from c.in-Some.at c.each.invariant.end found here.1;
      low = omega (arith, high, length-drop c.each.from bytes);
    }
