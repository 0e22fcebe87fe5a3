use Rattle.std.proofs.Common.{arith}
use Rattle.std.proofs.lemmas.Grind.{common_steps}
use Rattle.wire_core.proofs.FirstFeed.{first_feed_at, no_first_feed}
use Rattle.wire_core.proofs.lines.first_line.Goals as goal

pub returns-in-Some-clause-some : goal.returns-in-Some-clause-some
returns-in-Some-clause-some c =
    let at = first_feed_at c.args.bytes.now c.in-Some.end c.in-Some.ensures in
    grind (arith, common_steps, at.0, at.1)

pub returns-in-None-clause-some : goal.returns-in-None-clause-some
returns-in-None-clause-some c =
    let none = no_first_feed c.args.bytes.now c.in-None.ensures in
    grind (arith, common_steps, none, c.if-are_last.true)

pub returns-in-None-2-clause-none : goal.returns-in-None-2-clause-none
returns-in-None-2-clause-none c =
    let none = no_first_feed c.args.bytes.now c.in-None-2.ensures in
    grind (arith, common_steps, none, c.if-are_last.false)
