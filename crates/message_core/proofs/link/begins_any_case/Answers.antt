-- A text that ends within the small letters does not begin with them.
use Rattle.std.proofs.Common.{◌∙◌, sym}
use Rattle.message_core.proofs.LinkFacts.{ended}
use Rattle.message_core.proofs.link.begins_any_case.Goals as goal

pub returns-then-i-text : goal.returns-then-i-text
returns-then-i-text c = sym (ended c.args.small.now c.args.text.now c.loop-i.i c.loop-i-test.true c.if-i-text.true) ∙ c.loop-i.invariant
