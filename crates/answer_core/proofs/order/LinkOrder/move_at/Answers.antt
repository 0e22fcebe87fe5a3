use Rattle.std.proofs.Common.{arith}
use Rattle.answer_core.specs.Places.{entry_at}
use Rattle.answer_core.proofs.MovedPlaces.{moved_as, stays}
use Rattle.answer_core.proofs.order.LinkOrder.move_at.Goals as goal

pub returns-then-index-len-clause-moved : goal.returns-then-index-len-clause-moved
returns-then-index-len-clause-moved c =
    let order = c.args.self.now in
    moved_as (entry_at c.args.text.now) order.path.items order.query.items c.args.index c.remove-place.result c.remove-place.ensures.value
    (let low = c.if-index-len.true in omega (arith, low, c.len.ensures.value))
    c.push.new.self.items c.remove-place.new.self.items c.push.ensures.items c.remove-place.ensures.items

pub returns-else-index-len-clause-moved : goal.returns-else-index-len-clause-moved
returns-else-index-len-clause-moved c =
    let order = c.args.self.now in
    stays (entry_at c.args.text.now) order.path.items order.query.items c.args.index (let past = c.if-index-len.false in omega (arith, past, c.len.ensures.value))
