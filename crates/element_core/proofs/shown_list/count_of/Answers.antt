use Rattle.std.proofs.Common.{ap, arith, length}
use Rattle.element_core.proofs.Listed.{shown_few}
use Rattle.element_core.proofs.shown_list.count_of.Goals as goal

pub overflow_add-count : goal.overflow_add-count
overflow_add-count c =
    let i = c.loop-front.invariant in
    omega (arith, shown_few c.args.text.now, ap length c.in-Some.ensures.elements)
