use Rattle.std.proofs.Common.{◌≡◌, ◌∙◌, ◌-◌, ap, arith, drop, false, length, length-drop, sym}
use Rattle.std.proofs.lemmas.List.{take_all}
use Rattle.answer_core.specs.Printed.{begins_marked}
use Rattle.answer_core.proofs.MarkFacts.{before_step}
use Rattle.answer_core.proofs.printed.before_mark.Goals as goal

pub loop-i-preserved : goal.loop-i-preserved
loop-i-preserved c =
    let text = c.args.text.now in
    let i = c.loop-i.i in
    let none : begins_marked c.args.marks (drop i text) ≡ false =
    ap (begins_marked c.args.marks) (sym (take_all (length text - i) (drop i text) (omega (arith, length-drop i text))))
    ∙ sym c.begins_marked.ensures ∙ c.if-begins_marked.false in
    before_step c.args.marks text i c.loop-i-test.true none ∙ c.loop-i.invariant
