use Rattle.std.proofs.Common.{drop}
use Rattle.code128_code.specs.inner.Steps.{change, coded_on}
use Rattle.code128_code.proofs.FrontFacts.{changed_more, letter_front, one_more, pair_front, separator_coded}
use Rattle.code128_code.proofs.coding.put_front.Goals as goal

pub returns-then-text-eq-SEPARATOR-clause-whole : goal.returns-then-text-eq-SEPARATOR-clause-whole
returns-then-text-eq-SEPARATOR-clause-whole c =
    let coder = c.args.coder.now in
    let text = c.args.text.now in
    one_more coder.values.items (coded_on coder.in_c (drop 1 text)) (coded_on coder.in_c text) c.push.new.self.items 102 c.push.ensures.items
    (separator_coded coder.in_c text c.requires.some c.if-text-eq-SEPARATOR.true)

pub returns-then-in_c-clause-whole : goal.returns-then-in_c-clause-whole
returns-then-in_c-clause-whole c =
    let coder = c.args.coder.now in
    let text = c.args.text.now in
    let changed = c.change_to.new.coder in
    let to_c = c.takes_pair-in_c.result in
    changed_more coder.values.items (coded_on changed.in_c (drop 2 text)) (coded_on coder.in_c text) (change coder.in_c to_c) changed.values.items
    c.push-then-in_c.new.self.items _
    c.change_to.ensures.values c.push-then-in_c.ensures.items
    (pair_front coder.in_c to_c changed.in_c text _ c.takes_pair-in_c.ensures c.if-in_c.true c.change_to.ensures.set c.if-text-eq-SEPARATOR.false
    c.pair_at_front.ensures)

pub returns-clause-whole : goal.returns-clause-whole
returns-clause-whole c =
    let coder = c.args.coder.now in
    let text = c.args.text.now in
    let changed = c.change_to.new.coder in
    let to_c = c.takes_pair-in_c.result in
    changed_more coder.values.items (coded_on changed.in_c (drop 1 text)) (coded_on coder.in_c text) (change coder.in_c to_c) changed.values.items
    c.push-2.new.self.items _
    c.change_to.ensures.values c.push-2.ensures.items
    (letter_front coder.in_c to_c changed.in_c text c.takes_pair-in_c.ensures c.if-in_c.false c.change_to.ensures.set c.requires.some
    c.if-text-eq-SEPARATOR.false)
