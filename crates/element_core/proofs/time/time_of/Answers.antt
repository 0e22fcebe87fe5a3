use Rattle.std.proofs.Common.{◌≡◌, sym, false, true, rules}
use Rattle.element_core.specs.Times.{is_time_text}
use Rattle.element_core.proofs.TimeLemmas.{time_of-other, time_of-text}
use Rattle.element_core.proofs.time.time_of.Goals as goal

pub returns-then-not-is_time_text : goal.returns-then-not-is_time_text
returns-then-not-is_time_text c =
    let no : is_time_text c.args.text.now ≡ false = search rules in
    sym (time_of-other c.args.text.now no)

pub returns : goal.returns
returns c =
    let yes : is_time_text c.args.text.now ≡ true = search rules in
    rw (time_of-text c.args.text.now yes, ← c.two_or_zero.ensures.value, ← c.two_or_zero-2.ensures.value, ← c.two_or_zero-3.ensures.value) c.time_in.ensures
