use Rattle.std.proofs.Common.{◌≡◌, ◌∙◌, List, ap, arith, map, take}
use Rattle.std.proofs.lemmas.Grind.{common_steps}
use Rattle.element_core.specs.Elements.{Entry}
use Rattle.answer_core.specs.Conflicts.{conflicts}
use Rattle.answer_core.specs.Formats.{entries_in}
use Rattle.answer_core.specs.Places.{entry_at}
use Rattle.answer_core.specs.inner.Conflicts.{with_added}
use Rattle.answer_core.proofs.Adding.{with_added_front}
use Rattle.answer_core.proofs.answer.Answer.conflicts.Goals as goal

pub returns-clause-front : goal.returns-clause-front
returns-clause-front c =
    let a = c.args.self.now in
    let es : List Entry = map (entry_at (take c.min-length.result a.text)) (take c.min-count.result a.elements) in
    let is : es ≡ entries_in a = grind (arith, common_steps) in
    c.add_all.ensures.put ∙ ap (λ (fs : List Entry). with_added c.args.out.now 0 (conflicts fs)) is ∙ with_added_front c.args.out.now (conflicts (entries_in a))
