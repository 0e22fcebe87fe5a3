use Rattle.std.proofs.Common.{◌∙◌, ◌+◌, ℕ, ap, drop, take}
use Rattle.std.proofs.lemmas.List.{drop-drop}
use Rattle.gs1_c.proofs.DateFacts.{take_before}
use Rattle.gs1_c.proofs.dates.shown_pair.Goals as goal

pub returns-clause-ai : goal.returns-clause-ai
returns-clause-ai c = c.text_of.ensures ∙ c.split_at.ensures.front ∙ ap (λ (n : ℕ). take n c.args.text.now) c.equals_at.ensures.value
    ∙ take_before c.args.text.now

pub returns-clause-value : goal.returns-clause-value
returns-clause-value c = c.text_of-2.ensures ∙ c.all_but_first.ensures ∙ ap (drop 1) c.split_at.ensures.back
    ∙ drop-drop 1 c.equals_at.result c.args.text.now ∙ ap (λ (n : ℕ). drop (n + 1) c.args.text.now) c.equals_at.ensures.value
