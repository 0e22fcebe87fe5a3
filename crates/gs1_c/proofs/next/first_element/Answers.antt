use Rattle.std.proofs.Common.{◌≡◌, ◌∙◌, ◌≤◌, ℕ, List, ap, arith, drop, length, subst, take}
use Rattle.std.proofs.lemmas.List.{take_rest}
use Rattle.gs1_c.specs.Dates.{before_equals}
use Rattle.gs1_c.specs.Shown.{is_between}
use Rattle.gs1_c.specs.inner.Shown.{up_to}
use Rattle.gs1_c.proofs.FirstWord.{first_at, word_passed}
use Rattle.gs1_c.proofs.next.first_element.Goals as goal

pub returns-then-ai-count-clause-some : goal.returns-then-ai-count-clause-some
returns-then-ai-count-clause-some c =
    let rest = take_rest c.args.line.now c.words.start in
    first_at c.args.line.now c.words.start c.word_length-count.result c.equals_at-ai.result
    (c.word_length-count.ensures.value ∙ ap (λ (l : List ℕ). length (up_to is_between l)) rest)
    (c.equals_at-ai.ensures.value ∙ ap (λ (l : List ℕ). length (before_equals (take c.word_length-count.result l))) rest)
    (subst (λ (l : List ℕ). c.word_length-count.result ≤ length l) rest c.word_length-count.ensures.within) (omega (arith, c.words-test.true))
    c.if-ai-count.true c.words.invariant

pub words-preserved : goal.words-preserved
words-preserved c =
    let rest = take_rest c.args.line.now c.words.start in
    word_passed c.args.line.now c.words.start c.word_length-count.result c.equals_at-ai.result
    (c.word_length-count.ensures.value ∙ ap (λ (l : List ℕ). length (up_to is_between l)) rest)
    (c.equals_at-ai.ensures.value ∙ ap (λ (l : List ℕ). length (before_equals (take c.word_length-count.result l))) rest)
    (subst (λ (l : List ℕ). c.word_length-count.result ≤ length l) rest c.word_length-count.ensures.within) (omega (arith, c.words-test.true))
    c.if-ai-count.false c.words.invariant
