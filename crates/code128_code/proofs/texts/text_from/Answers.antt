use Rattle.std.proofs.Common.{ℕ, suc, List, ◌∙◌, ap, drop, drop-cons, sym}
use Rattle.std.proofs.lemmas.Result.{err_from_is_err_and}
use Rattle.code128_code.specs.inner.Steps.{all_said}
use Rattle.code128_code.proofs.texts.text_from.Goals as goal

pub returns-in_err-take-clause-err : goal.returns-in_err-take-clause-err
returns-in_err-take-clause-err c =
    let p = err_from_is_err_and c.from_residual.result c.from_residual.ensures.1 in
    let values : List ℕ = c.args.values.now in
    let i : ℕ = c.loop-value.value-index in
    let front = drop-cons values i 0 c.loop-value-test.true in
    rw (p.1, p.2) (sym c.loop-value.invariant.said ∙ ap (all_said c.loop-value.reader) front ∙ c.in_err-take.ensures.err (drop (suc i) values))
