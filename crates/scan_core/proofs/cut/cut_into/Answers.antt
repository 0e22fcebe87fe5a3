use Rattle.std.proofs.Common.{◌≡◌, ◌∷◌, [], Result, Ok, Err, OnErr, refl, subst, arith}
use Rattle.scan_core.specs.Bits.{dots_at}
use Rattle.scan_core.specs.inner.Cutting.{Cut}
use Rattle.scan_core.proofs.RunsCutOfDots.{end_dark, end_light, front}
use Rattle.scan_core.proofs.cut.cut_into.Goals as goal

on_err : {T E P : Type 0} (r : Result T E) → P → OnErr r P
on_err (Ok x) p = tt
on_err (Err e) p = p

pub returns-in_err-put-clause-front : goal.returns-in_err-put-clause-front
returns-in_err-put-clause-front g c =
    let inv = c.words.invariant in
    on_err c.from_residual-in_err-put.result (front c.args.bits.now c.args.from c.words.at c.args.width _ _ c.words.run.width c.words.run.dark inv.in_row
    c.requires.few inv.cut c.in_err-put.ensures.unchanged)

pub returns-in_err-put-2-clause-front : goal.returns-in_err-put-2-clause-front
returns-in_err-put-2-clause-front g c =
    let inv = c.words.invariant in
    let in_row = inv.in_row in
    let end : c.words.at ≡ c.args.width = let test = c.words-test.false in omega arith in
    let widths = g.R.RunList.runs c.words.list in
    let cut = subst (λ k. Cut widths c.words.run.width c.words.run.dark k (dots_at c.args.bits.now c.args.from k)) end inv.cut in
    on_err c.from_residual-in_err-put-2.result (
      0 ∷ [],
      omega arith,
      rw c.in_err-put-2.ensures.unchanged
          (end_dark widths _ _ c.words.run.width c.words.run.dark c.args.width _ cut c.if-run.true c.requires.few c.in_ok-put.ensures.put refl),
    )

pub returns-in_ok-put-2-clause-all : goal.returns-in_ok-put-2-clause-all
returns-in_ok-put-2-clause-all g c =
    let inv = c.words.invariant in
    let in_row = inv.in_row in
    let end : c.words.at ≡ c.args.width = let test = c.words-test.false in omega arith in
    let widths = g.R.RunList.runs c.words.list in
    let cut = subst (λ k. Cut widths c.words.run.width c.words.run.dark k (dots_at c.args.bits.now c.args.from k)) end inv.cut in
    end_dark widths _ _ c.words.run.width c.words.run.dark c.args.width _ cut c.if-run.true c.requires.few c.in_ok-put.ensures.put c.in_ok-put-2.ensures.put

pub returns-else-run-clause-all : goal.returns-else-run-clause-all
returns-else-run-clause-all g c =
    let inv = c.words.invariant in
    let in_row = inv.in_row in
    let end : c.words.at ≡ c.args.width = let test = c.words-test.false in omega arith in
    let widths = g.R.RunList.runs c.words.list in
    let cut = subst (λ k. Cut widths c.words.run.width c.words.run.dark k (dots_at c.args.bits.now c.args.from k)) end inv.cut in
    end_light widths _ c.words.run.width c.words.run.dark c.args.width _ cut c.if-run.false c.requires.few c.in_ok-put.ensures.put
