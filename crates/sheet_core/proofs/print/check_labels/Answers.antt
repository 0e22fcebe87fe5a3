use Rattle.std.proofs.Common.{◌≡◌, ℕ, zero, suc, true, false, List, [], ◌∷◌, take, refl, sym, subst, ◌∙◌, add-one}
use Rattle.std.specs.Prelude.{Some, slice_get}
use Rattle.std.specs.List.{AllByRecursion}
use Rattle.std.proofs.lemmas.List.{take_all}
use Rattle.std.proofs.lemmas.Option.{slice_get_read}
use Rattle.sheet_core.specs.Labels.{IsPrintable}
use Rattle.sheet_core.proofs.print.check_labels.Goals as goal

false_not_true : false ≡ true → ⊥
false_not_true e = cc

-- one more of them
one_more : {X : Type 0} (P : X → Type 0) (xs : List X) (i : ℕ) (x : X) → slice_get xs i ≡ Some x → P x → AllByRecursion P (take i xs)
    → AllByRecursion P (take (suc i) xs)
one_more P [] i x e p h = tt
one_more P (y ∷ xs) zero x e p h = (subst P (cc) p, tt)
one_more P (y ∷ xs) (suc i) x e p h = (h.0, one_more P xs i x e p h.1)

pub returns-in_default-clause-err : goal.returns-in_default-clause-err
returns-in_default-clause-err c =
    let at = slice_get_read c.args.labels.now _ c.loop-i.i c.index-labels-i.result refl c.loop-i-test.true c.index-labels-i.is in
    (c.index-labels-i.result, at, c.loop-i.invariant, c.in_default.ensures.none)

pub returns-then-not-fits-clause-err : goal.returns-then-not-fits-clause-err
returns-then-not-fits-clause-err c =
    let at = slice_get_read c.args.labels.now _ c.loop-i.i c.index-labels-i.result refl c.loop-i-test.true c.index-labels-i.is in
    let some = c.in-Some.ensures.some in
    (c.index-labels-i.result, some.0, at, c.loop-i.invariant, some.1, λ fits. false_not_true (sym c.if-not-fits.true ∙ some.2.1 fits))

pub loop-i-preserved : goal.loop-i-preserved
loop-i-preserved c =
    let at = slice_get_read c.args.labels.now _ c.loop-i.i c.index-labels-i.result refl c.loop-i-test.true c.index-labels-i.is in
    let some = c.in-Some.ensures.some in
    rw add-one (one_more (IsPrintable c.args.grid.now) c.args.labels.now c.loop-i.i c.index-labels-i.result at
    (some.0, some.1, some.2.0 c.if-not-fits.false) c.loop-i.invariant)

pub returns-clause-ok : goal.returns-clause-ok
returns-clause-ok c =
    subst (AllByRecursion (IsPrintable c.args.grid.now)) (take_all c.loop-i.i c.args.labels.now c.loop-i-test.false) c.loop-i.invariant
