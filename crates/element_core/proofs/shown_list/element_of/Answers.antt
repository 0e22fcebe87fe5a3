use Rattle.std.proofs.Common.{◌≡◌, ◌+◌, ◌≤◌, ℕ, zero, suc, List, [], ◌∷◌, length, drop, Option, Some, None, refl, sym, ap, ◌∙◌, arith, length-drop}
use Rattle.std.specs.Prelude.{option_map, slice_get}
use Rattle.std.proofs.Math.Seq.{drop-nil}
use Rattle.std.proofs.lemmas.Option.{slice_get_past}
use Rattle.element_core.specs.declared.front.Front.{Front}
use Rattle.element_core.specs.Elements.{Entry}
use Rattle.element_core.specs.Shown.{shown_elements}
use Rattle.element_core.specs.inner.Walks.{elements_from, front_entry}
use Rattle.element_core.proofs.shown_list.element_of.Goals as goal

past : (es : List Entry) (k i : ℕ) → [] ≡ drop k es → k ≤ i → slice_get es i ≡ None
past es k i none le = slice_get_past es i (omega (arith, ap length none, length-drop k es))

next : (es more : List Entry) (e : Entry) (k : ℕ) → e ∷ more ≡ drop k es → more ≡ drop (k + 1) es
next [] more e k h = absurd (omega (arith, ap length (h ∙ drop-nil k)))
next (x ∷ es) more e zero h = cc
next (x ∷ es) more e (suc k) h = let one : suc k + 1 ≡ suc (k + 1) = omega arith in rw one (next es more e k h)

first_of : (es : List Entry) (i : ℕ) → slice_get (drop i es) 0 ≡ slice_get es i
first_of [] i = ap (λ (fs : List Entry). slice_get fs 0) (drop-nil i)
first_of (x ∷ es) zero = refl
first_of (x ∷ es) (suc i) = first_of es i

front_first : (o : Option Front) → option_map front_entry o ≡ slice_get (elements_from o) 0
front_first None = refl
front_first (Some f) = refl

pub returns-in_err-rest-clause-entry : goal.returns-in_err-rest-clause-entry
returns-in_err-rest-clause-entry c =
    let below = c.loop-passed-test.true in
    rw c.from_residual.ensures (sym (past (shown_elements c.args.text.now) c.loop-passed._passed c.args.i
    (sym c.in_err-rest.ensures.elements ∙ c.loop-passed.invariant.left) (omega arith)))

pub loop-passed-preserved : goal.loop-passed-preserved
loop-passed-preserved c =
    let f = c.in_ok-rest.field-0 in
    let shorter = c.loop-passed.invariant.shorter in
    let within = c.in_ok-rest.ensures.within in
    record {
      left = next (shown_elements c.args.text.now) (shown_elements f.rest.now) (front_entry f) c.loop-passed._passed
          (sym c.in_ok-rest.ensures.elements ∙ c.loop-passed.invariant.left);
      shorter = omega arith;
    }

pub returns-clause-entry : goal.returns-clause-entry
returns-clause-entry c =
    let i = c.loop-passed.invariant in
    let end : c.loop-passed._passed ≡ c.args.i = omega (arith, c.loop-passed.auto._passed-end) in
    front_first c.front_of-2.result ∙ ap (λ (es : List Entry). slice_get es 0) (sym c.front_of-2.ensures.elements ∙ i.left)
    ∙ first_of (shown_elements c.args.text.now) c.loop-passed._passed ∙ ap (slice_get (shown_elements c.args.text.now)) end
