use Rattle.std.proofs.Common.{◌≡◌, ◌∙◌, List, ◌∷◌, ◌++◌, ℕ, ap, ap₂, arith, length, length-append, map, refl, sym}
use Rattle.digits_core.specs.Buffers.{pasted}
use Rattle.digits_core.proofs.Pasted.{length-pasted, pasted_more}
use Rattle.answer_core.specs.Places.{entry_at}
use Rattle.answer_core.specs.inner.Formats.{next_opening, opened}
use Rattle.answer_core.proofs.format.put_elements.Goals as goal

pub loop-first-preserved : goal.loop-first-preserved
loop-first-preserved c =
    let f = c.in-Some.first in
    let i = c.loop-first.invariant in
    let p = c.put_element-end.ensures in
    let es = map (entry_at c.args.text.now) f.rest.now in
    let first : List ℕ = c.loop-first.opening.now ++ (f.ai.now ++ (c.signs_of-signs.result.sign ∷ f.value.now)) in
    let more : List ℕ = opened c.args.form (next_opening c.args.form) es in
    let sign = c.signs_of-signs.ensures.sign in
    let whole : opened c.args.form c.loop-first.opening.now (map (entry_at c.args.text.now) c.loop-first.rest.now) ≡ first ++ more =
    ap (opened c.args.form c.loop-first.opening.now) c.in-Some.ensures.elements ∙ rw (sym sign) refl in
    let long = ap length whole ∙ length-append first more in
    let room = i.room in
    let same = ap length p.put ∙ length-pasted c.loop-first.out c.loop-first.end first (omega arith) in
    let next = ap (λ (t : List ℕ). opened c.args.form t es) c.signs_of-signs.ensures.next in
    record {
      end = omega (arith, p.end, i.end, long, ap length next);
      room = omega (arith, p.end, long, same, ap length next);
      put = ap (pasted c.put_element-end.new.out c.put_element-end.result) next
          ∙ ap₂ (λ out end. pasted out end more) p.put p.end ∙ pasted_more c.loop-first.out c.loop-first.end first more (omega arith)
          ∙ ap (pasted c.loop-first.out c.loop-first.end) (sym whole) ∙ i.put;
    }
