use Rattle.std.proofs.Common.{◌≡◌, ◌∙◌, List, ◌∷◌, ◌++◌, ℕ, ap, ap₂, arith, length, length-append, sym}
use Rattle.digits_core.specs.Buffers.{pasted}
use Rattle.element_core.specs.Elements.{hri}
use Rattle.element_core.specs.Shown.{shown_elements}
use Rattle.digits_core.proofs.Pasted.{length-pasted, pasted_more}
use Rattle.element_core.proofs.hri.put_line_of.Goals as goal

pub loop-front-preserved : goal.loop-front-preserved
loop-front-preserved c =
    let f = c.in-Some.front in
    let i = c.loop-front.invariant in
    let p = c.put_element-end.ensures in
    let first : List ℕ = 40 ∷ (f.ai.now ++ 41 ∷ f.value.now) in
    let more : List ℕ = hri (shown_elements f.rest.now) in
    let whole : hri (shown_elements c.loop-front.rest.now) ≡ first ++ more = ap hri c.in-Some.ensures.elements in
    let long = ap length whole ∙ length-append first more in
    let room = i.room in
    let same = ap length p.put ∙ length-pasted c.loop-front.out c.loop-front.end first (omega arith) in
    record {
      end = omega (arith, p.end, i.end, long);
      room = omega (arith, p.end, long, same);
      put = ap₂ (λ out end. pasted out end more) p.put p.end ∙ pasted_more c.loop-front.out c.loop-front.end first more (omega arith)
          ∙ ap (pasted c.loop-front.out c.loop-front.end) (sym whole) ∙ i.put;
    }
