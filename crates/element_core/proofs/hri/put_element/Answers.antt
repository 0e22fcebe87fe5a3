use Rattle.std.proofs.Common.{◌∙◌, ◌≤◌, List, [], ◌∷◌, ◌++◌, ℕ, ap, append_assoc, arith, length, length-append}
use Rattle.digits_core.specs.Buffers.{pasted}
use Rattle.digits_core.proofs.Pasted.{pasted_next}
use Rattle.element_core.proofs.hri.put_element.Goals as goal

pub returns-clause-put : goal.returns-clause-put
returns-clause-put c =
    let out = c.args.out.now in
    let at = c.args.at in
    let ai = c.args.ai.now in
    let value = c.args.value.now in
    let front : List ℕ = 40 ∷ [] in
    let end : List ℕ = 41 ∷ [] in
    let room : at ≤ length out = omega (arith, c.requires) in
    let coded = pasted_next out c.put_at-open.new.out c.put_at-code.new.out at c.put_at-open.result front ai room c.put_at-open.ensures.end
    c.put_at-open.ensures.put c.put_at-code.ensures.put in
    let closed = pasted_next out c.put_at-code.new.out c.put_at-close.new.out at c.put_at-code.result (front ++ ai) end room
    (omega (arith, c.put_at-code.ensures.end, c.put_at-open.ensures.end)) coded c.put_at-close.ensures.put in
    pasted_next out c.put_at-close.new.out c.put_at.new.out at c.put_at-close.result ((front ++ ai) ++ end) value room
    (omega (arith, c.put_at-close.ensures.end, c.put_at-code.ensures.end, c.put_at-open.ensures.end, length-append (front ++ ai) end)) closed
    c.put_at.ensures.put
    ∙ ap (pasted out at) (append_assoc (front ++ ai) end value)
