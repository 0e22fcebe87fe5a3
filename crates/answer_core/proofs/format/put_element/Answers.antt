use Rattle.std.proofs.Common.{◌∙◌, ◌≤◌, List, [], ◌∷◌, ◌++◌, ℕ, ap, append_assoc, arith, length, length-append}
use Rattle.digits_core.specs.Buffers.{pasted}
use Rattle.digits_core.proofs.Pasted.{pasted_next}
use Rattle.answer_core.proofs.format.put_element.Goals as goal

pub returns-clause-put : goal.returns-clause-put
returns-clause-put c =
    let out = c.args.out.now in
    let at = c.args.at in
    let opening = c.args.opening.now in
    let ai = c.args.ai.now in
    let value = c.args.value.now in
    let sign : List ℕ = c.args.sign ∷ [] in
    let room : at ≤ length out = omega (arith, c.requires) in
    let coded = pasted_next out c.put_at-open.new.out c.put_at-code.new.out at c.put_at-open.result opening ai room c.put_at-open.ensures.end
    c.put_at-open.ensures.put c.put_at-code.ensures.put in
    let marked = pasted_next out c.put_at-code.new.out c.put_at-mark.new.out at c.put_at-code.result (opening ++ ai) sign room
    (omega (arith, c.put_at-code.ensures.end, c.put_at-open.ensures.end, length-append opening ai)) coded c.put_at-mark.ensures.put in
    pasted_next out c.put_at-mark.new.out c.put_at.new.out at c.put_at-mark.result ((opening ++ ai) ++ sign) value room
    (omega (arith, c.put_at-mark.ensures.end, c.put_at-code.ensures.end, c.put_at-open.ensures.end, length-append (opening ++ ai) sign, length-append opening ai)) marked
    c.put_at.ensures.put
    ∙ ap (pasted out at) (append_assoc (opening ++ ai) sign value ∙ append_assoc opening ai (c.args.sign ∷ value))
