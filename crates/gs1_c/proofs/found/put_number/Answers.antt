use Rattle.std.proofs.Common.{◌∙◌, ◌+◌, ◌∷◌, [], ap, arith, length}
use Rattle.std.specs.Fmt.{decimal}
use Rattle.digits_core.specs.Buffers.{pasted}
use Rattle.digits_core.proofs.Pasted.{pasted_next}
use Rattle.gs1_c.proofs.found.put_number.Goals as goal

pub returns-clause-put : goal.returns-clause-put
returns-clause-put c =
    let same = c.as_bytes.ensures.value ∙ c.format.ensures.text in
    let room = c.requires in
    let one = c.put_at-space.ensures in
    pasted_next c.args.out.now c.put_at-space.new.out c.put_at.new.out c.args.at c.put_at-space.result (decimal c.args.number) (32 ∷ []) (omega arith)
    (one.end ∙ ap (λ ds. c.args.at + length ds) same) (one.put ∙ ap (pasted c.args.out.now c.args.at) same) c.put_at.ensures.put
