-- What is left stands at the front.
use Rattle.std.proofs.Common.{◌≡◌, ◌+◌, ◌-◌, length, take, drop, sym, ap, ◌∙◌, arith, length-drop, length-take-le}
use lib.Seq.{paste}
use Rattle.std.proofs.lemmas.List.{drop-take}
use Rattle.std.proofs.lemmas.List.Edits.{take-paste}
use Rattle.command_runs.proofs.write_buffer.WriteBuffer.drop_front.Goals as goal

pub returns : goal.returns
returns c =
    let all = c.self.inside.bytes in
    let len = c.self.inside.len in
    let from = c.args.count in
    let size : length c.args.self.now ≡ len = ap length (sym c.self.view_is) ∙ length-take-le len all (omega (arith, c.self.invariant, c.self.told)) in
    let same : len - from ≡ 0 + (len - from) = omega arith in
    let whole : from + (len - from) ≡ len = omega (arith, c.requires) in
    ap (take (len - from)) c.copy_within.ensures.after ∙ ap (λ k. take k (paste all 0 (drop from all) (len - from))) same
    ∙ take-paste all 0 (drop from all) (len - from) (omega arith) (omega (arith, c.self.invariant, c.self.told, length-drop from all))
    ∙ sym (drop-take from (len - from) all) ∙ ap (λ k. drop from (take k all)) whole ∙ ap (drop from) c.self.view_is
