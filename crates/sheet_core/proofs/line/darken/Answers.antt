use Rattle.std.proofs.Common.{◌+◌, ◌-◌, ◌*◌, ◌/◌, ◌%◌, ◌==◌, ◌&&◌, ◌||◌, ℕ, nat_le, nat_lt, ap, ap₂, ◌∙◌, arith}
use Rattle.std.specs.Prelude.{max, min}
use Rattle.scan_core.specs.Bits.{dot_at}
use Rattle.sheet_core.proofs.ByteFacts.{all_dark, byte_dark, none_dark, one_byte_more}
use Rattle.sheet_core.proofs.line.darken.Goals as goal

pub loop-i-init : goal.loop-i-init
loop-i-init c = λ k. none_dark c.args.from (c.args.from + c.args.count) k (dot_at c.args.line.now k)

pub loop-i-preserved : goal.loop-i-preserved
loop-i-preserved c = λ k.
    let i = c.loop-i.i in
    let line = c.loop-i.line in
    let end : ℕ = c.args.from + c.args.count in
    byte_dark line i c.bits_of-bits.result (omega arith) k
    ∙ ap (λ t. ((k / 8 == i) && t) || dot_at line k) (c.bits_of-bits.ensures (k % 8) (omega arith))
    ∙ ap₂ (λ a b. ((k / 8 == i) && (nat_le (a - 8 * i) (k % 8) && nat_lt (k % 8) (b - 8 * i))) || dot_at line k) c.max.ensures c.min.ensures
    ∙ ap (λ d. ((k / 8 == i) && (nat_le (max c.args.from (8 * i) - 8 * i) (k % 8) && nat_lt (k % 8) (min end (8 * i + 8) - 8 * i))) || d) (c.loop-i.invariant k)
    ∙ one_byte_more c.args.from end i k (dot_at c.args.line.now k) (omega arith) (omega arith)

pub returns : goal.returns
returns c = λ k. c.loop-i.invariant k ∙ all_dark c.args.from (c.args.from + c.args.count) c.loop-i.i k (dot_at c.args.line.now k) (omega arith)
