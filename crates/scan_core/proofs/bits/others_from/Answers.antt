use Rattle.std.proofs.Common.{◌+◌, ◌*◌, ◌%◌, ◌^◌, arith}
use Rattle.std.proofs.lemmas.Nat.{mod_below}
use Rattle.scan_core.specs.Bits.{dot_at}
use Rattle.scan_core.proofs.WordFacts.{dark_shown, light_shown, shown}
use Rattle.scan_core.proofs.bits.others_from.Goals as goal

pub returns-then-dark : goal.returns-then-dark
returns-then-dark c k lt within =
    let word = c.word_at.result * 2 ^ ((c.args.from % 8 + c.args.at) % 8) in
    dark_shown (dot_at c.args.bits.now (c.args.from + (c.args.at + k))) c.args.dark (word % 2 ^ 64) k (mod_below word (2 ^ 64) (omega arith))
    (shown c.args.bits.now c.args.from c.args.at c.word_at.result c.word_at.ensures k lt within) c.if-dark.true

pub returns-else-dark : goal.returns-else-dark
returns-else-dark c k lt within =
    let word = c.word_at.result * 2 ^ ((c.args.from % 8 + c.args.at) % 8) in
    light_shown (dot_at c.args.bits.now (c.args.from + (c.args.at + k))) c.args.dark (word % 2 ^ 64) k
    (shown c.args.bits.now c.args.from c.args.at c.word_at.result c.word_at.ensures k lt within) c.if-dark.false
