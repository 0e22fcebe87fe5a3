use Rattle.std.proofs.Common.{◌≡◌, ◌+◌, ◌-◌, ◌/◌, ◌%◌, ◌==◌, ◌&&◌, ◌||◌, ℕ, List, length, set, get_or, ap, ◌∙◌, arith}
use Rattle.std.specs.Prelude.{bit_or}
use Rattle.std.proofs.lemmas.List.{length-set}
use Rattle.scan_core.specs.Bits.{dot_at}
use Rattle.sheet_core.proofs.ByteFacts.{byte_dark, in_byte, two_bytes}
use Rattle.sheet_core.proofs.line.darken_few.Goals as goal

pub returns : goal.returns
returns c = λ k.
    let line : List ℕ = c.args.line.now in
    let from : ℕ = c.args.from in
    let count : ℕ = c.args.count in
    let i : ℕ = from / 8 in
    let half : List ℕ = set line i (bit_or (get_or line i 0) c.bits_of.result) in
    let long : length half ≡ length line = length-set line i (bit_or (get_or line i 0) c.bits_of.result) in
    byte_dark half (i + 1) c.bits_of-2.result (omega arith) k
    ∙ ap (λ t. ((k / 8 == i + 1) && t) || dot_at half k) (c.bits_of-2.ensures (k % 8) (omega arith))
    ∙ ap (λ e. in_byte (i + 1) 0 e k || dot_at half k) c.saturating_sub.ensures
    ∙ ap (λ d. in_byte (i + 1) 0 (from % 8 + count - 8) k || d)
    (byte_dark line i c.bits_of.result (omega arith) k
    ∙ ap (λ t. ((k / 8 == i) && t) || dot_at line k) (c.bits_of.ensures (k % 8) (omega arith))
    ∙ ap (λ e. in_byte i (from % 8) e k || dot_at line k) c.min.ensures)
    ∙ two_bytes from count k (dot_at line k) c.requires.few
