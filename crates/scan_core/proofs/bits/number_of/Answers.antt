use Rattle.std.proofs.Common.{◌<◌, ◌+◌, ◌*◌, ℕ, slice_index, ap₂, ◌∙◌, rules}
use Rattle.scan_core.proofs.WordFacts.{eight_bytes}
use Rattle.scan_core.proofs.bits.number_of.Goals as goal

pub returns : goal.returns
returns c =
    let fits : (i : ℕ) → slice_index c.args.bytes i < 256 = search rules in
    eight_bytes (c.from.result * 4294967296 + c.from-2.result) (λ i. slice_index c.args.bytes i) fits
    (ap₂ (λ a b. a * 4294967296 + b) (c.from.ensures ∙ c.from_be_bytes-high.ensures) (c.from-2.ensures ∙ c.from_be_bytes-low.ensures))
