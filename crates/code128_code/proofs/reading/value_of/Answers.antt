use Rattle.std.proofs.Common.{◌≡◌, ℕ, List, ◌+◌, ◌*◌, ◌-◌, ◌∙◌, ap, sym}
use Rattle.std.proofs.lemmas.Option.{IfSome_then}
use Rattle.ean_code.proofs.Options.{IfNone_then}
use Rattle.ean_code.specs.Widths.{packed_widths}
use Rattle.code128_code.specs.Characters.{pattern}
use Rattle.code128_code.proofs.PatternTable.{length-pattern, packed_six, pattern_valid, unpacked}
use Rattle.code128_code.proofs.reading.value_of.Goals as goal

pub returns-clause-found : goal.returns-clause-found
returns-clause-found c =
    let ws : List ℕ = c.args.widths.now in
    let packed : (((((c.from.result * 4 + c.from-2.result) * 4 + c.from-3.result) * 4 + c.from-4.result) * 4 + c.from-5.result) * 4 + c.from-6.result) - 1365
    ≡ packed_widths ws =
    rw (c.from.ensures, c.from-2.ensures, c.from-3.ensures, c.from-4.ensures, c.from-5.ensures, c.from-6.ensures)
    (packed_six ws c.requires.six c.requires.valid) in
    IfSome_then c.character.result c.character.ensures.found
    (λ v h. (h.0, unpacked (pattern v) ws (length-pattern v h.0) c.requires.six (pattern_valid v h.0) c.requires.valid (h.1 ∙ packed)))

pub returns-clause-none : goal.returns-clause-none
returns-clause-none c =
    let ws : List ℕ = c.args.widths.now in
    let packed : (((((c.from.result * 4 + c.from-2.result) * 4 + c.from-3.result) * 4 + c.from-4.result) * 4 + c.from-5.result) * 4 + c.from-6.result) - 1365
    ≡ packed_widths ws =
    rw (c.from.ensures, c.from-2.ensures, c.from-3.ensures, c.from-4.ensures, c.from-5.ensures, c.from-6.ensures)
    (packed_six ws c.requires.six c.requires.valid) in
    IfNone_then c.character.result c.character.ensures.none (λ none v h e. none v h (ap packed_widths e ∙ sym packed))
