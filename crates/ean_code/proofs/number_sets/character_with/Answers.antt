use Rattle.std.proofs.Common.{◌≡◌, ◌+◌, ◌*◌, ◌-◌, ◌∙◌, ap, sym}
use Rattle.ean_code.specs.NumberSets.{character_of, left_widths}
use Rattle.ean_code.specs.Widths.{packed_widths}
use Rattle.ean_code.proofs.Characters.{length-left}
use Rattle.ean_code.proofs.Drawn.{left_valid}
use Rattle.ean_code.proofs.CharacterTable.{of_pair, packed_four, pair_of, unpacked}
use Rattle.ean_code.proofs.number_sets.character_with.Goals as goal

pub returns-in_err-of_b-clause-none : goal.returns-in_err-of_b-clause-none
returns-in_err-of_b-clause-none c = rw c.from_residual.ensures (λ x h e.
    let packed : (((c.from.result * 4 + c.from-2.result) * 4 + c.from-3.result) * 4 + c.from-4.result) - 85 ≡ packed_widths c.args.widths.now =
    rw (c.from.ensures, c.from-2.ensures, c.from-3.ensures, c.from-4.ensures) (packed_four c.args.widths.now c.requires.four c.requires.valid) in
    c.in_err-of_b.ensures.none (pair_of x) h (ap (λ y. packed_widths (left_widths y)) (of_pair x.set x.digit) ∙ ap packed_widths e ∙ sym packed))

pub returns-clause-found : goal.returns-clause-found
returns-clause-found c =
    let packed : (((c.from.result * 4 + c.from-2.result) * 4 + c.from-3.result) * 4 + c.from-4.result) - 85 ≡ packed_widths c.args.widths.now =
    rw (c.from.ensures, c.from-2.ensures, c.from-3.ensures, c.from-4.ensures) (packed_four c.args.widths.now c.requires.four c.requires.valid) in
    let found = c.in_ok-of_b.ensures.found in
    let x = character_of (c.in_ok-of_b.of_b, c.in_ok-of_b.digit) in
    rw c.set_of-set.ensures (
      found.0,
      unpacked (left_widths x) c.args.widths.now (length-left x.set x.digit found.0) c.requires.four (left_valid x found.0) c.requires.valid (found.1 ∙ packed),
    )
