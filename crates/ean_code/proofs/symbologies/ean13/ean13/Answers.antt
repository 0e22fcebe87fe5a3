use Rattle.std.proofs.Common.{refl, ◌∙◌, arith}
use Rattle.ean_code.specs.declared.kind.Kind.TheVariants.{Ean13}
use Rattle.ean_code.proofs.EachKind.{modules_drawn, padded_drawn}
use Rattle.ean_code.proofs.symbologies.ean13.ean13.Goals as goal

pub new-requires : goal.new-requires
new-requires c = modules_drawn Ean13 c.in_ok-as13.field-0 c.ean13_widths.result.items (omega arith) c.in_ok-as13.ensures.digits c.ean13_widths.ensures

pub returns-clause-some : goal.returns-clause-some
returns-clause-some c =
    let said = c.in_ok-as13.ensures in
    padded_drawn Ean13 1 c.in_ok-as13.field-0 c.args.gtin.now c.new.result (omega arith) said.digits (c.new.ensures ∙ c.ean13_widths.ensures) said.value
    (said.some.0 refl)
