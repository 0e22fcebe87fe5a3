use Rattle.std.proofs.Common.{set}
use Rattle.ean_code.specs.Symbols.{widths_of}
use Rattle.scan_core.proofs.ReplacedCharacter.{replaced_spells}
use Rattle.scan_core.proofs.laws.replacement_is_noticed.Goals as goal

pub returns : goal.returns
returns c = λ carrier kind digits gtin runs k d year way row is count valid number checked place low other shows. (
  carrier,
  (
    way,
    widths_of kind (set digits k d),
    shows,
    replaced_spells carrier kind is (c.replaced_digit_is_unchecked.ensures kind) digits gtin k d count valid number checked place low other,
  ),
)
