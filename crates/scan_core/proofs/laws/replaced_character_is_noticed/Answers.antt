use Rattle.std.proofs.Common.{refl}
use Rattle.code128_code.specs.Symbols.{mod103}
use Rattle.scan_core.specs.declared.carrier.Carrier.TheVariants.{Gs1128}
use Rattle.scan_core.proofs.ReplacedCharacter.{wrong_character}
use Rattle.scan_core.proofs.laws.replaced_character_is_noticed.Goals as goal

pub returns : goal.returns
returns c = λ start other last k v year values others modules replaced runs way row symbol new within differs place shows. (
  Gs1128,
  (
    way,
    replaced,
    shows,
    (
      other,
      others,
      last,
      new,
      wrong_character other others last
          (c.replaced_is_unchecked.ensures start other (mod103 start values) last k v values others modules replaced symbol new refl within differs place),
    ),
  ),
)
