-- First digits of the definitions.
use Rattle.answer_core.specs.GtinUses.{PrefixesOfUse}
use Rattle.answer_core.specs.declared.gtin_use.NumberPrefixes.{NumberPrefixes}

abbrev pub prefixes_of : NumberPrefixes → PrefixesOfUse
prefixes_of p = record { gtin_use = p.gtin_use; words = p.words.now }
