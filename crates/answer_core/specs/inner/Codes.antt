-- Codes of the definitions.
use Rattle.answer_core.specs.Codes.{AisWithCodes}
use Rattle.answer_core.specs.declared.code.CodedAis.{CodedAis}

abbrev pub coded_of : CodedAis → AisWithCodes
coded_of c = record { ais = c.ais.now; kind = c.kind; coding = c.coding }
