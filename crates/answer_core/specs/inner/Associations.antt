-- Associations of the definitions.
use Rattle.answer_core.specs.Associations.{AiAssociation}
use Rattle.answer_core.specs.declared.association.Association.{Association}

abbrev pub association_of : Association → AiAssociation
association_of a = record { ais = a.ais.now; excludes = a.excludes; others = a.others.now }
