use Rattle.ean_code.proofs.EachKind.{owed}
use Rattle.ean_code.proofs.laws.measures_of_kind.Goals as goal

pub returns : goal.returns
returns c = λ kind. (owed kind).measures
