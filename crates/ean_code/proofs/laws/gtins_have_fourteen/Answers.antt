use Rattle.ean_code.proofs.EachKind.{owed}
use Rattle.ean_code.proofs.laws.gtins_have_fourteen.Goals as goal

pub returns : goal.returns
returns c = λ kind. (owed kind).fourteen
