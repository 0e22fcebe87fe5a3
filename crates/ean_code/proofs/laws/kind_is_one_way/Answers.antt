use Rattle.ean_code.proofs.EachKind.{owed}
use Rattle.ean_code.proofs.laws.kind_is_one_way.Goals as goal

pub returns : goal.returns
returns c = λ kind. (owed kind).one_way
