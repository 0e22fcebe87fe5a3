use Rattle.ean_code.proofs.EachKind.{owed}
use Rattle.ean_code.proofs.laws.replaced_digit_is_unchecked.Goals as goal

pub returns : goal.returns
returns c = λ kind. (owed kind).replaced
