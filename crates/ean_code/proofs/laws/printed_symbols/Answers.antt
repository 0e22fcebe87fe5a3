use Rattle.ean_code.proofs.EachKind.{owed}
use Rattle.ean_code.proofs.laws.printed_symbols.Goals as goal

pub returns : goal.returns
returns c = λ kind. (owed kind).printed
