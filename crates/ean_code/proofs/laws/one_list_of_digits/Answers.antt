use Rattle.std.proofs.Common.{sym, ◌∙◌}
use Rattle.ean_code.proofs.EachKind.{owed}
use Rattle.ean_code.proofs.laws.one_list_of_digits.Goals as goal

pub returns : goal.returns
returns c = λ kind ms ds es a b. sym ((owed kind).shown_is ms ds a) ∙ (owed kind).shown_is ms es b
