use Rattle.std.proofs.lemmas.Result.{on_ok_weaker}
use Rattle.scan_core.specs.declared.answer.Answer.TheVariants.{Refused}
use Rattle.scan_core.proofs.found.Found.push_line.Goals as goal

pub returns-in-Number : goal.returns-in-Number
returns-in-Number c = rw c.in-Number.is (c.push_number.ensures c.args.year)

pub returns-in-Characters : goal.returns-in-Characters
returns-in-Characters c = rw c.in-Characters.is c.push_characters.ensures

pub returns-in-Refused : goal.returns-in-Refused
returns-in-Refused c =
    on_ok_weaker c.push_refusal.result (λ added. (Refused c.in-Refused.fault, λ runs found. (rw c.in-Refused.is at found).1 c.args.year, added))
    c.push_refusal.ensures
