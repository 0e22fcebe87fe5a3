-- The row and year that are read are those that contracts see of a delivery; `answer` says it of the answer itself.
use Rattle.std.proofs.Common.{◌≡◌, ◌++◌, string_bytes, subst}
use Rattle.std.specs.Prelude.{OnOk}
use Rattle.scan_core.specs.Answers.{IsAnswer}
use Rattle.scan_core.specs.Lines.{said}
use Rattle.scan_core.specs.declared.answer.Answer.{Answer}
use Rattle.lane_core.specs.declared.delivery.Delivery.TheInside.{Inside}
use Rattle.lane_core.specs.declared.job.Plain.{Plain}
use Rattle.lane_core.proofs.delivery.Delivery.push_answer.Goals as goal

pub returns : goal.returns
returns c =
    let Adds : Plain → Type 0 = λ plain. OnOk c.push_row.result ((answer : Answer) × IsAnswer plain.widths plain.year answer
    × (string_bytes c.push_row.new.text ≡ string_bytes c.args.text.now ++ said c.args.form answer)) in
    subst Adds c.self.view_is (subst (λ (inside : Inside). Adds inside.job) c.self-inside.view_is c.push_row.ensures)
