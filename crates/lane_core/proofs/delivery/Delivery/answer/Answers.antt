-- The row and year that are read are those that contracts see of a delivery; `push_answer` says it of a text.
use Rattle.std.proofs.Common.{subst}
use Rattle.scan_core.specs.Answers.{IsAnswer}
use Rattle.lane_core.specs.declared.delivery.Delivery.TheInside.{Inside}
use Rattle.lane_core.specs.declared.job.Plain.{Plain}
use Rattle.lane_core.proofs.delivery.Delivery.answer.Goals as goal

pub returns : goal.returns
returns c =
    subst (λ (plain : Plain). IsAnswer plain.widths plain.year c.read_row.result) c.self.view_is
    (subst (λ (inside : Inside). IsAnswer inside.job.widths inside.job.year c.read_row.result) c.self-inside.view_is c.read_row.ensures)
