-- The label that is pushed is what the record means, and stands behind those before it.
use Rattle.std.proofs.Common.{◌++◌, ◌≡◌, ◌∙◌, ◌∷◌, [], ap, rules, true}
use Rattle.std.specs.Result.{is_ok}
use Rattle.csv_records.proofs.print.labels.LabelRecordsIntake.take.Goals as goal

pub returns-clause-taken : goal.returns-clause-taken
returns-clause-taken c =
    let good : is_ok c.push.result ≡ true = search rules in
    let pushed = rw good at c.push.ensures.items in
    let label = c.in_ok-label.label in
    (label, c.in_ok-label.ensures, λ items before. pushed ∙ ap (λ t. t ++ label ∷ []) before)
