-- The lines of the labels so far are in the text.
use Rattle.std.proofs.Common.{◌+◌, ◌++◌, ◌≡◌, ◌∙◌, ◌∷◌, [], ap, arith, length, sym, take}
use Rattle.std.proofs.lemmas.List.{length-take-le, take_more}
use Rattle.csv_records.specs.print.Labels.{label_line, label_lines_from}
use Rattle.csv_records.proofs.print.LabelLinesGrow.{one_more_label}
use Rattle.csv_records.proofs.print.label_lines.label_lines.Goals as goal

pub labels-preserved : goal.labels-preserved
labels-preserved c =
    let at = c.labels.index in
    let labels = c.args.labels.now in
    let label = c.index-labels-index.result in
    let cells = c.args.cells in
    let count : at ≡ 0 + length (take at labels) = omega (arith, length-take-le at labels (omega arith)) in
    let front : take (at + 1) labels ≡ take at labels ++ label ∷ [] =
    take_more labels at label (omega arith) ∙ ap (λ x. take at labels ++ x ∷ []) (sym c.index-labels-index.is) in
    c.in_ok-push_line.ensures ∙ ap (λ t. t ++ label_line cells at label) c.labels.invariant
    ∙ ap (λ k. label_lines_from cells 0 (take at labels) ++ label_line cells k label) count
    ∙ sym (one_more_label cells 0 (take at labels) label) ∙ ap (label_lines_from cells 0) (sym front)
