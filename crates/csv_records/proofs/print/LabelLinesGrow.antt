-- What one more label adds to the lines.
use Rattle.std.proofs.Common.{◌+◌, ◌++◌, ◌≡◌, ◌∙◌, ◌∷◌, List, [], ap, append_assoc, arith, length, sym, ℕ}
use Rattle.std.proofs.lemmas.List.{append-nil}
use Rattle.sheet_core.specs.declared.label.Label.{Label}
use Rattle.csv_records.specs.print.Labels.{label_line, label_lines_from}

-- the lines of labels and one more end with its line; `one_more_line` of command_runs/proofs/answers/LinesAsBrought says it of a lane's
pub one_more_label : (cells i : ℕ) (labels : List Label) (l : Label)
    → label_lines_from cells i (labels ++ l ∷ []) ≡ label_lines_from cells i labels ++ label_line cells (i + length labels) l
one_more_label cells i [] l = append-nil (label_line cells i l) ∙ ap (λ k. label_line cells k l) (omega arith)
one_more_label cells i (b ∷ labels) l =
    ap (λ t. label_line cells i b ++ t) (one_more_label cells (i + 1) labels l
    ∙ ap (λ k. label_lines_from cells (i + 1) labels ++ label_line cells k l) (omega arith))
    ∙ sym (append_assoc (label_line cells i b) (label_lines_from cells (i + 1) labels) (label_line cells (i + length (b ∷ labels)) l))
