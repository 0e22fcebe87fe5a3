-- What a record of `check` adds to the lines.
use Rattle.std.proofs.Common.{◌++◌, ◌≡◌, ◌∙◌, ◌∷◌, List, Ok, Some, [], ap, ℕ}
use Rattle.std.proofs.lemmas.List.{flat_map_more}
use Rattle.element_core.specs.Lines.{line_text}
use Rattle.element_core.specs.declared.line.Line.{Line}
use Rattle.csv_records.specs.check.Checks.{IsLineAs, check_kind_named, check_meaning, check_report}
use Rattle.csv_records.specs.input.Records.{Fields}
use Rattle.element_core.specs.Terms.{Terms}
use Rattle.csv_records.specs.declared.check.answer.CheckKind.{CheckKind}

-- a line and its line feed, as `check_report` writes them
abbrev with_line_feed : Line → List ℕ
with_line_feed a = line_text a ++ (10 ∷ [])

-- a line of the kind that a record names, for its text, is what the record means
pub line_by_kind : (year : Terms) (fields : Fields) (name text : List ℕ) (kind : CheckKind) (a : Line) → fields ≡ name ∷ text ∷ [] → Some kind
    ≡ check_kind_named name
    → IsLineAs year kind text (line_text a) → check_meaning year fields (Ok a)
line_by_kind year fields name text kind a are is answers = rw (are, ← is) answers

-- lines and the line of one more answer are the lines of all these answers
pub one_more_check : (answers : List Line) (a : Line) (lines after : List ℕ) → after ≡ lines ++ with_line_feed a → lines ≡ check_report answers
    → after ≡ check_report (answers ++ a ∷ [])
one_more_check answers a lines after more before = more ∙ ap (λ t. t ++ with_line_feed a) before ∙ flat_map_more with_line_feed [] answers a
