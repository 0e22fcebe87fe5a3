-- The report: the answers to the rows of each lane, one line each (`answers/report.rt`).
use Rattle.std.specs.Prelude.{◌≡◌, ◌+◌, ◌++◌, ℕ, List, [], ◌∷◌}
use Rattle.std.specs.Fmt.{decimal}
use Rattle.std.specs.List.{AllZip, concat}
use Rattle.scan_core.specs.Answers.{Reads}
use Rattle.scan_core.specs.Lines.{said}
use Rattle.scan_core.specs.declared.answer.Answer.{Answer}
use Rattle.element_core.specs.declared.form.Form.{Form}
use Rattle.element_core.specs.Terms.{Terms}
use Rattle.element_core.specs.declared.form.Form.TheVariants as form

-- the line of an answer: the lane, the number of the row in its lane, the answer and a line feed
abbrev pub numbered_line : Form → ℕ → ℕ → Answer → List ℕ
numbered_line f lane number a = decimal lane ++ (32 ∷ []) ++ decimal number ++ (32 ∷ []) ++ said f a ++ (10 ∷ [])

-- the line of an answer with the elements in the human-readable form, in which reports are written
abbrev pub line_of : ℕ → ℕ → Answer → List ℕ
line_of lane number a = numbered_line form.HumanReadable lane number a

-- the lines of a lane, from a number on
abbrev pub lines_from : ℕ → ℕ → List Answer → List ℕ
lines_from lane number [] = []
lines_from lane number (a ∷ rest) = line_of lane number a ++ lines_from lane (number + 1) rest

-- the lines of each lane, from this lane on
abbrev pub lane_lines : ℕ → List (List Answer) → List (List ℕ)
lane_lines lane [] = []
lane_lines lane (answers ∷ rest) = lines_from lane 0 answers ∷ lane_lines (lane + 1) rest

-- the lines of all lanes, lane by lane
abbrev pub report : List (List Answer) → List ℕ
report answers = concat (lane_lines 0 answers)

-- the text is the report of the answers to these rows under the reference year
abbrev pub IsReport : Terms → List (List (List ℕ)) → List ℕ → Type 0
IsReport year feeds text =
    (answers : List (List Answer)) × AllZip (λ rows read. Reads rows year read) feeds answers × (text ≡ report answers)
