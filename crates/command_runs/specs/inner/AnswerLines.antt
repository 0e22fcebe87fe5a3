-- Lines as deliveries are brought (`answers/report.rt`, `answers/serving.rt`), and why rows are not served.
use Rattle.std.specs.Prelude.{◌≡◌, ◌<◌, ◌++◌, ℕ, List, [], String, length, map, slice_index_or, string_bytes}
use Rattle.std.specs.Global.{Global}
use Rattle.std.specs.List.{AllZip}
use Rattle.scan_core.specs.Answers.{IsAnswer, Reads}
use Rattle.scan_core.specs.declared.answer.Answer.{Answer}
use Rattle.lane_core.specs.declared.job.Plain.{Plain}
use Rattle.hub_core.specs.Laws.{AreAnswersOf}
use Rattle.hub_core.specs.Traffics.{with_more}
use Rattle.hub_core.specs.declared.fault.ServeFault.{ServeFault}
use Rattle.hub_core.specs.declared.fault.ServeFault.TheVariants as serve
use Rattle.element_core.specs.Terms.{Terms}
use Rattle.element_core.specs.declared.form.Form.{Form}
use Rattle.command_runs.specs.answers.Reports.{lane_lines, numbered_line}
use Rattle.command_runs.specs.declared.answers.serving.AnswerFault.{AnswerFault}
use Rattle.command_runs.specs.declared.answers.serving.AnswerFault.TheVariants as answers

-- a text has one more line: that of the answer to a delivery, as that of this lane and number
abbrev pub AddsAnswer : Form → ℕ → ℕ → Plain → String Global → String Global → Type 0
AddsAnswer f lane number x old new = (a : Answer) × IsAnswer x.widths x.year a × (string_bytes new ≡ string_bytes old ++ numbered_line f lane number a)

-- the texts are the lines of the answers to the rows of each lane, under the reference year
abbrev pub AreLaneLines : Terms → List (List (List ℕ)) → List (String Global) → Type 0
AreLaneLines year feeds texts =
    (said : List (List Answer)) × AllZip (λ rows read. Reads rows year read) feeds said × (map string_bytes texts ≡ lane_lines 0 said)

-- the texts are the lines of what each lane was brought
abbrev pub AreLinesOf : List (List Plain) → List (List ℕ) → Type 0
AreLinesOf brought texts = (answers : List (List Answer)) × AllZip AreAnswersOf brought answers × (texts ≡ lane_lines 0 answers)

-- whatever these texts are the lines of, with the line of this delivery more they are the new ones, if it is its lane's next
abbrev pub TellsOf : Plain → List (String Global) → List (String Global) → Type 0
TellsOf x old new = (brought : List (List Plain)) → x.lane < length brought → x.number ≡ length (slice_index_or brought x.lane [])
    → AreLinesOf brought (map string_bytes old) → AreLinesOf (with_more x.lane x brought) (map string_bytes new)

-- why rows are not answered, if they are not served for this (`live_fault` of specs/inner/LiveEnds is the same for a live input); `serve_traffic` never
-- reports `BadCount`
abbrev pub answer_fault : ServeFault → AnswerFault
answer_fault serve.NoThread = answers.NoThread
answer_fault serve.NoMemory = answers.NoMemory
answer_fault serve.BadCount = answers.NoMemory
