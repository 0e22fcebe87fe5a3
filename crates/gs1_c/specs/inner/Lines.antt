-- Lines as the code makes them.
use Rattle.std.specs.Prelude.{◌≡◌, ℕ, List, Result, Ok, Err}
use Rattle.element_core.specs.Terms.{Terms}
use Rattle.element_core.specs.declared.form.Form.{Form}
use Rattle.scan_core.specs.Answers.{IsAnswer}
use Rattle.scan_core.specs.Faults.{run_fault_text}
use Rattle.scan_core.specs.Lines.{said}
use Rattle.scan_core.specs.Reading.{IsFound}
use Rattle.scan_core.specs.declared.answer.Answer.{Answer}
use Rattle.scan_core.specs.declared.fault.RunFault.{RunFault}
use Rattle.scan_core.specs.declared.found.Found.{Found}

-- the line of what was found in a row, its elements in a form: the answer to each row in which it is found, or why there is no row
abbrev pub IsFoundLine : Form → Terms → Result Found RunFault → List ℕ → Type 0
IsFoundLine form terms (Ok found) line = (a : Answer) × ((runs : List ℕ) → IsFound runs found → IsAnswer runs terms a) × (line ≡ said form a)
IsFoundLine form terms (Err fault) line = line ≡ run_fault_text fault
