-- Answers to rows.
use Rattle.std.specs.Prelude.{◌≡◌, ◌*◌, nat_lt, ℕ, List, Option, Some, None, length, if◌then◌else◌}
use Rattle.element_core.specs.Elements.{canonical}
use Rattle.element_core.specs.Terms.{Terms}
use Rattle.element_core.specs.declared.form.Form.{Form}
use Rattle.scan_core.specs.Answers.{IsAnswer}
use Rattle.scan_core.specs.Bits.{dots_at}
use Rattle.scan_core.specs.Faults.{row_fault_text, run_fault_text}
use Rattle.scan_core.specs.Lines.{identifier, said}
use Rattle.scan_core.specs.Row.{IsRow, dots_of, runs_fault}
use Rattle.scan_core.specs.declared.answer.Answer as row
use Rattle.scan_core.specs.declared.answer.Answer.TheVariants.{Read, Refused}
use Rattle.scan_core.specs.declared.fault.RunFault.{RunFault}
use Rattle.scan_core.specs.declared.fault.RunFault.TheVariants.{BadRuns, TooWide}
use Rattle.answer_core.specs.Answers.{IsNamed, TellsElements}
use Rattle.answer_core.specs.Reads.{IsUnnamed, TellsLine}
use Rattle.answer_core.specs.Symbols.{as_four, carrier_symbol}
use Rattle.answer_core.specs.declared.answer.Answer.{Answer}

-- what a row says, its symbol known exactly; or why it is refused
abbrev pub TellsRowAnswer : Terms → row.Answer → Answer → Type 0
TellsRowAnswer terms (Read c listing) a =
    TellsElements terms listing.list a × IsNamed (carrier_symbol c (canonical listing.list)) (as_four (identifier c)) a
TellsRowAnswer terms (Refused fault) a = TellsLine (row_fault_text fault) a × IsUnnamed a

-- why there is no row
abbrev pub IsNoRow : RunFault → Answer → Type 0
IsNoRow fault a = TellsLine (run_fault_text fault) a × IsUnnamed a

-- the answer to widths by their fault
abbrev pub IsWidthsBy : Terms → List ℕ → Option RunFault → Answer → Type 0
IsWidthsBy terms widths None a = (said : row.Answer) × IsAnswer widths terms said × TellsRowAnswer terms said a
IsWidthsBy terms widths (Some fault) a = IsNoRow fault a

abbrev pub IsWidthsAnswer : Terms → List ℕ → Answer → Type 0
IsWidthsAnswer terms widths a = IsWidthsBy terms widths (runs_fault widths) a

-- the line of widths by their fault: the answer to their row, or why they are none
abbrev pub IsWidthsLine : Form → Terms → List ℕ → Option RunFault → List ℕ → Type 0
IsWidthsLine form terms widths None line = (a : row.Answer) × IsAnswer widths terms a × (line ≡ said form a)
IsWidthsLine form terms widths (Some fault) line = line ≡ run_fault_text fault

-- ---- packed dots

-- why this many bytes have no row of this many dots, if they have none: not all of them are there, or they are more than a row has
abbrev pub packed_fault : ℕ → ℕ → Option RunFault
packed_fault bytes count = if nat_lt (8 * bytes) count then Some BadRuns else if nat_lt 65535 count then Some TooWide else None

-- the answer to the row whose dots these are, by their fault
abbrev pub IsDotsBy : Terms → List ℕ → ℕ → Option RunFault → Answer → Type 0
IsDotsBy terms bits count None a =
    (runs : List ℕ) × IsRow runs × (dots_of runs ≡ dots_at bits 0 count) × IsWidthsBy terms runs None a
IsDotsBy terms bits count (Some fault) a = IsNoRow fault a

abbrev pub IsDotsAnswer : Terms → List ℕ → ℕ → Answer → Type 0
IsDotsAnswer terms bits count a = IsDotsBy terms bits count (packed_fault (length bits) count) a

-- what the row whose dots these are says
abbrev pub IsPackedAnswer : Terms → List ℕ → ℕ → row.Answer → Type 0
IsPackedAnswer terms bits count a = (runs : List ℕ) × IsRow runs × (dots_of runs ≡ dots_at bits 0 count) × IsAnswer runs terms a

-- the line of this many packed dots by their fault
abbrev pub IsPackedLine : Form → Terms → List ℕ → ℕ → Option RunFault → List ℕ → Type 0
IsPackedLine form terms bits count None line = (a : row.Answer) × IsPackedAnswer terms bits count a × (line ≡ said form a)
IsPackedLine form terms bits count (Some fault) line = line ≡ run_fault_text fault
