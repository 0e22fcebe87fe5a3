-- A row with another number of runs than an ITF-14 says what it said before ITF-14 was read.
use Rattle.std.proofs.Common.{◌≢◌, ℕ, List, length, subst}
use Rattle.scan_core.specs.declared.carrier.Carrier.{Carrier}
use Rattle.scan_core.specs.declared.carrier.Carrier.TheVariants.{Itf14}
use Rattle.scan_core.specs.declared.stage.Stage.{Stage}
use Rattle.scan_core.specs.declared.stage.Stage.TheVariants as stages
use Rattle.scan_core.specs.declared.fault.RowFault.{RowFault}
use Rattle.scan_core.specs.declared.fault.RowFault.TheVariants.{Blank, RunCount, QuietZone, Modules, Pattern, SymbolCheckDigit, Code128, Elements}
use Rattle.scan_core.specs.declared.answer.Answer.{Answer}
use Rattle.scan_core.specs.declared.answer.Answer.TheVariants.{Read, Refused}
use Rattle.scan_core.specs.Row.{inner}
use Rattle.scan_core.specs.Showing.{HasSize, kind_of}
use Rattle.scan_core.specs.Answers.{ComesAs, ComesTo, IsAnswer, IsRefused, IsRefusedOf, every_carrier}
use Rattle.element_core.specs.Terms.{Terms}
use Rattle.scan_core.specs.BeforeItf14.{OtherRowsKeep, WasAnswer, earlier}

module _ (runs : List ℕ) (year : Terms) (other : length (inner runs) ≢ 77) where
  -- no candidate of such a row is ITF-14
  apart : (c : Carrier) (N : ℕ) → HasSize (kind_of c) (length (inner runs)) N → c ≢ Itf14
  apart c N h e = other (subst (λ d. HasSize (kind_of d) (length (inner runs)) N) e h).0

  -- nor at any stage
  apart_at : (stage : Stage) (c : Carrier) (N : ℕ) → ComesAs runs c N stage → c ≢ Itf14
  apart_at stages.QuietZone c N h = apart c N h
  apart_at stages.Modules c N h = apart c N h.0
  apart_at stages.Pattern c N h = apart c N h.0

  came : (stage : Stage) → ComesTo every_carrier runs stage → ComesTo earlier runs stage
  came stage a = ((a.0, apart_at stage a.0 a.1 a.2), a.1, a.2)

  comes : (stage : Stage) → ComesTo earlier runs stage → ComesTo every_carrier runs stage
  comes stage a = (a.0.0, a.1, a.2)

  was_refused : (fault : RowFault) → IsRefused runs year fault → IsRefusedOf earlier runs year fault
  was_refused Blank a = a
  was_refused RunCount a = (a.0, λ h. a.1 (comes stages.QuietZone h))
  was_refused QuietZone a = (came stages.QuietZone a.0, λ h. a.1 (comes stages.Modules h))
  was_refused Modules a = (came stages.Modules a.0, λ h. a.1 (comes stages.Pattern h))
  was_refused Pattern a = (came stages.Pattern a.0, λ c w ms s. a.1 c.0 w ms s)
  was_refused SymbolCheckDigit a = ((a.0, apart a.0 a.1.2.N a.1.2.candidate), a.1)
  was_refused (Code128 fault) a = ((a.0, apart a.0 a.1.2.N a.1.2.candidate), a.1)
  was_refused (Elements fault) a = ((a.0, apart a.0 a.2.2.N a.2.2.candidate), a.1, a.2, a.3)

  is_refused : (fault : RowFault) → IsRefusedOf earlier runs year fault → IsRefused runs year fault
  is_refused Blank a = a
  is_refused RunCount a = (a.0, λ h. a.1 (came stages.QuietZone h))
  is_refused QuietZone a = (comes stages.QuietZone a.0, λ h. a.1 (came stages.Modules h))
  is_refused Modules a = (comes stages.Modules a.0, λ h. a.1 (came stages.Pattern h))
  is_refused Pattern a = (comes stages.Pattern a.0, λ c w ms s. a.1 (c, apart c s.N s.candidate) w ms s)
  is_refused SymbolCheckDigit a = (a.0.0, a.1)
  is_refused (Code128 fault) a = (a.0.0, a.1)
  is_refused (Elements fault) a = (a.0.0, a.1, a.2, a.3)

  is_answer : (answer : Answer) → WasAnswer runs year answer → IsAnswer runs year answer
  is_answer (Read c listing) a = (a.1, a.2, a.3, a.4)
  is_answer (Refused fault) a = is_refused fault a

  was_answer : (answer : Answer) → IsAnswer runs year answer → WasAnswer runs year answer
  was_answer (Read c listing) a = (apart c a.1.2.N a.1.2.candidate, a.0, a.1, a.2, a.3)
  was_answer (Refused fault) a = was_refused fault a

pub other_rows_keep : OtherRowsKeep
other_rows_keep runs year answer other = (is_answer runs year other answer, was_answer runs year other answer)
