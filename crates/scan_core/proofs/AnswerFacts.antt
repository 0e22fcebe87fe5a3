-- A row has at most one answer.
use Rattle.std.proofs.Common.{◌≡◌, ℕ, true, List, Contains, Result, Ok, Err, refl, sym, ap, ap₂, subst, ◌∙◌, inl, inr}
use Rattle.element_core.specs.Elements.{Listing, OneListOrFault}
use Rattle.ean_code.specs.Laws.{OneListOfDigits}
use Rattle.code128_code.specs.Laws.{OneReading}
use Rattle.scan_core.specs.declared.carrier.Carrier.{Carrier}
use Rattle.scan_core.specs.declared.stage.Stage.{Stage}
use Rattle.scan_core.specs.declared.stage.Stage.TheVariants as stages
use Rattle.scan_core.specs.declared.fault.RowFault.{RowFault}
use Rattle.scan_core.specs.declared.fault.RowFault.TheVariants.{Blank, RunCount, QuietZone, Modules, Pattern, SymbolCheckDigit, Code128, Elements}
use Rattle.scan_core.specs.declared.answer.Answer.{Answer}
use Rattle.scan_core.specs.declared.answer.Answer.TheVariants.{Read, Refused}
use Rattle.scan_core.specs.Row.{IsRow, dots_of}
use Rattle.scan_core.specs.Showing.{kind_of}
use Rattle.scan_core.specs.Answers.{ComesTo, IsAnswer, IsRefused, Spells, Tells, every_carrier}
use Rattle.scan_core.specs.inner.Reading.{IsReadAs}
use Rattle.scan_core.specs.Reading.{stage_fault}
use Rattle.scan_core.proofs.CandidateFacts.{candidate_dark}
use Rattle.scan_core.proofs.ContentFacts.{one_content, spelled_fault}
use Rattle.scan_core.proofs.OneSymbolShown.{SymbolLaws, one_symbol}
use Rattle.element_core.specs.Terms.{Terms}
use Rattle.scan_core.proofs.StageFacts.{candidate_of, latest_once, never}

-- what the row says where its symbol's content is read as this
abbrev pub answer_of : Carrier → Result Listing RowFault → Answer
answer_of carrier (Ok listing) = Read carrier listing
answer_of carrier (Err fault) = Refused fault

-- ---- an answer from a content

refused_of : (runs : List ℕ) (year : Terms) (c : Carrier) (fault : RowFault) → Tells runs c (Err fault) → IsRefused runs year fault
refused_of runs year c fault t =
    elim (spelled_fault (kind_of c) t.1 fault t.3) [
      | inl e ↦ subst (IsRefused runs year) (sym e) (c, subst (λ f. Tells runs c (Err f)) e t)
      | inr f ↦ subst (IsRefused runs year) (sym f.1) (c, subst (λ g. Tells runs c (Err g)) f.1 t)
    ]

pub answer_from : (runs : List ℕ) (year : Terms) (c : Carrier) (content : Result (List ℕ) RowFault) (read : Result Listing RowFault)
    → Tells runs c content → IsReadAs year content read → IsAnswer runs year (answer_of c read)
answer_from runs year c (Ok text) (Ok listing) t i = (text, t, i.0, i.1)
answer_from runs year c (Ok text) (Err fault) t i = subst (IsRefused runs year) (sym i.2) (c, text, t, i.1)
answer_from runs year c (Err fault) read t i =
    subst (λ r. IsAnswer runs year (answer_of c r)) (sym i) (refused_of runs year c fault t)

-- ---- one reading of a content

one_read : OneListOrFault → (year : Terms) (content : Result (List ℕ) RowFault) (r q : Result Listing RowFault)
    → IsReadAs year content r → IsReadAs year content q → r ≡ q
one_read law year (Ok text) (Ok l) (Ok m) a b =
    ap Ok (ap₂ (λ y es. record { year = y; list = es }) (a.0 ∙ sym b.0) ((law year text).0 l.list m.list a.1 b.1))
one_read law year (Ok text) (Ok l) (Err f) a b = absurd ((law year text).2 l.list b.0 a.1 b.1)
one_read law year (Ok text) (Err f) (Ok m) a b = absurd ((law year text).2 m.list a.0 b.1 a.1)
one_read law year (Ok text) (Err f) (Err g) a b = ap Err (a.2 ∙ ap Elements ((law year text).1 a.0 b.0 a.1 b.1) ∙ sym b.2)
one_read law year (Err fault) r q a b = a ∙ sym b

-- ---- why a row has an answer

data Reason (runs : List ℕ) (year : Terms) : Answer → Type 0 where
  blank : (Contains (dots_of runs) true → ⊥) → Reason runs year (Refused Blank)
  uncounted :
      Contains (dots_of runs) true → (ComesTo every_carrier runs stages.QuietZone → ⊥) → Reason runs year (Refused RunCount)
  failed : (stage : Stage) → IsRefused runs year (stage_fault stage) → Reason runs year (Refused (stage_fault stage))
  told :
      (c : Carrier) (content : Result (List ℕ) RowFault) (read : Result Listing RowFault) → Tells runs c content → IsReadAs year content read
      → Reason runs year (answer_of c read)

reason : (runs : List ℕ) (year : Terms) (x : Answer) → IsAnswer runs year x → Reason runs year x
reason runs year (Read c listing) a = told c (Ok a.0) (Ok listing) a.1 (a.2, a.3)
reason runs year (Refused Blank) a = blank a
reason runs year (Refused RunCount) a = uncounted a.0 a.1
reason runs year (Refused QuietZone) a = failed stages.QuietZone a
reason runs year (Refused Modules) a = failed stages.Modules a
reason runs year (Refused Pattern) a = failed stages.Pattern a
reason runs year (Refused SymbolCheckDigit) a = told a.0 (Err SymbolCheckDigit) (Err SymbolCheckDigit) a.1 refl
reason runs year (Refused (Code128 fault)) a = told a.0 (Err (Code128 fault)) (Err (Code128 fault)) a.1 refl
reason runs year (Refused (Elements fault)) a = told a.0 (Ok a.1) (Err (Elements fault)) a.2 (fault, a.3, refl)

-- what is known of each symbol and of each text
pub record ReadingLaws : Type 0 where
  pub symbols : SymbolLaws
  pub numbers : OneListOfDigits
  pub codes : OneReading
  pub texts : OneListOrFault

module _ (laws : ReadingLaws) (runs : List ℕ) (year : Terms) (row : IsRow runs) where
  -- two readings of the one symbol of the row
  same_told : (c d : Carrier) (x y : Result (List ℕ) RowFault) (r q : Result Listing RowFault)
      → Tells runs c x → IsReadAs year x r → Tells runs d y → IsReadAs year y q → answer_of c r ≡ answer_of d q
  same_told c d x y r q t i u j =
      let one = one_symbol laws.symbols runs c d t.0 u.0 t.1 u.1 row t.2 u.2 in
      let moved : Spells (kind_of d) u.1 x = subst (λ ms. Spells (kind_of d) ms x) one.2 (subst (λ e. Spells (kind_of e) t.1 x) one.0 t.3) in
      let content : x ≡ y = one_content laws.numbers laws.codes (kind_of d) u.1 x y moved u.3 in
      ap₂ answer_of one.0 (one_read laws.texts year y r q (subst (λ z. IsReadAs year z r) content i) j)

  dark : (c : Carrier) (x : Result (List ℕ) RowFault) → Tells runs c x → Contains (dots_of runs) true
  dark c x t = candidate_dark runs c t.2.N row t.2.candidate

  lit : (f : Stage) → IsRefused runs year (stage_fault f) → Contains (dots_of runs) true
  lit f a = let m = candidate_of f runs year a in candidate_dark runs m.0 m.1 row m.2

  same_reason : (x y : Answer) → Reason runs year x → Reason runs year y → x ≡ y
  same_reason x y (blank a) (blank b) = refl
  same_reason x y (blank a) (uncounted b none) = absurd (a b)
  same_reason x y (blank a) (failed g b) = absurd (a (lit g b))
  same_reason x y (blank a) (told c content read u j) = absurd (a (dark c content u))
  same_reason x y (uncounted a none) (blank b) = absurd (b a)
  same_reason x y (uncounted a none) (uncounted b other) = refl
  same_reason x y (uncounted a none) (failed g b) = absurd (none (candidate_of g runs year b))
  same_reason x y (uncounted a none) (told c content read u j) = absurd (none (c, u.2.N, u.2.candidate))
  same_reason x y (failed f a) (blank b) = absurd (b (lit f a))
  same_reason x y (failed f a) (uncounted b none) = absurd (none (candidate_of f runs year a))
  same_reason x y (failed f a) (failed g b) = ap (λ s. Refused (stage_fault s)) (latest_once f g runs year a b)
  same_reason x y (failed f a) (told c content read u j) = absurd (never f runs year c u.0 u.1 u.2 a)
  same_reason x y (told c content read t i) (blank b) = absurd (b (dark c content t))
  same_reason x y (told c content read t i) (uncounted b none) = absurd (none (c, t.2.N, t.2.candidate))
  same_reason x y (told c content read t i) (failed g b) = absurd (never g runs year c t.0 t.1 t.2 b)
  same_reason x y (told c content read t i) (told d other q u j) =
      same_told c d content other read q t i u j

pub one_answer : ReadingLaws → (runs : List ℕ) (year : Terms) (x y : Answer) → IsRow runs → IsAnswer runs year x → IsAnswer runs year y → x ≡ y
one_answer laws runs year x y row a b = same_reason laws runs year row x y (reason runs year x a) (reason runs year y b)
