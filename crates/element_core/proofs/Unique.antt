-- A text is read in one way.
use Rattle.std.proofs.Common.{◌≡◌, ℕ, ◌<◌, ◌≤◌, List, [], ◌∷◌, length, Option, Some, None, refl, sym, ap, subst, ◌∙◌, arith}
use Rattle.std.specs.Prelude.{MatchOption, Result, Ok, Err, IfOk, IfErr, IsOk}
use Rattle.std.proofs.lemmas.Bool.{le-ltb, ne_eqb}
use Rattle.element_core.specs.declared.fault.ElementFault.{ElementFault}
use Rattle.element_core.specs.declared.fault.ElementFault.TheVariants.{UnknownAi}
use Rattle.element_core.specs.Terms.{Terms}
use Rattle.element_core.specs.Table.{Row}
use Rattle.element_core.specs.inner.Elements.{fault_at}
use Rattle.element_core.specs.Elements.{Entry, IsElements, StopsWith, FirstFault, size_fault, fault_by, OneListOrFault, Listing}
use Rattle.element_core.specs.Fronts.{Begins, ReadsFromLeft}
use Rattle.element_core.proofs.TableLaws.{none_begins_nothing}
use Rattle.element_core.proofs.Look.{no_read_row}
use Rattle.element_core.proofs.PieceLemmas.{from_left}
use Rattle.element_core.specs.Shown.{shown_value, shown_rest}
use Rattle.element_core.proofs.Shown.{shows}

pub same_element : (e f : Entry) → e.ai ≡ f.ai → e.value ≡ f.value → e ≡ f
same_element e f p q = ap (λ (a : List ℕ). record { ai = a; value = e.value }) p ∙ ap (λ (v : List ℕ). record { ai = f.ai; value = v }) q

abbrev some_row : Row → Option Row
some_row r = Some r

same_row : (r s : Row) → some_row r ≡ some_row s → r ≡ s
same_row r s e = cc

begins_once : (year : Terms) (e f : Entry) (text rest more : List ℕ) → Begins year e text rest → Begins year f text more → (e ≡ f) × (rest ≡ more)
begins_once year e f text rest more p q =
    let a = shows year e text rest p in
    let b = shows year f text more q in
    let rows : a.row ≡ b.row = same_row a.row b.row (sym a.row_is ∙ b.row_is) in
    let values : e.value ≡ f.value = a.value_is ∙ ap (λ (r : Row). shown_value r text) rows ∙ sym b.value_is in
    (same_element e f (a.ai_is ∙ ap (λ (r : Row). r.ai) rows ∙ sym b.ai_is) values, a.rest_is ∙ ap (λ (r : Row). shown_rest r text) rows ∙ sym b.rest_is)

-- no element begins a text that has a fault at its front
pub record IsStuck (year : Terms) (text : List ℕ) : Type 0 where
  pub place : ℕ
  pub why : ElementFault
  pub fault : fault_at year place text ≡ Some why

pub stuck_at_end : (year : Terms) → IsStuck year []
stuck_at_end year = record { place = 0; why = UnknownAi 0; fault = ap (fault_by year 0 []) (no_read_row year [] none_begins_nothing) }

pub not_stuck : (year : Terms) (e : Entry) (text rest : List ℕ) → Begins year e text rest → IsStuck year text → ⊥
not_stuck year e text rest b s = let n = (shows year e text rest b).no_fault s.place in let f = s.fault in cc

-- two readings up to where nothing begins are one
pub reads_once : (year : Terms) (text : List ℕ) (es fs : List Entry) (rest more : List ℕ) → ReadsFromLeft year text es rest → ReadsFromLeft year text fs more
    → IsStuck year rest → IsStuck year more → (es ≡ fs) × (rest ≡ more)
reads_once year text [] [] rest more p q s t = (refl, sym p ∙ q)
reads_once year text [] (f ∷ fs) rest more p q s t = absurd (not_stuck year f text q.0 q.1 (subst (IsStuck year) (sym p) s))
reads_once year text (e ∷ es) [] rest more p q s t = absurd (not_stuck year e text p.0 p.1 (subst (IsStuck year) (sym q) t))
reads_once year text (e ∷ es) (f ∷ fs) rest more p q s t =
    let first = begins_once year e f text p.0 q.0 p.1 q.1 in
    let same = reads_once year p.0 es fs rest more p.2 (subst (λ (m : List ℕ). ReadsFromLeft year m fs more) (sym first.1) q.2) s t in
    (let h = first.0 in let k = same.0 in cc, same.1)

stuck : (year : Terms) (text : List ℕ) (f : ElementFault) (s : StopsWith year text f) → IsStuck year s.rest
stuck year text f s = record { place = s.place; why = f; fault = s.fault }

abbrev some_fault : ElementFault → Option ElementFault
some_fault f = Some f

same_fault : (f g : ElementFault) → some_fault f ≡ some_fault g → f ≡ g
same_fault f g e = cc

stops_once : (year : Terms) (text : List ℕ) (f g : ElementFault) → StopsWith year text f → StopsWith year text g → f ≡ g
stops_once year text f g s t =
    let same = reads_once year text s.before t.before s.rest t.rest (from_left year text s.before s.rest s.reads) (from_left year text t.before t.rest t.reads)
    (stuck year text f s) (stuck year text g t) in
    let sp = s.place_is in
    let tp = t.place_is in
    let places : s.place ≡ t.place = omega (arith, ap length same.1) in
    same_fault f g (sym s.fault ∙ ap (λ (p : ℕ). fault_at year p s.rest) places ∙ ap (fault_at year t.place) same.1 ∙ t.fault)

faults_once : (year : Terms) (text : List ℕ) (f g : ElementFault) (size : Option ElementFault) → MatchOption size (StopsWith year text f) (λ h. f ≡ h)
    → MatchOption size (StopsWith year text g) (λ h. g ≡ h) → f ≡ g
faults_once year text f g None s t = stops_once year text f g s t
faults_once year text f g (Some h) s t = s ∙ sym t

pub right_size : (text : List ℕ) → 0 < length text → length text ≤ 192 → size_fault text ≡ None
right_size text some fits =
    let ne : length text ≡ 0 → ⊥ = λ e. omega arith in
    rw (le-ltb 192 (length text) fits, ne_eqb (length text) 0 ne) refl

not_both : (year : Terms) (text : List ℕ) (es : List Entry) (f : ElementFault) → IsElements year text es → FirstFault year text f → ⊥
not_both year text es f is fault =
    let s = subst (λ (o : Option ElementFault). MatchOption o (StopsWith year text f) (λ g. f ≡ g)) (right_size text is.some is.fits) fault in
    let same = reads_once year text es s.before [] s.rest (from_left year text es [] is.reads) (from_left year text s.before s.rest s.reads) (stuck_at_end year)
    (stuck year text f s) in
    let some = s.some in
    omega (arith, ap length same.1)

pub one_answer : OneListOrFault
one_answer = λ year text. (
  λ es fs p q. (reads_once year text es fs [] [] (from_left year text es [] p.reads) (from_left year text fs [] q.reads) (stuck_at_end year)
      (stuck_at_end year)).0,
  λ f g p q. faults_once year text f g (size_fault text) p q,
  λ es f p q. not_both year text es f p q,
)

-- what a reader gave is the one answer
pub only_list : (year : Terms) (text : List ℕ) (r : Result Listing ElementFault) → IfOk r (λ es. (es.year ≡ year) × IsElements year text es.list)
    → IfErr r (λ f. FirstFault year text f) → (list : List Entry) → IsElements year text list → IfOk r (λ es. es.list ≡ list) × IsOk r
only_list year text (Ok es) ok err list is = ((one_answer year text).0 es.list list ok.1 is, refl)
only_list year text (Err f) ok err list is = absurd ((one_answer year text).2 list f is err)

pub only_fault : (year : Terms) (text : List ℕ) (r : Result Listing ElementFault) → IfOk r (λ es. (es.year ≡ year) × IsElements year text es.list)
    → IfErr r (λ f. FirstFault year text f) → (f : ElementFault) → FirstFault year text f → r ≡ Err f
only_fault year text (Ok es) ok err f fault = absurd ((one_answer year text).2 es.list f ok.1 fault)
only_fault year text (Err g) ok err f fault = ap (λ (h : ElementFault). Err h) ((one_answer year text).1 g f err fault)
