-- One more element.
use Rattle.std.proofs.Common.{◌≡◌, ℕ, ◌+◌, ◌-◌, ◌*◌, ◌<◌, ◌≤◌, Bool, true, false, cond, not, List, [], ◌∷◌, ◌++◌, length, refl, sym, ap, subst, ◌∙◌, append_assoc, arith, inl, inr, length-append}
use Rattle.std.specs.Prelude.{is_some, Option, Some, MatchOption}
use Rattle.std.proofs.lemmas.Bool.{cases_Bool, leb-true}
use Rattle.std.proofs.lemmas.List.{nil_from_length}
use Rattle.element_core.specs.Terms.{Terms, rows_by}
use Rattle.element_core.specs.Table.{Row, every_row, least_of, predefined_length}
use Rattle.element_core.specs.inner.Table.{is_long_enough}
use Rattle.element_core.specs.Elements.{Entry, IsElement, IsElements, StopsWith, FirstFault, separator_for, canonical}
use Rattle.element_core.specs.inner.Elements.{AreElements, fault_at}
use Rattle.element_core.specs.Fronts.{Begins, ReadsFromLeft}
use Rattle.element_core.specs.inner.Growing.{last_gap, separator_if}
use Rattle.element_core.proofs.TableLaws.{each_is_long_enough}
use Rattle.element_core.proofs.Look.{all_at, in_table}
use Rattle.element_core.specs.declared.fault.ElementFault.{ElementFault}
use Rattle.element_core.proofs.Unique.{right_size}
use Rattle.element_core.proofs.PieceLemmas.{to_pieces}
use Rattle.element_core.proofs.Canonical.{is_some-predefined_length, canonical_shorter, canonical_law}

pub reads-push : (year : Terms) (text : List ℕ) (es : List Entry) (e : Entry) (mid rest : List ℕ) → ReadsFromLeft year text es mid → Begins year e mid rest
    → ReadsFromLeft year text (es ++ e ∷ []) rest
reads-push year text [] e mid rest r b = (rest, subst (λ (t : List ℕ). Begins year e t rest) (sym r) b, refl)
reads-push year text (f ∷ es) e mid rest r b = (r.0, r.1, reads-push year r.0 es e mid rest r.2 b)

pub last_gap-push : (es : List Entry) (e : Entry) → last_gap (es ++ e ∷ []) ≡ separator_for e
last_gap-push [] e = refl
last_gap-push (f ∷ []) e = refl
last_gap-push (f ∷ g ∷ es) e = last_gap-push (g ∷ es) e

pub canonical-push : (es : List Entry) (e : Entry) → canonical (es ++ e ∷ []) ≡ canonical es ++ last_gap es ++ (e.ai ++ e.value)
canonical-push [] e = refl
canonical-push (f ∷ []) e = refl
canonical-push (f ∷ g ∷ es) e =
    let front = f.ai ++ f.value ++ separator_for f in
    ap (λ (t : List ℕ). front ++ t) (canonical-push (g ∷ es) e)
    ∙ simp append_assoc

-- ---- how many elements there may be

long_enough : (year : Terms) (e : Entry) → (row : Row) × IsElement (rows_by year) year.year row e → 4 ≤ length e.ai + length e.value + length (separator_for e)
    × (3 ≤ length e.ai + length e.value)
long_enough year e (row, is) =
    let k = leb-true (cond row.predefined 4 3) (length row.ai + least_of row.parts) (all_at is_long_enough every_row row (in_table year row is.listed) each_is_long_enough) in
    let p = is_some-predefined_length year row e is in
    let ai = ap length is.ai in
    let least = is.value.least in
    elim (cases_Bool row.predefined) [
      | inl fixed ↦ let k4 : 4 ≤ length row.ai + least_of row.parts = rw fixed at k in (omega arith, omega arith)
      | inr open_end ↦ let k3 : 3 ≤ length row.ai + least_of row.parts = rw open_end at k in
          let one : length (separator_for e) ≡ 1 = rw (p, open_end) refl in (omega arith, omega arith)
    ]

pub few_elements : (year : Terms) (es : List Entry) → AreElements year es → 4 * length es ≤ length (canonical es) + 1
few_elements year [] are = omega arith
few_elements year (e ∷ []) are = let l = long_enough year e are.0 in let m = l.1 in omega (arith, length-append e.ai e.value)
few_elements year (e ∷ f ∷ es) are =
    let l = long_enough year e are.0 in
    let m = l.0 in
    omega (
      arith,
      few_elements year (f ∷ es) are.1,
      length-append (e.ai ++ e.value ++ separator_for e) (canonical (f ∷ es)),
      length-append (e.ai ++ e.value)
          (separator_for e),
      length-append e.ai e.value,
    )

-- how far a text is read: to the rest, and these elements stand in the canonical text
pub record IsReadTo (year : Terms) (text rest out : List ℕ) (separate : Bool) : Type 0 where
  pub list : List Entry
  pub reads : ReadsFromLeft year text list rest
  pub canonical_text : out ≡ canonical list
  pub gap_is : last_gap list ≡ separator_if separate

-- one element more, while a text is read
pub record Grows (year : Terms) (text out : List ℕ) (es : List Entry) (separate : Bool) (e : Entry) (rest : List ℕ) : Type 0 where
  pub reads : ReadsFromLeft year text (es ++ e ∷ []) rest
  pub canonical_text : out ++ separator_if separate ++ (e.ai ++ e.value) ≡ canonical (es ++ e ∷ [])
  pub room : length (out ++ separator_if separate ++ (e.ai ++ e.value)) ≤ length text
  pub gap_is : last_gap (es ++ e ∷ []) ≡ separator_for e

pub grows : (year : Terms) (text out : List ℕ) (es : List Entry) (separate : Bool) (e : Entry) (mid rest : List ℕ) → ReadsFromLeft year text es mid → out
    ≡ canonical es → last_gap es ≡ separator_if separate → Begins year e mid rest → Grows year text out es separate e rest
grows year text out es separate e mid rest reads out_is gap_is begins =
    let more = reads-push year text es e mid rest reads begins in
    let longer : out ++ separator_if separate ++ (e.ai ++ e.value) ≡ canonical (es ++ e ∷ []) = rw (out_is, ← gap_is) (sym (canonical-push es e)) in
    let short = canonical_shorter year text (es ++ e ∷ []) rest more in
    record {
      reads = more;
      canonical_text = longer;
      room = omega (arith, ap length longer, short);
      gap_is = last_gap-push es e;
    }

-- nothing is left
pub whole : (year : Terms) (text out : List ℕ) (es : List Entry) (rest : List ℕ) → 0 < length text → length text ≤ 192 → length rest ≡ 0
    → ReadsFromLeft year text es rest → out ≡ canonical es → IsElements year text es × IsElements year out es
whole year text out es rest some fits empty reads out_is =
    let is : IsElements year text es = record {
      some = some;
      fits = fits;
      reads =
          to_pieces year text es [] (subst (λ (r : List ℕ). ReadsFromLeft year text es r) (nil_from_length rest empty) reads);
    } in
    (is, subst (λ (t : List ℕ). IsElements year t es) (sym out_is) (canonical_law year text es is).0)

pub stops : (year : Terms) (text : List ℕ) (es : List Entry) (rest : List ℕ) (f : ElementFault) → 0 < length text → length text ≤ 192
    → ReadsFromLeft year text es rest → 0 < length rest → fault_at year (length text - length rest) rest ≡ Some f → FirstFault year text f
stops year text es rest f some fits reads left fault =
    let short = canonical_shorter year text es rest reads in
    let s : StopsWith year text f = record {
      before = es;
      rest = rest;
      reads = to_pieces year text es rest reads;
      some = left;
      place =
          length text - length rest;
      place_is = omega arith;
      fault = fault;
    } in
    subst (λ (o : Option ElementFault). MatchOption o (StopsWith year text f) (λ g. f ≡ g)) (sym (right_size text some fits)) s

gap-not : (p : Bool) → separator_if (not p) ≡ cond p [] (29 ∷ [])
gap-not true = refl
gap-not false = refl

pub separator_for-gap : (e : Entry) (p : Bool) → p ≡ is_some (predefined_length e.ai) → separator_for e ≡ separator_if (not p)
separator_for-gap e p is = rw (← is) (sym (gap-not p))
