-- Pairs that are elements.
use Rattle.std.proofs.Common.{◌≡◌, ◌⊎◌, ℕ, ◌+◌, ◌<◌, ◌≤◌, Bool, eqb, not, List, [], ◌∷◌, ◌++◌, length, take, drop, get_or, Option, Some, None, refl, sym, ap, subst, ◌∙◌, append_assoc, arith, inl, inr, length-append, length-drop}
use Rattle.std.proofs.lemmas.Bool.{eqb-true, le-ltb, lt-ltb, ne_eqb, not-false}
use Rattle.std.proofs.lemmas.List.{nil_from_length, append-nil, take-append-drop, drop_more, take_more, map-append}
use Rattle.element_core.specs.declared.fault.ElementFault.{ElementFault}
use Rattle.element_core.specs.declared.fault.ElementFault.TheVariants.{UnknownAi, ValueLength, TooLong}
use Rattle.element_core.specs.declared.pairs.Pair.{Pair}
use Rattle.element_core.specs.Terms.{Terms, rows_by, row_by_terms}
use Rattle.element_core.specs.Table.{Row}
use Rattle.element_core.specs.Elements.{Entry, IsElement, IsElements, ReadsElements, canonical}
use Rattle.element_core.specs.inner.Elements.{AreElements}
use Rattle.element_core.specs.inner.Growing.{last_gap, separator_if}
use Rattle.element_core.specs.Pairs.{entry_of, entries_of, entry_fault, entry_fault_by, entries_fault, list_fault, or_else}
use Rattle.element_core.proofs.Look.{begins-split, read_row_is}
use Rattle.element_core.proofs.Shown.{passes, no_fault_fits}
use Rattle.element_core.proofs.PieceLemmas.{to_pieces}
use Rattle.element_core.proofs.Canonical.{canonical_reads}
use Rattle.element_core.proofs.Growth.{canonical-push, few_elements}

pub seen : {X : Type 0} (o : Option X) → (o ≡ None) ⊎ ((x : X) × (o ≡ Some x))
seen None = inl refl
seen (Some x) = inr (x, refl)

-- an entry without a fault is an element
entry_valid : (year : Terms) (i : ℕ) (e : Entry) → entry_fault year i e ≡ None → (row : Row) × IsElement (rows_by year) year.year row e
entry_valid year i e none =
    elim (seen (row_by_terms year e.ai)) [
      | inl unknown ↦ absurd (let k = ap (entry_fault_by year i e) unknown in let n = none in cc)
      | inr found ↦
          let row = found.0 in
          let r = read_row_is year row e.ai found.1 in
          let k : entry_fault_by year i e (Some row) ≡ None = sym (ap (entry_fault_by year i e) found.1) ∙ none in
          let p = passes (not (eqb (length e.ai) (length row.ai))) (UnknownAi i) _ k in
          let same = eqb-true (length e.ai) (length row.ai) (not-false _ p.0) in
          let ai = begins-split row.ai e.ai r.1 in
          let nothing : drop (length row.ai) e.ai ≡ [] = nil_from_length (drop (length row.ai) e.ai) (omega (arith, length-drop (length row.ai) e.ai)) in (
            row,
            record {
              listed = r.0;
              ai = ai ∙ ap (λ (t : List ℕ). row.ai ++ t) nothing ∙ append-nil row.ai;
              value =
                  no_fault_fits year.year i (ValueLength i) row e.value p.1;
            },
          )
    ]

pub or_else-none : (a b : Option ElementFault) → or_else a b ≡ None → (a ≡ None) × (b ≡ None)
or_else-none None b e = (refl, e)
or_else-none (Some f) b e = absurd cc

pub entries_valid : (year : Terms) (i : ℕ) (es : List Entry) → entries_fault year i es ≡ None → AreElements year es
entries_valid year i [] e = tt
entries_valid year i (x ∷ es) e =
    let p = or_else-none (entry_fault year i x) (entries_fault year (i + 1) es) e in
    (entry_valid year i x p.0, entries_valid year (i + 1) es p.1)

-- more elements make no shorter text
pub canonical_grows : (es fs : List Entry) → length (canonical es) ≤ length (canonical (es ++ fs))
canonical_grows es [] = rw append-nil (omega arith)
canonical_grows es (f ∷ fs) =
    let more = canonical_grows (es ++ f ∷ []) fs in
    let regrouped : es ++ f ∷ [] ++ fs ≡ es ++ f ∷ fs = append_assoc es (f ∷ []) fs in
    let push = canonical-push es f in
    omega (
      arith,
      ap length push,
      ap (λ (gs : List Entry). length (canonical gs)) regrouped,
      more,
      length-append (canonical es ++ last_gap es)
          (f.ai ++ f.value),
      length-append (canonical es) (last_gap es),
    )

-- one element more of a list that is known
pub record Adds (out : List ℕ) (done all : List Entry) (separate : Bool) (e : Entry) : Type 0 where
  pub canonical_text : out ++ separator_if separate ++ (e.ai ++ e.value) ≡ canonical (done ++ e ∷ [])
  pub size : length (out ++ separator_if separate ++ (e.ai ++ e.value)) ≡ length out + length (separator_if separate) + length e.ai + length e.value
  pub below : length (canonical (done ++ e ∷ [])) ≤ length (canonical all)

pub adds : (out : List ℕ) (done rest all : List Entry) (separate : Bool) (e : Entry) → all ≡ done ++ e ∷ rest → out ≡ canonical done → last_gap done
    ≡ separator_if separate → Adds out done all separate e
adds out done rest all separate e all_is out_is gap_is =
    record {
      canonical_text = rw (out_is, ← gap_is) (sym (canonical-push done e));
      size = omega (
        arith,
        length-append (out ++ separator_if separate) (e.ai ++ e.value),
        length-append out (separator_if separate),
        length-append e.ai
            e.value,
      );
      below = subst (λ (es : List Entry). length (canonical (done ++ e ∷ [])) ≤ length (canonical es)) (append_assoc done (e ∷ []) rest ∙ sym all_is)
          (canonical_grows (done ++ e ∷ []) rest);
    }

pub too_long : (year : Terms) (all : List Entry) → 0 < length all → entries_fault year 0 all ≡ None → 192 < length (canonical all) → list_fault year all
    ≡ Some TooLong
too_long year all some none long =
    let ne : length all ≡ 0 → ⊥ = λ e. omega arith in
    rw (ne_eqb (length all) 0 ne, none, lt-ltb 192 (length (canonical all)) long) refl

pub fits : (year : Terms) (all : List Entry) → 0 < length all → entries_fault year 0 all ≡ None → length (canonical all) ≤ 192 → list_fault year all ≡ None
fits year all some none short =
    let ne : length all ≡ 0 → ⊥ = λ e. omega arith in
    rw (ne_eqb (length all) 0 ne, none, le-ltb 192 (length (canonical all)) short) refl

-- the entry at an index, between those before and after it
pub entries_split : (pairs : List Pair) (i : ℕ) (pair : Pair) → i < length pairs → pair ≡ get_or pairs i pair → entries_of pairs ≡ entries_of (take i pairs)
    ++ entry_of pair ∷ entries_of (drop (i + 1) pairs)
entries_split pairs i pair lt is =
    let parts : pairs ≡ take i pairs ++ pair ∷ drop (i + 1) pairs =
    sym (take-append-drop i pairs) ∙ ap (λ (ps : List Pair). take i pairs ++ ps)
    (drop_more pairs i pair lt ∙ ap (λ (p : Pair). p ∷ drop (i + 1) pairs) (sym is)) in
    ap entries_of parts ∙ map-append entry_of (take i pairs) (pair ∷ drop (i + 1) pairs)

pub entries_more : (pairs : List Pair) (i : ℕ) (pair : Pair) → i < length pairs → pair ≡ get_or pairs i pair → entries_of (take (i + 1) pairs)
    ≡ entries_of (take i pairs) ++ entry_of pair ∷ []
entries_more pairs i pair lt is =
    ap entries_of (take_more pairs i pair lt ∙ ap (λ (p : Pair). take i pairs ++ p ∷ []) (sym is)) ∙ map-append entry_of (take i pairs) (pair ∷ [])

-- the canonical text of elements is their element string
pub finished : (year : Terms) (out : List ℕ) (es all : List Entry) → AreElements year all → es ≡ all → out ≡ canonical es → 0 < length all → length out ≤ 192
    → IsElements year out es
finished year out es all are is out_is some short =
    let these = subst (AreElements year) (sym is) are in
    let few = few_elements year es these in
    record {
      some = omega (arith, ap length is, ap length out_is, few);
      fits = short;
      reads =
          subst (λ (t : List ℕ). ReadsElements (rows_by year) year.year t es []) (sym out_is) (to_pieces year (canonical es) es [] (canonical_reads year es these));
    }
