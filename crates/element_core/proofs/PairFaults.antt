-- The faults of pairs, in the words of elements and of texts.
use Rattle.std.proofs.Common.{◌≡◌, ℕ, ◌+◌, ◌<◌, ◌≤◌, Bool, true, false, cond, eqb, ltb, not, List, [], ◌∷◌, ◌++◌, length, drop, Option, Some, None, refl, sym, ap, ◌∙◌, arith, inl, inr, length-drop}
use Rattle.std.specs.Prelude.{IsSome, is_some, nat_le}
use Rattle.std.proofs.lemmas.Bool.{and_parts, cases_Bool, leb-true, eq-eqb, le-ltb, lt-ltb, ne_eqb, ltb-false}
use Rattle.std.proofs.lemmas.List.{append-nil, drop_at, nil_from_length}
use Rattle.element_core.specs.declared.fault.ElementFault.{ElementFault}
use Rattle.element_core.specs.declared.fault.ElementFault.TheVariants.{Empty, UnknownAi, ValueLength, MissingSeparator, TooLong}
use Rattle.element_core.specs.declared.part.Part.{Part}
use Rattle.element_core.specs.Terms.{Terms, rows_by, row_by_terms, is_read_by}
use Rattle.element_core.specs.Table.{every_row, predefined_length, Row, begins, row_at, least_of, greatest_of}
use Rattle.element_core.specs.inner.Table.{is_of_digits}
use Rattle.element_core.specs.Elements.{Entry, IsElement, IsElements, each_part, has_whole_steps, value_in, field_of, row_fault, fault_by, canonical}
use Rattle.element_core.specs.inner.Elements.{AreElements}
use Rattle.element_core.specs.inner.PartTests.{value_fault}
use Rattle.element_core.specs.Pairs.{FaultlessPairs, HasRow, PairLengths, PairsAsTexts, UnknownPairs, entry_fault, entry_fault_by, entries_fault, list_fault}
use Rattle.element_core.proofs.PieceLemmas.{from_left, to_pieces}
use Rattle.element_core.proofs.Canonical.{canonical_reads, elements_are, or_true}
use Rattle.element_core.proofs.Fields.{value_in_field}
use Rattle.element_core.proofs.Growth.{few_elements}
use Rattle.element_core.proofs.Look.{all_at, predefined_is, begins-append, begins-split, predefined_length_is, in_table, read_row_found, read_row_is, row_is, no_read_row, read_row, unread_row}
use Rattle.element_core.proofs.PairLemmas.{entries_valid, fits, or_else-none, seen}
use Rattle.element_core.proofs.TableLaws.{each_is_of_digits}
use Rattle.element_core.proofs.Shown.{fits_no_fault, passes}

-- the row of an AI is found by the AI alone, and before its value
found_before : (year : Terms) (e : Entry) (row : Row) (value : List ℕ) → HasRow year e row → row_by_terms year (e.ai ++ value) ≡ Some row
found_before year e row value has =
    read_row_found year row (e.ai ++ value) has.listed (ap (λ (a : List ℕ). begins row.ai (a ++ value)) has.ai ∙ begins-append row.ai value)

found_alone : (year : Terms) (e : Entry) (row : Row) → HasRow year e row → row_by_terms year e.ai ≡ Some row
found_alone year e row has = ap (row_by_terms year) (sym (append-nil e.ai)) ∙ found_before year e row [] has

-- so its fault is that of its value
by_row : (year : Terms) (i : ℕ) (row : Row) (e : Entry) → HasRow year e row → entry_fault year i e ≡ row_fault year.year i (ValueLength i) row.parts e.value
by_row year i row e has =
    let same : eqb (length e.ai) (length row.ai) ≡ true = eq-eqb (length e.ai) (length row.ai) (ap length has.ai) in
    ap (entry_fault_by year i e) (found_alone year e row has) ∙ rw same refl

first_is : (a : Bool) (i : ℕ) → cond a (Some (ValueLength i)) (Some (ValueLength i)) ≡ Some (ValueLength i)
first_is true i = refl
first_is false i = refl

second_is : (a b : Bool) (i : ℕ) → cond a (Some (ValueLength i)) (cond b (Some (ValueLength i)) (Some (ValueLength i))) ≡ Some (ValueLength i)
second_is true b i = refl
second_is false b i = first_is b i

pub pair_lengths : PairLengths
pair_lengths = λ year i row e has wrong. by_row year i row e has ∙ elim wrong [
  | inl short ↦ rw (lt-ltb (length e.value) (least_of row.parts) short) refl
  | inr (inl long) ↦ rw (lt-ltb (greatest_of row.parts) (length e.value) long) (first_is (ltb (length e.value) (least_of row.parts)) i)
  | inr (inr odd) ↦ rw odd (second_is (ltb (length e.value) (least_of row.parts)) (ltb (greatest_of row.parts) (length e.value)) i)
]

-- the fault of a value that is neither too short nor too long
abbrev fault_within : ℕ → ℕ → List Part → List ℕ → Option ElementFault
fault_within year place parts v = cond (not (each_part has_whole_steps parts v)) (Some (ValueLength place)) (value_fault year place parts v)

-- there it is as whether its length is even, its characters, check digits and dates are
right_length : (year place : ℕ) (long : ElementFault) (row : Row) (v : List ℕ) → least_of row.parts ≤ length v → length v ≤ greatest_of row.parts
    → row_fault year place long row.parts v ≡ fault_within year place row.parts v
right_length year place long row v least greatest = rw (le-ltb (length v) (least_of row.parts) least, le-ltb (greatest_of row.parts) (length v) greatest) refl

pub pairs_as_texts : PairsAsTexts
pairs_as_texts = λ year i row e has least greatest plain.
    let rest : drop (length row.ai) (e.ai ++ e.value) ≡ e.value = drop_at e.ai e.value (length row.ai) (ap length has.ai) in
    let value : value_in row (field_of (drop (length row.ai) (e.ai ++ e.value))) ≡ e.value =
    ap (λ (t : List ℕ). value_in row (field_of t)) (rest ∙ sym (append-nil e.value))
    ∙ value_in_field row e.value [] (predefined_length_is row (in_table year row has.listed)) least greatest plain (or_true row.predefined) in
    by_row year i row e has ∙ right_length year.year i (ValueLength i) row e.value least greatest
    ∙ sym (ap (fault_by year i (e.ai ++ e.value)) (found_before year e row e.value has) ∙ ap (row_fault year.year i (MissingSeparator i) row.parts) value
    ∙ right_length year.year i (MissingSeparator i) row e.value least greatest)

pub unknown_pairs : UnknownPairs
unknown_pairs = λ year i e no_row.
    elim (seen (row_by_terms year e.ai)) [
      | inl unknown ↦ ap (entry_fault_by year i e) unknown
      | inr found ↦
          let row = found.0 in
          let r = read_row_is year row e.ai found.1 in
          let split = begins-split row.ai e.ai r.1 in
          let ne : length e.ai ≡ length row.ai → ⊥ = λ same. no_row row (record {
            listed = r.0;
            ai = split ∙ ap (λ (t : List ℕ). row.ai ++ t) (nil_from_length (drop (length row.ai) e.ai) (omega (arith, length-drop (length row.ai) e.ai)))
                ∙ append-nil row.ai;
          }) in
          ap (entry_fault_by year i e) found.1 ∙ rw (ne_eqb (length e.ai) (length row.ai) ne) refl
    ]

-- an element has no fault
no_fault : (year : Terms) (i : ℕ) (row : Row) (e : Entry) → IsElement (rows_by year) year.year row e → entry_fault year i e ≡ None
no_fault year i row e is = by_row year i row e (record { listed = is.listed; ai = is.ai }) ∙ fits_no_fault year.year i (ValueLength i) row e.value is.value

no_faults : (year : Terms) (i : ℕ) (es : List Entry) → AreElements year es → entries_fault year i es ≡ None
no_faults year i [] are = refl
no_faults year i (e ∷ es) are = rw (no_fault year i are.0.0 e are.0.1) (no_faults year (i + 1) es are.1)

some_of : (year : Terms) (es : List Entry) → IsElements year (canonical es) es → 0 < length es
some_of year [] is = is.some
some_of year (e ∷ es) is = omega arith

-- a list without a fault is not empty, has no faulty entry and is not too long
record IsFaultless (year : Terms) (es : List Entry) : Type 0 where
  some : 0 < length es
  entries : entries_fault year 0 es ≡ None
  short : length (canonical es) ≤ 192

faultless : (year : Terms) (es : List Entry) → list_fault year es ≡ None → IsFaultless year es
faultless year es none =
    let p = passes (eqb (length es) 0) Empty _ none in
    let q = or_else-none (entries_fault year 0 es) _ p.1 in
    let r = passes (ltb 192 (length (canonical es))) TooLong None q.1 in
    let long = ltb-false 192 (length (canonical es)) r.0 in
    let ne : length es ≡ 0 → ⊥ = λ z. let t = eq-eqb (length es) 0 z in let f = p.0 in absurd (let k = sym t ∙ f in cc) in
    record { some = omega arith; entries = q.0; short = long }

pub faultless_pairs : FaultlessPairs
faultless_pairs = λ year es. (
  λ none.
      let f = faultless year es none in
      let are = entries_valid year 0 es f.entries in
      record {
        some = omega (arith, f.some, few_elements year es are);
        fits = f.short;
        reads =
            to_pieces year (canonical es) es [] (canonical_reads year es are);
      },
  λ is. fits year es (some_of year es is) (no_faults year 0 es (elements_are year (canonical es) es [] (from_left year (canonical es) es [] is.reads))) is.fits,
)

-- each of the elements has its AI in the table
pub known_pair : (year : Terms) (es : List Entry) (e : Entry) (fs : List Entry) → AreElements year (es ++ e ∷ fs) → IsSome (row_at e.ai)
known_pair year [] e fs are = rw ((read_row_is year are.0.0 e.ai (found_alone year e are.0.0 (record { listed = are.0.1.listed; ai = are.0.1.ai }))).2) refl
known_pair year (x ∷ es) e fs are = known_pair year es e fs are.1

-- the first two digits of a text that begins with an AI are those of the AI
first_two : (a text : List ℕ) → 2 ≤ length a → predefined_length (a ++ text) ≡ predefined_length a
first_two [] text h = absurd (omega arith)
first_two (x ∷ []) text h = absurd (omega arith)
first_two (x ∷ y ∷ a) text h = refl

-- so its row says whether a separator is needed
pub predefined_ahead : (row : Row) (text : List ℕ) → row_at text ≡ Some row → row.predefined ≡ is_some (predefined_length text)
predefined_ahead row text found =
    let r = row_is row text found in
    let long = leb-true 2 (length row.ai) (and_parts (nat_le 2 (length row.ai)) _ (all_at is_of_digits every_row row r.0 each_is_of_digits)).0 in
    predefined_is row r.0 ∙ ap (λ o. is_some o) (sym (ap predefined_length (begins-split row.ai text r.1) ∙ first_two row.ai (drop (length row.ai) text) long))

-- ---- the fault of an entry, as the code finds it

pub unknown_entry : (year : Terms) (i : ℕ) (e : Entry) → row_at e.ai ≡ None → entry_fault year i e ≡ Some (UnknownAi i)
unknown_entry year i e none = ap (entry_fault_by year i e) (no_read_row year e.ai none)

pub unread_entry : (year : Terms) (i : ℕ) (e : Entry) (row : Row) → row_at e.ai ≡ Some row → is_read_by year row ≡ false
    → entry_fault year i e ≡ Some (UnknownAi i)
unread_entry year i e row here lacks = ap (entry_fault_by year i e) (unread_row year row e.ai here lacks)

pub longer_entry : (year : Terms) (i : ℕ) (e : Entry) (row : Row) → row_at e.ai ≡ Some row → (length e.ai ≡ length row.ai → ⊥)
    → entry_fault year i e ≡ Some (UnknownAi i)
longer_entry year i e row here ne =
    elim (cases_Bool (is_read_by year row)) [
      | inl holds ↦ ap (entry_fault_by year i e) (read_row year row e.ai here holds) ∙ rw (ne_eqb (length e.ai) (length row.ai) ne) refl
      | inr lacks ↦ unread_entry year i e row here lacks
    ]

pub known_entry : (year : Terms) (i : ℕ) (e : Entry) (row : Row) → row_at e.ai ≡ Some row → is_read_by year row ≡ true
    → length e.ai ≡ length row.ai → entry_fault year i e ≡ row_fault year.year i (ValueLength i) row.parts e.value
known_entry year i e row here holds same =
    ap (entry_fault_by year i e) (read_row year row e.ai here holds) ∙ rw (eq-eqb (length e.ai) (length row.ai) same) refl
