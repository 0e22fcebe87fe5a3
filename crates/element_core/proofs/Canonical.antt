-- The canonical text is read as the same list.
use Rattle.std.proofs.Common.{◌≡◌, ℕ, zero, suc, ◌+◌, ◌<◌, ◌≤◌, Bool, true, false, cond, eqb, ◌||◌, ◌⊎◌, List, [], ◌∷◌, ◌++◌, length, Option, Some, None, refl, sym, ap, subst, ◌∙◌, append_assoc, arith, inl, inr, length-append}
use Rattle.std.specs.Prelude.{is_some}
use Rattle.std.proofs.lemmas.Bool.{cases_Bool, and_parts, not-true, ne_eqb, leb-true}
use Rattle.std.proofs.lemmas.List.{append-nil, nil_from_length}
use Rattle.element_core.specs.Terms.{Terms, rows_by}
use Rattle.element_core.specs.Table.{Row, every_row, first_digits_decide, predefined_length}
use Rattle.element_core.specs.inner.Table.{begins_with_digit}
use Rattle.element_core.specs.Elements.{Entry, IsElement, separator_for, canonical, CanonicalReads}
use Rattle.element_core.specs.inner.Elements.{AreElements}
use Rattle.element_core.specs.Fronts.{Begins, ends_element, after_separator, ReadsFromLeft}
use Rattle.element_core.proofs.TableLaws.{each_begins_with_digit, first_digits_decide as digits_decide}
use Rattle.element_core.proofs.Look.{all_at, in_table}
use Rattle.element_core.proofs.PieceLemmas.{from_left, to_pieces}
use Rattle.element_core.proofs.Unique.{not_stuck, stuck_at_end, IsStuck}

kept : (ai rest : List ℕ) → begins_with_digit ai ≡ true → after_separator (ai ++ rest) ≡ ai ++ rest
kept [] rest h = absurd cc
kept (a ∷ ai) rest h =
    let p = and_parts _ _ h in
    let low = leb-true 48 a p.0 in
    let ne : a ≡ 29 → ⊥ = λ e. omega arith in
    rw (ne_eqb a 29 ne) refl

-- an element stands first in a canonical text, and so no separator does
canonical_kept : (year : Terms) (e : Entry) (es : List Entry) → AreElements year (e ∷ es) → after_separator (canonical (e ∷ es)) ≡ canonical (e ∷ es)
canonical_kept year e [] are =
    kept e.ai e.value (ap begins_with_digit are.0.1.ai ∙ all_at (λ row. begins_with_digit row.ai) every_row are.0.0 (in_table year are.0.0 are.0.1.listed) each_begins_with_digit)
canonical_kept year e (f ∷ es) are =
    let digit = ap begins_with_digit are.0.1.ai ∙ all_at (λ row. begins_with_digit row.ai) every_row are.0.0 (in_table year are.0.0 are.0.1.listed) each_begins_with_digit in
    let c = canonical (f ∷ es) in
    let parts : canonical (e ∷ f ∷ es) ≡ e.ai ++ (e.value ++ (separator_for e ++ c)) =
    append_assoc (e.ai ++ e.value) (separator_for e) c ∙ append_assoc e.ai e.value (separator_for e ++ c) in
    ap after_separator parts ∙ kept e.ai (e.value ++ (separator_for e ++ c)) digit ∙ sym parts

decided : (r : Row) (all : Option ℕ) → first_digits_decide r all ≡ true → is_some all ≡ r.predefined
decided r None h = sym (not-true r.predefined h)
decided r (Some all) h = sym (and_parts _ _ (and_parts _ _ h).0).0

-- the first two digits say whether an element is predefined
pub is_some-predefined_length : (year : Terms) (row : Row) (e : Entry) → IsElement (rows_by year) year.year row e → is_some (predefined_length e.ai) ≡ row.predefined
is_some-predefined_length year row e is = ap (λ (a : List ℕ). is_some (predefined_length a)) is.ai
    ∙ decided row (predefined_length row.ai) (all_at (λ r. first_digits_decide r (predefined_length r.ai)) every_row row (in_table year row is.listed) digits_decide)

pub or_true : (b : Bool) → (b || true) ≡ true
or_true true = refl
or_true false = refl

pub canonical_reads : (year : Terms) (es : List Entry) → AreElements year es → ReadsFromLeft year (canonical es) es []
canonical_reads year [] are = refl
canonical_reads year (e ∷ []) are = (
  [],
  record {
    row = are.0.0;
    element = are.0.1;
    after = [];
    text_is = sym (append-nil (e.ai ++ e.value));
    closed = or_true are.0.0.predefined;
    rest_is =
        refl;
  },
  refl,
)
canonical_reads year (e ∷ f ∷ es) are =
    let c = canonical (f ∷ es) in
    let known = is_some-predefined_length year are.0.0 e are.0.1 in
    let kept_c = canonical_kept year f es are.1 in
    let more = canonical_reads year (f ∷ es) are.1 in
    let made : (p : Bool) → p ≡ are.0.0.predefined → ((are.0.0.predefined || ends_element (cond p [] (29 ∷ []) ++ c)) ≡ true)
    × (c ≡ after_separator (cond p [] (29 ∷ []) ++ c)) =
    λ p. elim p as (λ q. q ≡ are.0.0.predefined → ((are.0.0.predefined || ends_element (cond q [] (29 ∷ []) ++ c)) ≡ true)
    × (c ≡ after_separator (cond q [] (29 ∷ []) ++ c))) [
      | true ↦ λ k. (rw (← k) refl, sym kept_c)
      | false ↦ λ k. (or_true are.0.0.predefined, refl)
    ] in
    let m = made (is_some (predefined_length e.ai)) known in (
      c,
      record {
        row = are.0.0;
        element = are.0.1;
        after = separator_for e ++ c;
        text_is = append_assoc (e.ai ++ e.value) (separator_for e) c;
        closed =
            m.0;
        rest_is = m.1;
      },
      more,
    )

pub elements_are : (year : Terms) (text : List ℕ) (es : List Entry) (rest : List ℕ) → ReadsFromLeft year text es rest → AreElements year es
elements_are year text [] rest r = tt
elements_are year text (e ∷ es) rest r = ((r.1.row, r.1.element), elements_are year r.0 es rest r.2)

abbrev gap : Bool → List ℕ
gap p = cond p [] (29 ∷ [])

-- how much of a text is behind its value
behind : (after rest : List ℕ) (p : Bool) → (p || ends_element after) ≡ true → rest ≡ after_separator after → 0 < length rest
    → length (gap p) + length rest ≤ length after
behind [] rest p closed rest_is some = absurd (omega (arith, ap length rest_is))
behind (b ∷ after) rest true closed rest_is some =
    elim (cases_Bool (eqb b 29)) [
      | inl here ↦ let is : rest ≡ after = rw here at rest_is in omega (arith, ap length is)
      | inr here ↦ let is : rest ≡ b ∷ after = rw here at rest_is in omega (arith, ap length is)
    ]
behind (b ∷ after) rest false closed rest_is some =
    let is : rest ≡ after = rw closed at rest_is in omega (arith, ap length is)

cases_zero : (n : ℕ) → (n ≡ 0) ⊎ (0 < n)
cases_zero zero = inl refl
cases_zero (suc n) = inr (omega arith)

nothing : (year : Terms) (text : List ℕ) (e : Entry) (es : List Entry) (rest : List ℕ) → length text ≡ 0 → ReadsFromLeft year text (e ∷ es) rest → ⊥
nothing year text e es rest z r = not_stuck year e text r.0 r.1 (subst (IsStuck year) (sym (nil_from_length text z)) (stuck_at_end year))

pub rest_shorter : (after rest : List ℕ) → rest ≡ after_separator after → length rest ≤ length after
rest_shorter [] rest e = omega (arith, ap length e)
rest_shorter (b ∷ after) rest e =
    elim (cases_Bool (eqb b 29)) [
      | inl here ↦ let is : rest ≡ after = rw here at e in omega (arith, ap length is)
      | inr here ↦ let is : rest ≡ b ∷ after = rw here at e in omega (arith, ap length is)
    ]

pub some_digit : (ai : List ℕ) → begins_with_digit ai ≡ true → 0 < length ai
some_digit [] h = absurd cc
some_digit (a ∷ ai) h = omega arith

-- an element takes some of the text
pub begins_shorter : (year : Terms) (e : Entry) (text rest : List ℕ) → Begins year e text rest → length e.ai + length e.value + length rest ≤ length text
    × (0 < length e.ai)
begins_shorter year e text rest b =
    let some = some_digit e.ai (ap begins_with_digit b.element.ai
    ∙ all_at (λ row. begins_with_digit row.ai) every_row b.row (in_table year b.row b.element.listed) each_begins_with_digit) in
    (omega (arith, ap length b.text_is, length-append (e.ai ++ e.value) b.after, length-append e.ai e.value, rest_shorter b.after rest b.rest_is), some)

-- a text that is read on is not empty
some_left : (year : Terms) (text : List ℕ) (e : Entry) (es : List Entry) (rest : List ℕ) → ReadsFromLeft year text (e ∷ es) rest → 0 < length text
some_left year text e es rest r = let s = begins_shorter year e text r.0 r.1 in let t = s.0 in let u = s.1 in omega arith

pub canonical_shorter : (year : Terms) (text : List ℕ) (es : List Entry) (rest : List ℕ) → ReadsFromLeft year text es rest
    → length (canonical es) + length rest ≤ length text
canonical_shorter year text [] rest r = omega (arith, ap length r)
canonical_shorter year text (e ∷ []) rest r =
    let s = begins_shorter year e text r.0 r.1 in let t = s.0 in
    omega (arith, ap length r.2, length-append e.ai e.value)
canonical_shorter year text (e ∷ f ∷ es) rest r =
    let b = r.1 in
    let more = canonical_shorter year r.0 (f ∷ es) rest r.2 in
    let some : 0 < length r.0 = some_left year r.0 f es rest r.2 in
    let k = behind b.after r.0 b.row.predefined b.closed b.rest_is some in
    let sep : length (separator_for e) ≡ length (gap b.row.predefined) = ap (λ (p : Bool). length (gap p)) (is_some-predefined_length year b.row e b.element) in
    omega (
      arith,
      ap length b.text_is,
      length-append (e.ai ++ e.value) b.after,
      length-append (e.ai ++ e.value ++ separator_for e) (canonical (f ∷ es)),
      length-append (e.ai ++ e.value) (separator_for e),
      sep,
      k,
      more,
    )

-- the canonical text of a list of elements is not empty
canonical_some : (year : Terms) (text : List ℕ) (es : List Entry) → 0 < length text → ReadsFromLeft year text es [] → 0 < length (canonical es)
canonical_some year text es some r =
    elim (cases_zero (length (canonical es))) [
      | inl z ↦ absurd (no_elements es z some r)
      | inr s ↦ s
    ]
  where
    no_elements : (es : List Entry) → length (canonical es) ≡ 0 → 0 < length text → ReadsFromLeft year text es [] → ⊥
    no_elements [] z some r = omega (arith, ap length r)
    no_elements (e ∷ es) z some r = nothing year (canonical (e ∷ es)) e es [] z (canonical_reads year (e ∷ es) (elements_are year text (e ∷ es) [] r))

pub canonical_law : CanonicalReads
canonical_law = λ year text es is.
    let fits = is.fits in
    let some = is.some in
    let reads = from_left year text es [] is.reads in
    let shorter : length (canonical es) ≤ length text = omega (arith, canonical_shorter year text es [] reads) in
    let again = to_pieces year (canonical es) es [] (canonical_reads year es (elements_are year text es [] reads)) in
    (record { some = canonical_some year text es some reads; fits = omega arith; reads = again }, shorter)
