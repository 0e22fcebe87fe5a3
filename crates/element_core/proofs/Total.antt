-- Each text has an answer.
use Rattle.std.proofs.Common.{◌≡◌, ◌⊎◌, ℕ, zero, suc, ◌+◌, ◌-◌, ◌<◌, ◌≤◌, List, [], ◌∷◌, length, Option, Some, None, refl, sym, ap, subst, arith, inl, inr}
use Rattle.std.specs.Prelude.{MatchOption}
use Rattle.std.proofs.lemmas.Bool.{cases_lt, cases_eq, lt-ltb}
use Rattle.std.proofs.lemmas.List.{nil_from_length}
use Rattle.element_core.specs.declared.fault.ElementFault.{ElementFault}
use Rattle.element_core.specs.declared.fault.ElementFault.TheVariants.{Empty, TooLong}
use Rattle.element_core.specs.Terms.{Terms, row_by_terms}
use Rattle.element_core.specs.inner.Elements.{fault_at}
use Rattle.element_core.specs.Elements.{Entry, IsElements, StopsWith, FirstFault, size_fault, fault_by, EachText}
use Rattle.element_core.specs.Fronts.{ReadsFromLeft}
use Rattle.element_core.specs.Shown.{shown_value, shown_rest}
use Rattle.element_core.proofs.Shown.{stands}
use Rattle.element_core.proofs.PieceLemmas.{to_pieces}
use Rattle.element_core.proofs.Canonical.{begins_shorter, canonical_shorter}
use Rattle.element_core.proofs.Unique.{right_size}

-- how far a text is read
record ReadsTo (year : Terms) (whole : ℕ) (text : List ℕ) : Type 0 where
  es : List Entry
  rest : List ℕ
  reads : ReadsFromLeft year text es rest
  ends : (length rest ≡ 0) ⊎ ((0 < length rest) × ((f : ElementFault) × (fault_at year (whole - length rest) rest ≡ Some f)))

seen : {X : Type 0} (o : Option X) → (o ≡ None) ⊎ ((x : X) × (o ≡ Some x))
seen None = inl refl
seen (Some x) = inr (x, refl)

reads_to : (n : ℕ) (year : Terms) (whole : ℕ) (text : List ℕ) → length text < n → ReadsTo year whole text
reads_to zero year whole text lt = absurd (omega arith)
reads_to (suc n) year whole text lt =
    elim (cases_eq (length text) 0) [
      | inl none ↦ record { es = []; rest = text; reads = refl; ends = inl none }
      | inr some ↦ elim (seen (fault_at year (whole - length text) text)) [
        | inr f ↦ record { es = []; rest = text; reads = refl; ends = inr (omega arith, f) }
        | inl right ↦ elim (seen (row_by_terms year text)) [
          | inl unknown ↦ absurd (let e = ap (fault_by year (whole - length text) text) unknown in let r = right in cc)
          | inr row ↦
              let b = stands year (whole - length text) row.0 text row.1 right in
              let e : Entry = record { ai = row.0.ai; value = shown_value row.0 text } in
              let s = begins_shorter year e text (shown_rest row.0 text) b in
              let some_ai = s.1 in
              let more = reads_to n year whole (shown_rest row.0 text) (omega (arith, s.0)) in
              record { es = e ∷ more.es; rest = more.rest; reads = (shown_rest row.0 text, b, more.reads); ends = more.ends }
        ]
      ]
    ]

at_size : (year : Terms) (text : List ℕ) (f : ElementFault) (o : Option ElementFault) → size_fault text ≡ o → MatchOption o (StopsWith year text f) (λ g. f ≡ g)
    → FirstFault year text f
at_size year text f o e h = subst (λ (p : Option ElementFault). MatchOption p (StopsWith year text f) (λ g. f ≡ g)) (sym e) h

answer : (year : Terms) (text : List ℕ) → 0 < length text → length text ≤ 192 → ReadsTo year (length text) text → ((es : List Entry) × IsElements year text es)
    ⊎ ((f : ElementFault) × FirstFault year text f)
answer year text some fits r =
    elim r.ends [
      | inl none ↦ inl (
        r.es,
        record {
          some = some;
          fits = fits;
          reads =
              to_pieces year text r.es [] (subst (λ (t : List ℕ). ReadsFromLeft year text r.es t) (nil_from_length r.rest none) r.reads);
        },
      )
      | inr f ↦
          let short = canonical_shorter year text r.es r.rest r.reads in
          let place_is : length text - length r.rest + length r.rest ≡ length text = omega arith in
          inr (
            f.1.0,
            at_size year text f.1.0 None (right_size text some fits)
                (record {
                  before = r.es;
                  rest = r.rest;
                  reads = to_pieces year text r.es r.rest r.reads;
                  some = f.0;
                  place =
                      length text - length r.rest;
                  place_is = place_is;
                  fault = f.1.1;
                }),
          )
    ]

pub each_text : EachText
each_text = λ year text.
    elim (cases_lt 192 (length text)) [
      | inl long ↦ inr (TooLong, at_size year text TooLong (Some TooLong) (rw (lt-ltb 192 (length text) long) refl) refl)
      | inr fits ↦ elim (cases_eq (length text) 0) [
        | inl none ↦ inr (Empty, at_size year text Empty (Some Empty) (rw (nil_from_length text none) refl) refl)
        | inr some ↦ answer year text (omega arith) fits (reads_to (length text + 1) year (length text) text (omega arith))
      ]
    ]
