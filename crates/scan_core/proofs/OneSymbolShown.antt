-- A row shows at most one symbol.
use Rattle.std.proofs.Common.{◌≡◌, ℕ, ◌+◌, ◌%◌, ◌<◌, inl, inr, List, [], ◌∷◌, length, reverse, sum, Option, Some, None, refl, sym, ap, subst, ◌∙◌, arith, get_or}
use Rattle.std.proofs.lemmas.Bool.{cases_eq}
use Rattle.std.proofs.lemmas.List.{reverse-reverse}
use Rattle.std.proofs.lemmas.List.Elements.{AllZip-get_or}
use Rattle.ean_code.specs.declared.kind.Kind.{Kind}
use Rattle.ean_code.specs.Symbols.{module_count, width_count}
use Rattle.ean_code.specs.declared.kind.Kind.TheVariants.{Ean8 as KindEan8}
use Rattle.ean_code.specs.Laws.{EachKindIsOneWay}
use Rattle.code128_code.specs.Laws.{Measures, OneWay}
use Rattle.scan_core.specs.declared.carrier.Carrier.{Carrier}
use Rattle.scan_core.specs.declared.carrier.Carrier.TheVariants.{Ean8, Gs1128}
use Rattle.scan_core.specs.Row.{IsRow, inner}
use Rattle.scan_core.specs.Showing.{HasSize, IsRun, IsSymbol, Rounds, Shows, Way, along, kind_of}
use Rattle.scan_core.specs.Showing.Way.{Forwards, Backwards}
use Rattle.scan_core.proofs.CandidateFacts.{candidate_dots, one_gs1128}
use Rattle.ean_code.proofs.AllKinds.{one_kind}
use Rattle.scan_core.proofs.KindFacts.{apart, narrow_ends, one_carrier}
use Rattle.scan_core.proofs.WayFacts.{one_lying, rounds_lying}

-- what holds of the symbols of each carrier
pub record SymbolLaws : Type 0 where
  pub ean : EachKindIsOneWay
  pub code : OneWay
  pub measures : Measures

-- a symbol measures what its carrier says
pub code_measures : Measures → (ms : List ℕ) → IsSymbol (kind_of Gs1128) ms → HasSize (kind_of Gs1128) (length ms) (sum ms)
code_measures law ms f =
    let m = law f.0 f.2 f.1 ms f.3 in (length f.1 + 2, m.least, m.greatest, m.count, m.total)

module _ (laws : SymbolLaws) where
  one_form : (kind : Option Kind) (ms : List ℕ) → IsSymbol kind ms → IsSymbol kind (reverse ms) → ⊥
  one_form (Some kind) ms e f = laws.ean kind ms e.0 f.0 e.1 f.1
  one_form None ms e f = laws.code e.0 f.0 e.2 f.2 e.1 f.1 ms e.3 f.3

  -- what lies in one way in a row has the form in one way
  one_way : (c : Carrier) (v w : Way) (ms ks : List ℕ) → IsSymbol (kind_of c) ms → IsSymbol (kind_of c) ks → along v ms ≡ along w ks → (v ≡ w) × (ms ≡ ks)
  one_way c Forwards Forwards ms ks f g e = (refl, e)
  one_way c Forwards Backwards ms ks f g e = absurd (one_form (kind_of c) ks g (subst (IsSymbol (kind_of c)) e f))
  one_way c Backwards Forwards ms ks f g e = absurd (one_form (kind_of c) ms f (subst (IsSymbol (kind_of c)) (sym e) g))
  one_way c Backwards Backwards ms ks f g e = (refl, sym (reverse-reverse ms) ∙ ap reverse e ∙ reverse-reverse ks)

  -- ---- 43 runs: EAN-8 has outer bars of one module, GS1-128 of two

  -- a run of one module among 67 is narrower than one of two among 79
  narrower : (W w : ℕ) → 0 < W → IsRun 67 W w 1 → IsRun 79 W w 2 → ⊥
  narrower W w pos a b = let high = a.near in let low = b.near in omega arith

  first_run : (N : ℕ) (runs ms : List ℕ) → 0 < sum runs → Rounds runs N ms → IsRun N (sum runs) (get_or runs 0 0) (get_or ms 0 0)
  first_run N [] ms pos h = absurd (omega arith)
  first_run N (w ∷ runs) ms pos h = AllZip-get_or (IsRun N (sum (w ∷ runs))) (w ∷ runs) ms 0 0 0 h (omega arith)

  -- the first bar, either way
  bar_of_ean8 : (v : Way) (ms : List ℕ) → IsSymbol (kind_of Ean8) ms → get_or (along v ms) 0 0 ≡ 1
  bar_of_ean8 Forwards ms f = (narrow_ends KindEan8 ms f.0 f.1).0.bar
  bar_of_ean8 Backwards ms f = (narrow_ends KindEan8 ms f.0 f.1).1.bar

  bar_of_gs1128 : (v : Way) (ms : List ℕ) → IsSymbol (kind_of Gs1128) ms → get_or (along v ms) 0 0 ≡ 2
  bar_of_gs1128 Forwards ms f = (laws.measures f.0 f.2 f.1 ms f.3).first_bar
  bar_of_gs1128 Backwards ms f = (laws.measures f.0 f.2 f.1 ms f.3).last_bar

  -- no row is both
  overlap : (v w : Way) (runs ms ks : List ℕ) → 0 < sum runs → Rounds (along v runs) 67 ms → Rounds (along w runs) 79 ks
      → IsSymbol (kind_of Ean8) ms → IsSymbol (kind_of Gs1128) ks → ⊥
  overlap v w runs ms ks pos a b f g =
      narrower (sum runs) (get_or runs 0 0) pos
      (subst (IsRun 67 (sum runs) (get_or runs 0 0)) (bar_of_ean8 v ms f) (first_run 67 runs (along v ms) pos (rounds_lying v runs 67 ms a)))
      (subst (IsRun 79 (sum runs) (get_or runs 0 0)) (bar_of_gs1128 w ks g) (first_run 79 runs (along w ks) pos (rounds_lying w runs 79 ks b)))

-- two candidates of a row are of one carrier, or 43 runs are taken as both
data Meet : Carrier → Carrier → ℕ → ℕ → Type 0 where
  same_carrier : {c : Carrier} {N : ℕ} → Meet c c N N
  ean_first : Meet Ean8 Gs1128 67 79
  ean_second : Meet Gs1128 Ean8 79 67

met_at : (c : Carrier) (N M : ℕ) → N ≡ M → Meet c c N M
met_at c N M e = subst (λ K. Meet c c N K) e same_carrier

-- a number's kind among them that has 6k + 7 runs is that of EAN-8, k is 6, and it is 67 and 79 modules wide
eight : (kind : Kind) (c : Carrier) (n N M : ℕ) → kind_of c ≡ Some kind → HasSize (Some kind) n N → HasSize (kind_of Gs1128) n M
    → (c ≡ Ean8) × (N ≡ 67) × (M ≡ 79)
eight kind c n N M e x y =
    let runs = y.3 in
    let wide = y.4 in
    elim (cases_eq (width_count kind) 43) [
      | inl is ↦
          let same : kind ≡ KindEan8 = one_kind kind KindEan8 is in
          let count : N ≡ 67 = x.1 ∙ ap module_count same in
          let six = x.0 in
          (one_carrier c Ean8 (e ∙ ap Some same), count, omega arith)
      | inr other ↦ absurd (let no = apart kind other in let n_is = x.0 in let one : width_count kind % 6 ≡ 1 = omega arith in no one)
    ]

meet : (a b : Carrier) (n N M : ℕ) → HasSize (kind_of a) n N → HasSize (kind_of b) n M → Meet a b N M
meet a b n N M x y = by (kind_of a) (kind_of b) refl refl x y
  where
    alike : (c d : Carrier) (K L : ℕ) → c ≡ d → K ≡ L → Meet c d K L
    alike c d K L e f = subst (λ d. Meet c d K L) e (met_at c K L f)

    by : (k l : Option Kind) → kind_of a ≡ k → kind_of b ≡ l → HasSize k n N → HasSize l n M → Meet a b N M
    by (Some k) (Some l) e f x y =
        let same = one_kind k l (sym x.0 ∙ y.0) in
        alike a b N M (one_carrier a b (e ∙ ap Some same ∙ sym f)) (x.1 ∙ ap module_count same ∙ sym y.1)
    by (Some k) None e f x y =
        let is = eight k a n N M e x y in rw (is.0, is.1, is.2, one_carrier b Gs1128 f) ean_first
    by None (Some l) e f x y =
        let is = eight l b n M N f y x in rw (is.0, is.1, is.2, one_carrier a Gs1128 e) ean_second
    by None None e f x y = alike a b N M (one_carrier a b (e ∙ sym f)) (one_gs1128 n N M x y)

settle : SymbolLaws → (a b : Carrier) (N M : ℕ) → Meet a b N M → (v w : Way) (runs ms ks : List ℕ) → 0 < sum runs
    → Rounds (along v runs) N ms → Rounds (along w runs) M ks → IsSymbol (kind_of a) ms → IsSymbol (kind_of b) ks → (a ≡ b) × (v ≡ w) × (ms ≡ ks)
settle laws a b N M same_carrier v w runs ms ks pos x y f g =
    let one = one_way laws a v w ms ks f g (one_lying v w runs N ms ks pos x y) in (refl, one.0, one.1)
settle laws a b N M ean_first v w runs ms ks pos x y f g = absurd (overlap laws v w runs ms ks pos x y f g)
settle laws a b N M ean_second v w runs ms ks pos x y f g = absurd (overlap laws w v runs ks ms pos y x g f)

-- a row shows one symbol, one way
pub one_symbol : SymbolLaws → (runs : List ℕ) (c d : Carrier) (v w : Way) (ms ks : List ℕ) → IsRow runs → Shows runs c v ms → Shows runs d w ks
    → (c ≡ d) × (v ≡ w) × (ms ≡ ks)
one_symbol laws runs c d v w ms ks row s t =
    settle laws c d s.N t.N (meet c d (length (inner runs)) s.N t.N s.candidate t.candidate) v w (inner runs) ms ks
    (candidate_dots runs c s.N row s.candidate) s.rounds t.rounds s.form t.form
