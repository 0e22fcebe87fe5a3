-- What is a candidate.
use Rattle.std.proofs.Common.{◌≡◌, ◌≢◌, ◌⊎◌, ℕ, ◌-◌, ◌%◌, ◌<◌, ◌≤◌, ◌∙◌, true, List, Option, Some, None, drop, length, sum, Contains, refl, sym, ap, arith, inl, inr, length-drop, length-take}
use Rattle.ean_code.specs.declared.kind.Kind.{Kind}
use Rattle.ean_code.specs.Symbols.{module_count, width_count}
use Rattle.scan_core.specs.declared.carrier.Carrier.{Carrier}
use Rattle.scan_core.specs.declared.carrier.Carrier.TheVariants.{Gs1128}
use Rattle.scan_core.specs.Row.{IsRow, dots_of, inner}
use Rattle.scan_core.specs.Showing.{HasSize, kind_of}
use Rattle.ean_code.proofs.AllKinds.{one_kind}
use Rattle.scan_core.proofs.KindFacts.{few, one_carrier}
use Rattle.scan_core.proofs.RowFacts.{has_dark, some_dots}

-- a carrier is GS1-128, or one whose symbols have one length
pub which : (c : Carrier) → (c ≡ Gs1128) ⊎ (c ≢ Gs1128)
which c = by (kind_of c) refl
  where
    by : (kind : Option Kind) → kind_of c ≡ kind → (c ≡ Gs1128) ⊎ (c ≢ Gs1128)
    by (Some kind) e = inr (λ same. let none = ap kind_of same in cc)
    by None e = inl (one_carrier c Gs1128 e)

-- a number of runs is that of one such carrier, and has one width
pub one_fixed : (c d : Carrier) (n N M : ℕ) → c ≢ Gs1128 → d ≢ Gs1128 → HasSize (kind_of c) n N → HasSize (kind_of d) n M → (c ≡ d) × (N ≡ M)
one_fixed c d n N M p q a b = by (kind_of c) (kind_of d) refl refl a b
  where
    by : (k l : Option Kind) → kind_of c ≡ k → kind_of d ≡ l → HasSize k n N → HasSize l n M → (c ≡ d) × (N ≡ M)
    by (Some k) (Some l) e f x y =
        let same = one_kind k l (sym x.0 ∙ y.0) in
        (one_carrier c d (e ∙ ap Some same ∙ sym f), x.1 ∙ ap module_count same ∙ sym y.1)
    by None l e f x y = absurd (p (one_carrier c Gs1128 e))
    by k None e f x y = absurd (q (one_carrier d Gs1128 f))

-- where no kind has so many widths, no such carrier's symbols have so many runs
pub none_fixed : (n : ℕ) → ((kind : Kind) → width_count kind ≢ n) → (c : Carrier) (N : ℕ) → c ≢ Gs1128 → HasSize (kind_of c) n N → ⊥
none_fixed n none c N ne a = by (kind_of c) refl a
  where
    by : (kind : Option Kind) → kind_of c ≡ kind → HasSize kind n N → ⊥
    by (Some kind) e x = none kind (sym x.0)
    by None e x = ne (one_carrier c Gs1128 e)

-- and one width as GS1-128
pub one_gs1128 : (n N M : ℕ) → HasSize (kind_of Gs1128) n N → HasSize (kind_of Gs1128) n M → N ≡ M
one_gs1128 n N M a b = let i = a.3 in let j = b.3 in let p = a.4 in let q = b.4 in omega arith

-- a symbol has an odd number of runs, 25 at least and 595 at most, and 5 to 1,091 modules
sized : (kind : Option Kind) (n N : ℕ) → HasSize kind n N → (25 ≤ n) × (n ≤ 595) × (n % 2 ≡ 1) × (N ≤ 1091) × (5 ≤ N)
sized (Some kind) n N a =
    let f = few kind in
    rw (a.0, a.1) (f.least, f.most, f.odd, f.modules, f.wide)
sized None n N a =
    let l = a.1 in let m = a.2 in let e = a.3 in let w = a.4 in (omega arith, omega arith, omega arith, omega arith, omega arith)

pub few_runs : (c : Carrier) (n N : ℕ) → HasSize (kind_of c) n N → (25 ≤ n) × (n ≤ 595) × (n % 2 ≡ 1)
few_runs c n N a = let s = sized (kind_of c) n N a in (s.0, s.1, s.2)

-- a symbol is at most 1,091 modules wide
pub most_modules : (c : Carrier) (n N : ℕ) → HasSize (kind_of c) n N → N ≤ 1091
most_modules c n N a = (sized (kind_of c) n N a).3

-- no candidate has fewer than five modules
pub least_modules : (c : Carrier) (n N : ℕ) → HasSize (kind_of c) n N → 5 ≤ N
least_modules c n N a = (sized (kind_of c) n N a).4

-- a row with a candidate has runs of dark dots, and of dots at all
pub candidate_dark : (runs : List ℕ) (c : Carrier) (N : ℕ) → IsRow runs → HasSize (kind_of c) (length (inner runs)) N → Contains (dots_of runs) true
candidate_dark runs c N row h =
    let many = (few_runs c (length (inner runs)) N h).0 in
    has_dark runs row (omega (arith, length-take {A = ℕ}, length-drop {A = ℕ}))

pub candidate_dots : (runs : List ℕ) (c : Carrier) (N : ℕ) → IsRow runs → HasSize (kind_of c) (length (inner runs)) N → 0 < sum (inner runs)
candidate_dots runs c N row h =
    let many = (few_runs c (length (inner runs)) N h).0 in some_dots (inner runs) row.each_inner (omega arith)

-- no symbol has more runs between its light ends than 595
pub none_long : (runs : List ℕ) (c : Carrier) (N : ℕ) → HasSize (kind_of c) (length (inner runs)) N → 597 < length runs → ⊥
none_long runs c N h long =
    let few = (few_runs c (length (inner runs)) N h).1 in
    omega (arith, length-take (length runs - 2) (drop 1 runs), length-drop 1 runs)
