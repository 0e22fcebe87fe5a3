-- Runs are at most one list of modules.
use Rattle.std.proofs.Common.{◌≡◌, ℕ, ◌+◌, ◌*◌, ◌-◌, ◌/◌, ◌%◌, ◌⊎◌, ◌<◌, ◌≤◌, ◌&&◌, Bool, List, [], ◌∷◌, ap₂, arith, false, get_or, nat_eq, nat_le, inl, inr, length, refl, set, suc, zero, sum, take, true}
use Rattle.std.specs.List.{AllZip, AllByRecursion}
use Rattle.std.proofs.lemmas.List.{get_or_default, take_more_set}
use Rattle.std.proofs.lemmas.List.Elements.{AllZip-get_or, all_zip_more}
use Rattle.std.proofs.lemmas.Bool.{cases_lt, eqb-true, leb-false}
use Rattle.std.proofs.Math.Nat.{div-add-mod, mod-lt}
use Rattle.scan_core.specs.Showing.{IsRun, Rounds, gap}
use Rattle.scan_core.specs.inner.Limits.{AreLimits, IsLeast, IsPast}

-- no run is two numbers of modules
not_less : (N W w m k : ℕ) → 0 < W → IsRun N W w m → IsRun N W w k → m < k → ⊥
not_less N W w m k pos a b lt =
    let more : (m + 1) * W ≤ k * W = grind arith in
    let high = a.near in let low = b.near in omega arith

one_run : (N W w m k : ℕ) → 0 < W → IsRun N W w m → IsRun N W w k → m ≡ k
one_run N W w m k pos a b =
    elim (cases_lt m k) [
      | inl less ↦ absurd (not_less N W w m k pos a b less)
      | inr rest ↦ elim (cases_lt k m) [ inl more ↦ absurd (not_less N W w k m pos b a more) | inr same ↦ omega arith ]
    ]

-- ---- the limits

-- the quotient of W dots and N modules, rounded up and down
pub least_width : (N W k : ℕ) → 0 < N → IsLeast N W k ((k * W + (3 * N - 1)) / (3 * N))
least_width N W k pos w =
    let n = k * W + (3 * N - 1) in
    let q = n / (3 * N) in
    let whole : 3 * N * q + n % (3 * N) ≡ n = div-add-mod n (3 * N) in
    let rest : n % (3 * N) < 3 * N = mod-lt n (omega arith) in
    let parts : 3 * N * q ≡ 3 * (q * N) = grind arith in (
      λ up. let more : q * N ≤ w * N = grind arith in omega arith,
      λ low. let less : (w + 1) * N ≤ q * N = grind arith in omega arith,
    )

pub width_past : (N W k : ℕ) → 0 < N → IsPast N W k (k * W / (3 * N) + 1)
width_past N W k pos w =
    let n = k * W in
    let q = n / (3 * N) in
    let whole : 3 * N * q + n % (3 * N) ≡ n = div-add-mod n (3 * N) in
    let rest : n % (3 * N) < 3 * N = mod-lt n (omega arith) in
    let parts : 3 * N * q ≡ 3 * (q * N) = grind arith in (
      λ up. let more : (q + 1) * N ≤ w * N = grind arith in omega arith,
      λ low. let less : w * N ≤ q * N = grind arith in omega arith,
    )

-- it is narrow
pub narrow_quotient : (a d : ℕ) → 15 ≤ d → a ≤ 983010 → a / d ≤ 65534
narrow_quotient a d many few =
    let whole : d * (a / d) + a % d ≡ a = div-add-mod a d in
    let parts : 15 * (a / d) ≤ d * (a / d) = grind arith in omega arith

-- a limit that a width comes up to counts as one
pub record Reaches (w limit r : ℕ) : Type 0 where
  pub reached : limit ≤ w → r ≡ 1
  pub below : w < limit → r ≡ 0

pub counts : (w limit r : ℕ) → (limit ≤ w → r ≡ 1) → (w < limit → r ≡ 0) → Reaches w limit r
counts w limit r up low = record { reached = up; below = low }

pub not_both : (l w a b : ℕ) → nat_le l w && nat_eq a b ≡ false → l ≤ w → a ≡ b → ⊥
not_both l w a b far up same = grind (arith, leb-false, eqb-true)

-- the same by thirds of a module
least_counts : (N W k w limit r : ℕ) → IsLeast N W k limit → Reaches w limit r
    → ((k * W ≤ 3 * (w * N)) × (r ≡ 1)) ⊎ ((3 * (w * N) < k * W) × (r ≡ 0))
least_counts N W k w limit r is counts =
    elim (cases_lt w limit) [
      | inl low ↦ inr ((is w).1 low, counts.below low)
      | inr up ↦ inl ((is w).0 up, counts.reached up)
    ]

past_counts : (N W k w limit r : ℕ) → IsPast N W k limit → Reaches w limit r
    → ((k * W < 3 * (w * N)) × (r ≡ 1)) ⊎ ((3 * (w * N) ≤ k * W) × (r ≡ 0))
past_counts N W k w limit r is counts =
    elim (cases_lt w limit) [
      | inl low ↦ inr ((is w).1 low, counts.below low)
      | inr up ↦ inl ((is w).0 up, counts.reached up)
    ]

zero_less : 1 ≤ 0 → ⊥
zero_less e = omega arith

too_many : {m : ℕ} → suc (suc (suc (suc (suc m)))) ≤ 4 → ⊥
too_many e = omega arith

less_not : (a b : ℕ) → a < b → b ≤ a → ⊥
less_not a b low high = omega arith

gap_near : (a b W : ℕ) → 3 * b ≤ 3 * a + W → 3 * a ≤ 3 * b + W → 3 * gap a b ≤ W
gap_near a b W low high = omega arith

near_gap : (a b W : ℕ) → 3 * gap a b ≤ W → (3 * b ≤ 3 * a + W) × (3 * a ≤ 3 * b + W)
near_gap a b W near = (omega arith, omega arith)

-- a width that comes up to as many limits above one module as it is past, and to that of one, is this many modules
near_limits : (W x r2 r3 r4 p1 p2 p3 p4 : ℕ) → 0 < W → 2 * W ≤ x
    → ((5 * W ≤ x) × (r2 ≡ 1)) ⊎ ((x < 5 * W) × (r2 ≡ 0))
    → ((8 * W ≤ x) × (r3 ≡ 1)) ⊎ ((x < 8 * W) × (r3 ≡ 0))
    → ((11 * W ≤ x) × (r4 ≡ 1)) ⊎ ((x < 11 * W) × (r4 ≡ 0))
    → ((4 * W < x) × (p1 ≡ 1)) ⊎ ((x ≤ 4 * W) × (p1 ≡ 0))
    → ((7 * W < x) × (p2 ≡ 1)) ⊎ ((x ≤ 7 * W) × (p2 ≡ 0))
    → ((10 * W < x) × (p3 ≡ 1)) ⊎ ((x ≤ 10 * W) × (p3 ≡ 0))
    → ((13 * W < x) × (p4 ≡ 1)) ⊎ ((x ≤ 13 * W) × (p4 ≡ 0))
    → r2 + r3 + r4 ≡ p1 + p2 + p3 + p4 → (m : ℕ) → m ≡ 1 + (r2 + r3 + r4)
    → (m ≤ 4) × (3 * (m * W) ≤ x + W) × (x ≤ 3 * (m * W) + W)
near_limits W x r2 r3 r4 p1 p2 p3 p4 pos low (inl a2) (inl a3) (inl a4) b1 b2 b3 b4 same m e =
    let four : m ≡ 4 = omega arith in rw four (omega arith, omega arith, omega arith)
near_limits W x r2 r3 r4 p1 p2 p3 p4 pos low (inl a2) (inl a3) (inr a4) b1 b2 b3 b4 same m e =
    let three : m ≡ 3 = omega arith in rw three (omega arith, omega arith, omega arith)
near_limits W x r2 r3 r4 p1 p2 p3 p4 pos low (inl a2) (inr a3) a4 b1 b2 b3 b4 same m e =
    let two : m ≡ 2 = omega arith in rw two (omega arith, omega arith, omega arith)
near_limits W x r2 r3 r4 p1 p2 p3 p4 pos low (inr a2) a3 a4 b1 b2 b3 b4 same m e =
    let one : m ≡ 1 = omega arith in rw one (omega arith, omega arith, omega arith)

-- a run of modules comes up to as many limits above one module as it is past, and to that of one
far_limits : (W x r2 r3 r4 p1 p2 p3 p4 : ℕ) → 0 < W
    → ((5 * W ≤ x) × (r2 ≡ 1)) ⊎ ((x < 5 * W) × (r2 ≡ 0))
    → ((8 * W ≤ x) × (r3 ≡ 1)) ⊎ ((x < 8 * W) × (r3 ≡ 0))
    → ((11 * W ≤ x) × (r4 ≡ 1)) ⊎ ((x < 11 * W) × (r4 ≡ 0))
    → ((4 * W < x) × (p1 ≡ 1)) ⊎ ((x ≤ 4 * W) × (p1 ≡ 0))
    → ((7 * W < x) × (p2 ≡ 1)) ⊎ ((x ≤ 7 * W) × (p2 ≡ 0))
    → ((10 * W < x) × (p3 ≡ 1)) ⊎ ((x ≤ 10 * W) × (p3 ≡ 0))
    → ((13 * W < x) × (p4 ≡ 1)) ⊎ ((x ≤ 13 * W) × (p4 ≡ 0))
    → (m : ℕ) → 1 ≤ m → m ≤ 4 → 3 * (m * W) ≤ x + W → x ≤ 3 * (m * W) + W
    → (2 * W ≤ x) × (r2 + r3 + r4 ≡ p1 + p2 + p3 + p4)
far_limits W x r2 r3 r4 p1 p2 p3 p4 pos a2 a3 a4 b1 b2 b3 b4 zero least most low high = absurd (zero_less least)
far_limits W x r2 r3 r4 p1 p2 p3 p4 pos a2 a3 a4 b1 b2 b3 b4 (suc zero) least most low high = (omega arith, omega arith)
far_limits W x r2 r3 r4 p1 p2 p3 p4 pos a2 a3 a4 b1 b2 b3 b4 (suc (suc zero)) least most low high = (omega arith, omega arith)
far_limits W x r2 r3 r4 p1 p2 p3 p4 pos a2 a3 a4 b1 b2 b3 b4 (suc (suc (suc zero))) least most low high = (omega arith, omega arith)
far_limits W x r2 r3 r4 p1 p2 p3 p4 pos a2 a3 a4 b1 b2 b3 b4 (suc (suc (suc (suc zero)))) least most low high = (omega arith, omega arith)
far_limits W x r2 r3 r4 p1 p2 p3 p4 pos a2 a3 a4 b1 b2 b3 b4 (suc (suc (suc (suc (suc m))))) least most low high = absurd (too_many most)

-- the modules nearest to a run, as they are counted, are it
pub is_run : (N W w l1 l2 l3 l4 k1 k2 k3 k4 r2 r3 r4 p1 p2 p3 p4 : ℕ) → 0 < W → AreLimits N W l1 l2 l3 l4 k1 k2 k3 k4
    → Reaches w l2 r2 → Reaches w l3 r3 → Reaches w l4 r4 → Reaches w k1 p1 → Reaches w k2 p2 → Reaches w k3 p3 → Reaches w k4 p4
    → l1 ≤ w → r2 + r3 + r4 ≡ p1 + p2 + p3 + p4 → IsRun N W w (1 + (r2 + r3 + r4))
is_run N W w l1 l2 l3 l4 k1 k2 k3 k4 r2 r3 r4 p1 p2 p3 p4 pos limits a2 a3 a4 b1 b2 b3 b4 up same =
    let facts = near_limits W (3 * (w * N)) r2 r3 r4 p1 p2 p3 p4 pos ((limits.one w).0 up)
    (least_counts N W 5 w l2 r2 limits.two a2) (least_counts N W 8 w l3 r3 limits.three a3) (least_counts N W 11 w l4 r4 limits.four a4)
    (past_counts N W 4 w k1 p1 limits.past_one b1) (past_counts N W 7 w k2 p2 limits.past_two b2)
    (past_counts N W 10 w k3 p3 limits.past_three b3) (past_counts N W 13 w k4 p4 limits.past_four b4)
    same (1 + (r2 + r3 + r4)) refl in
    record { least = omega arith; most = facts.0; near = gap_near (w * N) ((1 + (r2 + r3 + r4)) * W) W facts.1 facts.2 }

-- or else none are
pub no_run : (N W w l1 l2 l3 l4 k1 k2 k3 k4 r2 r3 r4 p1 p2 p3 p4 : ℕ) → 0 < W → AreLimits N W l1 l2 l3 l4 k1 k2 k3 k4
    → Reaches w l2 r2 → Reaches w l3 r3 → Reaches w l4 r4 → Reaches w k1 p1 → Reaches w k2 p2 → Reaches w k3 p3 → Reaches w k4 p4
    → (m : ℕ) → IsRun N W w m → (l1 ≤ w) × (r2 + r3 + r4 ≡ p1 + p2 + p3 + p4)
no_run N W w l1 l2 l3 l4 k1 k2 k3 k4 r2 r3 r4 p1 p2 p3 p4 pos limits a2 a3 a4 b1 b2 b3 b4 m run =
    let near = near_gap (w * N) (m * W) W run.near in
    let facts = far_limits W (3 * (w * N)) r2 r3 r4 p1 p2 p3 p4 pos
    (least_counts N W 5 w l2 r2 limits.two a2) (least_counts N W 8 w l3 r3 limits.three a3) (least_counts N W 11 w l4 r4 limits.four a4)
    (past_counts N W 4 w k1 p1 limits.past_one b1) (past_counts N W 7 w k2 p2 limits.past_two b2)
    (past_counts N W 10 w k3 p3 limits.past_three b3) (past_counts N W 13 w k4 p4 limits.past_four b4)
    m run.least run.most near.0 near.1 in
    (elim (cases_lt w l1) [ inl low ↦ absurd (less_not (3 * (w * N)) (2 * W) ((limits.one w).1 low) facts.0) | inr up ↦ up ], facts.1)

one_list : (N W : ℕ) → 0 < W → (ws ms ks : List ℕ) → AllZip (IsRun N W) ws ms → AllZip (IsRun N W) ws ks → ms ≡ ks
one_list N W pos [] [] [] a b = refl
one_list N W pos [] [] (k ∷ ks) a b = absurd b
one_list N W pos [] (m ∷ ms) ks a b = absurd a
one_list N W pos (w ∷ ws) [] ks a b = absurd a
one_list N W pos (w ∷ ws) (m ∷ ms) [] a b = absurd b
one_list N W pos (w ∷ ws) (m ∷ ms) (k ∷ ks) a b =
    ap₂ (λ x xs. x ∷ xs) (one_run N W w m k pos a.0 b.0) (one_list N W pos ws ms ks a.1 b.1)

-- runs that have dots are at most one list of modules
pub one_rounding : (runs : List ℕ) (N : ℕ) (ms ks : List ℕ) → 0 < sum runs → Rounds runs N ms → Rounds runs N ks → ms ≡ ks
one_rounding runs N ms ks pos a b = one_list N (sum runs) pos runs ms ks a b

-- each is 1 to 4 modules
pub rounded_widths : (N W : ℕ) (ws ms : List ℕ) → AllZip (IsRun N W) ws ms → AllByRecursion (λ m. (1 ≤ m) × (m ≤ 4)) ms
rounded_widths N W [] [] a = tt
rounded_widths N W [] (m ∷ ms) a = absurd a
rounded_widths N W (w ∷ ws) [] a = absurd a
rounded_widths N W (w ∷ ws) (m ∷ ms) a = ((a.0.least, a.0.most), rounded_widths N W ws ms a.1)

-- one run more is rounded, where it and those before it are
pub one_more : (N W : ℕ) (ws ms : List ℕ) (i m : ℕ) (each near : Bool) → i < length ws → length ms ≡ length ws
    → (each ≡ true → AllZip (IsRun N W) (take i ws) (take i ms)) → (near ≡ true → IsRun N W (get_or ws i 0) m) → each && near ≡ true
    → AllZip (IsRun N W) (take (i + 1) ws) (take (i + 1) (set ms i m))
one_more N W ws ms i m true true low same before here all =
    rw (take_more_set ms i m (omega arith))
    (all_zip_more (IsRun N W) ws (take i ms) i (get_or ws i 0) m low (get_or_default ws i 0 (get_or ws i 0) low) (before refl) (here refl))
one_more N W ws ms i m true false low same before here all = cc all
one_more N W ws ms i m false near low same before here all = cc all

-- no modules are those of all runs, where they are not of this one or not of one before it
pub none_more : (N W : ℕ) (ws : List ℕ) (i : ℕ) (each near : Bool) → i < length ws → (each ≡ false → (ms : List ℕ) → AllZip (IsRun N W) ws ms → ⊥)
    → (near ≡ false → (m : ℕ) → IsRun N W (get_or ws i 0) m → ⊥) → each && near ≡ false → (ms : List ℕ) → AllZip (IsRun N W) ws ms → ⊥
none_more N W ws i false near low before here all ms h = before refl ms h
none_more N W ws i true false low before here all ms h = here refl (get_or ms i 0) (AllZip-get_or (IsRun N W) ws ms i 0 0 h low)
none_more N W ws i true true low before here all ms h = cc all
