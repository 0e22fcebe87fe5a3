-- Whether two items are one item (`is_same`), and that lists with the same sum by every weight are permutations of each other.
use Rattle.std.proofs.Common.{Bool, ◌≡◌, ⊎_elim, ℕ, ◌≤◌, ◌==◌, ◌&&◌, true, false, List, [], ◌∷◌, ◌++◌, refl, sym, ap, subst, arith}
use Rattle.std.proofs.Math.Bool.{beq}
use Rattle.std.proofs.lemmas.Bool.{cases_Bool}
use Rattle.std.proofs.lemmas.Bool.Decides.{Decides-and, Decides-eqb}
use Rattle.std.proofs.lemmas.Slice.Eq.{slice_eq-Decides}
use Rattle.std.specs.Bool.{Decides}
use Rattle.std.specs.Cmp.{booleans_Decides}
use Rattle.std.specs.Cmp.Lexicographic.{pointwise}
use Rattle.std.specs.List.{sum_by, count_by}
use Rattle.std.specs.List.Sorted.{IsPermutation}
use Rattle.std.proofs.lemmas.List.Sums.{sum_by-append, sum_by-cons}
use Rattle.std.proofs.lemmas.List.Sorted.{IsPermutation-sym, IsPermutation-refl, IsPermutation-trans, IsPermutation-cons, IsPermutation-middle}
use Rattle.element_core.specs.Terms.{Terms}
use Rattle.lane_core.specs.declared.job.Plain.{Plain}
use Rattle.lane_core.specs.Plain.{plain_of}
use Rattle.lane_core.specs.Weights.{once}

-- a reference year by the tests of its two fields
abbrev is_same_year : Terms → Terms → Bool
is_same_year x y = (x.year == y.year) && beq x.every y.every

-- whether two items are the same: each field by its own test
abbrev pub is_same : Plain → Plain → Bool
is_same x y = (x.number == y.number) && ((x.lane == y.lane) && (is_same_year x.year y.year && pointwise (λ a b. a == b) x.widths y.widths))

-- the test decides each field
fields : (x y : Plain) → Decides (is_same x y)
    ((x.number ≡ y.number) × ((x.lane ≡ y.lane) × (((x.year.year ≡ y.year.year) × (x.year.every ≡ y.year.every)) × (x.widths ≡ y.widths))))
fields x y = Decides-and _ _ (Decides-eqb x.number y.number) (Decides-and _ _ (Decides-eqb x.lane y.lane) (Decides-and _ _
    (Decides-and _ _ (Decides-eqb x.year.year y.year.year) (booleans_Decides x.year.every y.year.every))
    (slice_eq-Decides Decides-eqb x.widths y.widths _ refl)))

-- an item is the same as itself, and items that are the same are equal
pub same_self : (x : Plain) → is_same x x ≡ true
same_self x = (fields x x).1 (refl, (refl, ((refl, refl), refl)))

pub same_from : (x y : Plain) → is_same x y ≡ true → x ≡ y
same_from x y e =
    let f = (fields x y).0 e in
    λ i. plain_of (f.1.0 i) (f.0 i) (record { year = f.1.1.0.0 i; every = f.1.1.0.1 i }) (f.1.1.1 i)

-- an item that is counted stands between two parts
parted : (x : Plain) (ys : List Plain) → 1 ≤ count_by (is_same x) ys → (before : List Plain) × (after : List Plain) × (ys ≡ before ++ x ∷ after)
parted x [] there = absurd (omega arith)
parted x (y ∷ ys) there = ⊎_elim
    (λ (e : is_same x y ≡ true). ([], ys, λ i. sym (same_from x y e) i ∷ ys))
    (λ (e : is_same x y ≡ false).
    let rest = parted x ys (let none = ap once e in omega (arith, sum_by-cons (λ z. once (is_same x z)) y ys)) in
    (y ∷ rest.0, rest.1, ap (λ zs. y ∷ zs) rest.2))
    (cases_Bool (is_same x y))

-- lists with the same sum by every weight have the same items, each as often
pub permutation_from : (xs ys : List Plain) → ((h : Plain → ℕ) → sum_by h xs ≡ sum_by h ys) → IsPermutation xs ys
permutation_from [] [] same = IsPermutation-refl []
permutation_from [] (y ∷ ys) same = absurd (let e = same (λ _. 1) in omega (arith, sum_by-cons (λ _. 1) y ys))
permutation_from (x ∷ xs) ys same =
    let self = ap once (same_self x) in
    let there = same (λ z. once (is_same x z)) in
    let at = parted x ys (omega (arith, sum_by-cons (λ z. once (is_same x z)) x xs)) in
    let rest = at.0 ++ at.1 in
    let tail = permutation_from xs rest (λ h.
    let e = same h in
    let split = ap (sum_by h) at.2 in
    omega (arith, sum_by-cons h x xs, sum_by-append h at.0 (x ∷ at.1), sum_by-append h at.0 at.1, sum_by-cons h x at.1)) in
    subst (λ (zs : List Plain). IsPermutation (x ∷ xs) zs) (sym at.2)
    (IsPermutation-trans (x ∷ xs) (x ∷ rest) (at.0 ++ x ∷ at.1) (IsPermutation-cons x xs rest tail)
    (IsPermutation-sym (at.0 ++ x ∷ at.1) (x ∷ rest) (IsPermutation-middle at.0 x at.1)))
