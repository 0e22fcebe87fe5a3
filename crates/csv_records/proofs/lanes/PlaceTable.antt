-- The entries of the tables.
use Rattle.std.proofs.Common.{◌≡◌, ◌==◌, ◌&&◌, ◌+◌, ◌<◌, ◌∷◌, ◌∙◌, ap, arith, Bool, List, [], false, true, get_or, length, ℕ, zero, suc, refl}
use Rattle.std.proofs.lemmas.Bool.{and_parts, eqb-true, false≢true}
use Rattle.std.specs.Simd.Lanes.{digits_l}
use Rattle.csv_records.specs.inner.Kept.{entry}

abbrev pub same : List ℕ → List ℕ → Bool
same [] [] = true
same [] (y ∷ ys) = false
same (x ∷ xs) [] = false
same (x ∷ xs) (y ∷ ys) = (x == y) && same xs ys

are_same : (xs ys : List ℕ) → same xs ys ≡ true → xs ≡ ys
are_same [] [] e = refl
are_same [] (y ∷ ys) e = absurd (false≢true e)
are_same (x ∷ xs) [] e = absurd (false≢true e)
are_same (x ∷ xs) (y ∷ ys) e =
    let parts = and_parts (x == y) (same xs ys) e in
    let head : x ≡ y = eqb-true x y parts.0 in
    let tail : xs ≡ ys = are_same xs ys parts.1 in
    ap (λ z. z ∷ xs) head ∙ ap (λ zs. y ∷ zs) tail

-- each number of the list, from the place i on, has the digits of its entry
abbrev pub right_from : ℕ → ℕ → List ℕ → Bool
right_from from i [] = true
right_from from i (n ∷ ns) = same (digits_l 256 8 n) (entry from i) && right_from from (i + 1) ns

entry_at : (from i : ℕ) (ns : List ℕ) → right_from from i ns ≡ true → (k : ℕ) → k < length ns → digits_l 256 8 (get_or ns k 0) ≡ entry from (i + k)
entry_at from i [] e k low = absurd (omega (arith, low))
entry_at from i (n ∷ ns) e zero low =
    let here : i ≡ i + 0 = omega arith in
    are_same (digits_l 256 8 n) (entry from i) (and_parts (same (digits_l 256 8 n) (entry from i)) (right_from from (i + 1) ns) e).0 ∙ ap (entry from) here
entry_at from i (n ∷ ns) e (suc k) low =
    let next : (i + 1) + k ≡ i + suc k = omega arith in
    entry_at from (i + 1) ns (and_parts (same (digits_l 256 8 n) (entry from i)) (right_from from (i + 1) ns) e).1 k (omega (arith, low)) ∙ ap (entry from) next

pub entries : (from : ℕ) (ns : List ℕ) → right_from from 0 ns ≡ true → (k : ℕ) → k < length ns → digits_l 256 8 (get_or ns k 0) ≡ entry from k
entries from ns e k low = let same_place : 0 + k ≡ k = omega arith in entry_at from 0 ns e k low ∙ ap (entry from) same_place
