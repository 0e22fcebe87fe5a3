-- What is true of any two of the first this many of a list, and of one more.
use Rattle.std.proofs.Common.{◌≡◌, ◌∙◌, ℕ, ◌+◌, ◌<◌, ◌≤◌, List, drop, length, suc, take, get_or, subst, sym, arith, inl, inr}
use Rattle.std.specs.Prelude.{AllPairs}
use Rattle.std.specs.List.{remove}
use Rattle.std.proofs.lemmas.List.{get_or-take, length-take-le, take-append-le, take_all}
use Rattle.std.proofs.lemmas.Bool.{cases_lt}

pub pairs_more : {X : Type 0} (R : X → X → Type 0) (xs : List X) (n : ℕ) → n < length xs → AllPairs R (take n xs)
    → ((k : ℕ) (d : X) → k < n → R (get_or xs k d) (get_or xs n d)) → AllPairs R (take (n + 1) xs)
pairs_more {X} R xs n within before last i j d less short =
    let long = length-take-le (n + 1) xs (let e : n + 1 ≤ length xs = omega arith in e) in
    let shorter = length-take-le n xs (let e : n ≤ length xs = omega arith in e) in
    let low : j < n + 1 = omega arith in
    let here = get_or-take (n + 1) xs i d (omega arith) in
    let there = get_or-take (n + 1) xs j d low in
    let both : R (get_or xs i d) (get_or xs j d) = elim (cases_lt j n) [
      | inl small ↦
          let one = get_or-take n xs i d (omega arith) in
          let other = get_or-take n xs j d small in
          subst (λ (x : X). R x (get_or xs j d)) one (subst (λ (y : X). R (get_or (take n xs) i d) y) other (before i j d less (omega arith)))
      | inr great ↦
          let same : n ≡ j = omega arith in
          subst (λ (m : ℕ). R (get_or xs i d) (get_or xs m d)) same (last i d (omega arith))
    ] in
    subst (λ (x : X). R x (get_or (take (n + 1) xs) j d)) (sym here) (subst (λ (y : X). R (get_or xs i d) y) (sym there) both)

-- what stands before an element stays where the element is taken out
pub front_stays : {X : Type 0} (xs : List X) (n : ℕ) → n ≤ length xs → take n (remove xs n) ≡ take n xs
front_stays xs n within =
    let front = length-take-le n xs within in
    take-append-le n (take n xs) (drop (suc n) xs) (let e : n ≤ length (take n xs) = omega arith in e) ∙ take_all n (take n xs) (omega arith)
