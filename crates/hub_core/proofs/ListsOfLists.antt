-- Lists of lists, one of which has one more, and empty ones: the lists, their sums, and tests of their lengths.
use Rattle.std.proofs.Common.{◌≡◌, ◌+◌, ◌<◌, ◌++◌, ◌∷◌, ◌∙◌, [], All, Bool, List, ℕ, zero, suc, ap, arith, get_or, length, map, refl, replicate, set, sym}
use Rattle.std.proofs.lemmas.List.{get_or-map, map-set}
use Rattle.std.specs.List.{list_all, sum_by}
use Rattle.std.proofs.lemmas.List.Elements.{All-head, All-tail}
use Rattle.std.proofs.lemmas.List.Folds.{list_all-map, sum_by-replicate}
use Rattle.std.proofs.lemmas.List.Sums.{sum_by-append, sum_by-set}
use Rattle.hub_core.specs.Traffics.{with_more}
use Rattle.hub_core.specs.inner.Sums.{sum_all}
use Rattle.hub_core.proofs.SumFacts.{sum_by-map}

-- an item more in one of several lists
pub sum_one_more : {X V : Type 0} (f : V → List X) (h : X → ℕ) (lists new : List V) (i : ℕ) (old d v : V) (x : X) → i < length lists → old ≡ get_or lists i d
    → f v ≡ f old ++ x ∷ [] → new ≡ set lists i v → sum_all h (map f new) ≡ sum_all h (map f lists) + h x
sum_one_more {X} {V} f h lists new i old d v x low here longer is =
    let g : V → ℕ = λ l. sum_by h (f l) in
    let a = sum_by-map (λ xs. sum_by h xs) f new in
    let b = sum_by-map (λ xs. sum_by h xs) f lists in
    let c = sum_by-set g lists i v d low in
    let t = ap (sum_by g) is in
    let e = ap g here in
    let w = ap (sum_by h) longer in
    let s = sum_by-append h (f old) (x ∷ []) in
    omega arith

-- and the lists themselves: `with_more`
pub list_more_at : {X V : Type 0} (f : V → List X) (vs : List V) (i : ℕ) (v w : V) (x : X) → v ≡ get_or vs i v → i < length vs → f w ≡ f v ++ x ∷ []
    → map f (set vs i w) ≡ with_more i x (map f vs)
list_more_at {X} f vs i v w x at low longer =
    map-set f vs i w ∙ ap (λ (l : List X). set (map f vs) i l) (longer ∙ ap (λ (l : List X). l ++ x ∷ []) (ap f at ∙ sym (get_or-map f vs i v [] low)))

-- lists that are each empty, since P is so of what has them
pub all_empty : {V X : Type 0} (f : V → List X) (P : V → Type 0) (vs : List V) → ((v : V) → P v → f v ≡ []) → All P vs → map f vs ≡ replicate (length vs) []
all_empty f P [] none all = refl
all_empty f P (v ∷ vs) none all =
    let here = none v (All-head P v vs all) in let rest = all_empty f P vs none (All-tail P v vs all) in λ i. here i ∷ rest i

-- the empty list of a type, which `[]` alone leaves open
abbrev no_items : (X : Type 0) → List X
no_items X = []

-- what stands at any place, there or not: `get_or_zeros` of lane_core, of empty lists
pub empties_at : {X : Type 0} (n i : ℕ) → get_or (replicate n (no_items X)) i [] ≡ no_items X
empties_at zero i = refl
empties_at (suc n) zero = refl
empties_at (suc n) (suc i) = empties_at n i

-- their sum
pub sum_empties : {X : Type 0} (h : X → ℕ) (n : ℕ) → sum_all h (replicate n (no_items X)) ≡ 0
sum_empties {X} h n = omega (arith, sum_by-replicate (λ (xs : List X). sum_by h xs) n (no_items X))

-- a test of the length of each, by lengths that are known of what has the lists
pub tested_by : {V : Type 0} (test : ℕ → Bool) (f : V → List (List ℕ)) (n : V → ℕ) (vs : List V) → ((v : V) → length (f v) ≡ n v)
    → list_all (λ v. test (n v)) vs ≡ list_all (λ xs. test (length xs)) (map f vs)
tested_by test f n vs same = sym (list_all-map (λ xs. test (length xs)) f vs ∙ (λ i. list_all (λ v. test (same v i)) vs))
