-- Sums over lists: of mapped items, of equal numbers, of lists one after another, by place.
use Rattle.std.proofs.Common.{◌≡◌, ◌+◌, ◌++◌, ◌∷◌, ◌∙◌, [], List, ℕ, suc, ap, arith, get_or, length, map, refl, sym, Some}
use Rattle.std.specs.List.{sum_by, flat_map, range_with_len, slice_get}
use Rattle.std.proofs.lemmas.List.Sums.{sum_by-append, sum_by-cons}
use Rattle.std.proofs.lemmas.List.Folds.{fold-map}
use Rattle.std.proofs.lemmas.List.FromFn.{fill_by_all}
use Rattle.lane_core.specs.declared.job.Plain.{Plain}

-- std's `fold-map`, of a sum
pub sum_by-map : {X Y : Type 0} (g : Y → ℕ) (f : X → Y) (xs : List X) → sum_by g (map f xs) ≡ sum_by (λ x. g (f x)) xs
sum_by-map g f xs = fold-map (λ a y. a + g y) f 0 xs

-- sums of what is the same at each place
pub sum_same : {X : Type 0} (f g : X → ℕ) (xs : List X) → ((i : ℕ) (x : X) → slice_get xs i ≡ Some x → f x ≡ g x) → sum_by f xs ≡ sum_by g xs
sum_same f g [] each = refl
sum_same f g (x ∷ xs) each = let here = each 0 x refl in omega (arith, sum_by-cons f x xs, sum_by-cons g x xs, sum_same f g xs (λ i y e. each (suc i) y e))

-- std's `length-flat_map`, of any sum
pub sum_by-flat_map : {X A : Type 0} (g : A → ℕ) (f : X → List A) (xs : List X) → sum_by g (flat_map f xs) ≡ sum_by (λ x. sum_by g (f x)) xs
sum_by-flat_map g f [] = refl
sum_by-flat_map g f (x ∷ xs) = omega (arith, sum_by-cons (λ y. sum_by g (f y)) x xs, sum_by-append g (f x) (flat_map f xs), sum_by-flat_map g f xs)

-- the sum over lists, by their places
pub sum_by_places : {X : Type 0} (f : X → ℕ) (xs : List X) (n : ℕ) (d : X) → length xs ≡ n → sum_by (λ l. f (get_or xs l d)) (range_with_len 0 n) ≡ sum_by f xs
sum_by_places f xs n d long =
    sym (sum_by-map f (λ l. get_or xs l d) (range_with_len 0 n)) ∙ ap (sum_by f) (sym (fill_by_all (λ l. get_or xs l d) xs n d long (λ k e. refl)))

-- std's `sum_by-append`, of six
pub sum_joined : (h : Plain → ℕ) (xs ys zs us vs ws : List Plain) → sum_by h (((((xs ++ ys) ++ zs) ++ us) ++ vs) ++ ws)
    ≡ sum_by h xs + sum_by h ys + sum_by h zs + sum_by h us + sum_by h vs + sum_by h ws
sum_joined h xs ys zs us vs ws =
    omega (
      arith,
      sum_by-append h xs ys,
      sum_by-append h (xs ++ ys) zs,
      sum_by-append h ((xs ++ ys) ++ zs) us,
      sum_by-append h (((xs ++ ys) ++ zs) ++ us) vs,
      sum_by-append h ((((xs ++ ys) ++ zs) ++ us) ++ vs) ws,
    )
