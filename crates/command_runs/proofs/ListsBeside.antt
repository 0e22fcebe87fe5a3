-- Lists that stand beside others, item by item (`AllZip`).
use Rattle.std.proofs.Common.{◌≡◌, ℕ, suc, ◌+◌, All, List, [], ◌∷◌, ◌++◌, None, Option, Some, length, map, refl, ap₂, subst, arith}
use Rattle.std.specs.Prelude.{⊤, IsSomeAnd}
use Rattle.std.specs.List.{AllByRecursion, AllZip, flat_map, range_with_len, slice_get}
use Rattle.std.proofs.lemmas.List.Elements.{All-cons, All-nil}
use Rattle.std.proofs.lemmas.Slice.Zip.{AllZip-right}

-- two pairs of lists, one after another
pub beside-append : {X Y : Type 0} (R : X → Y → Type 0) (xs us : List X) (ys vs : List Y) → AllZip R xs ys → AllZip R us vs → AllZip R (xs ++ us) (ys ++ vs)
beside-append R [] us [] vs h k = k
beside-append R [] us (y ∷ ys) vs h k = absurd h
beside-append R (x ∷ xs) us [] vs h k = absurd h
beside-append R (x ∷ xs) us (y ∷ ys) vs h k = (h.0, beside-append R xs us ys vs h.1 k)

module _ {X Y Z : Type 0} (P : X → Y → Type 0) (Q : X → Z → Type 0) where
  -- two lists beside a third stand beside each other
  pub beside : (xs : List X) (ys : List Y) (zs : List Z) → AllZip P xs ys → AllZip Q xs zs → AllZip (λ y z. (x : X) × P x y × Q x z) ys zs
  beside [] [] [] h k = tt
  beside [] [] (z ∷ zs) h k = absurd k
  beside [] (y ∷ ys) zs h k = absurd h
  beside (x ∷ xs) [] zs h k = absurd h
  beside (x ∷ xs) (y ∷ ys) [] h k = absurd k
  beside (x ∷ xs) (y ∷ ys) (z ∷ zs) h k = ((x, h.0, k.0), beside xs ys zs h.1 k.1)

  -- and back: if each pair has an item beside both, there is such a third list
  pub from_beside : (ys : List Y) (zs : List Z) → AllZip (λ y z. (x : X) × P x y × Q x z) ys zs → (xs : List X) × AllZip P xs ys × AllZip Q xs zs
  from_beside [] [] h = ([], tt, tt)
  from_beside [] (z ∷ zs) h = absurd h
  from_beside (y ∷ ys) [] h = absurd h
  from_beside (y ∷ ys) (z ∷ zs) h = let s = from_beside ys zs h.1 in (h.0.0 ∷ s.0, (h.0.1, s.1), (h.0.2, s.2))

-- where each item of a kind has at most one beside it, a list of them has at most one list beside it
pub same_where : {X Y : Type 0} (R : X → Y → Type 0) (P : X → Type 0) → ((x : X) (y z : Y) → P x → R x y → R x z → y ≡ z) → (xs : List X) (ys zs : List Y)
    → AllByRecursion P xs → AllZip R xs ys → AllZip R xs zs → ys ≡ zs
same_where R P one [] [] [] p h k = refl
same_where R P one [] [] (z ∷ zs) p h k = absurd k
same_where R P one [] (y ∷ ys) zs p h k = absurd h
same_where R P one (x ∷ xs) [] zs p h k = absurd h
same_where R P one (x ∷ xs) (y ∷ ys) [] p h k = absurd k
same_where R P one (x ∷ xs) (y ∷ ys) (z ∷ zs) p h k = ap₂ (λ w ws. w ∷ ws) (one x y z p.0 h.0 k.0) (same_where R P one xs ys zs p.1 h.1 k.1)

-- the same of items of any kind
pub same_beside : {X Y : Type 0} (R : X → Y → Type 0) → ((x : X) (y z : Y) → R x y → R x z → y ≡ z) → (xs : List X) (ys zs : List Y)
    → AllZip R xs ys → AllZip R xs zs → ys ≡ zs
same_beside {X} R one xs ys zs h k = same_where R (λ x. ⊤) (λ x y z any p q. one x y z p q) xs ys zs (of_any xs) h k
  where
    of_any : (xs : List X) → AllByRecursion (λ x. ⊤) xs
    of_any [] = tt
    of_any (x ∷ xs) = (tt, of_any xs)

-- beside a list stands its map, if each item of a kind stands beside its image
pub image_beside : {X Y : Type 0} (R : X → Y → Type 0) (P : X → Type 0) (g : X → Y) → ((x : X) → P x → R x (g x)) → (xs : List X) → AllByRecursion P xs
    → AllZip R xs (map g xs)
image_beside R P g each [] h = tt
image_beside R P g each (x ∷ xs) h = (each x h.0, image_beside R P g each xs h.1)

-- what stands beside a list stands beside its map
pub beside-map : {X Y Z : Type 0} (R : Y → Z → Type 0) (f : X → Y) (xs : List X) (zs : List Z) → AllZip (λ x z. R (f x) z) xs zs → AllZip R (map f xs) zs
beside-map R f [] [] h = tt
beside-map R f [] (z ∷ zs) h = absurd h
beside-map R f (x ∷ xs) [] h = absurd h
beside-map R f (x ∷ xs) (z ∷ zs) h = (h.0, beside-map R f xs zs h.1)

-- if the list that each item gives stands beside the list that its index gives, so do all of them, one list after another
pub beside-flat_map : {X Y Z : Type 0} (R : Y → Z → Type 0) (f : X → List Y) (g : ℕ → List Z) (xs : List X) (k : ℕ)
    → ((i : ℕ) (x : X) → slice_get xs i ≡ Some x → AllZip R (f x) (g (k + i))) → AllZip R (flat_map f xs) (flat_map g (range_with_len k (length xs)))
beside-flat_map R f g [] k each = tt
beside-flat_map R f g (x ∷ xs) k each =
    let here : k + 0 ≡ k = omega arith in
    let first : AllZip R (f x) (g k) = subst (λ n. AllZip R (f x) (g n)) here (each 0 x refl) in
    let rest = beside-flat_map R f g xs (k + 1) (λ i y at. let on : k + suc i ≡ k + 1 + i =
    omega arith in subst (λ n. AllZip R (f y) (g n)) on (each (suc i) y at)) in
    beside-append R (f x) (flat_map f xs) (g k) (flat_map g (range_with_len (k + 1) (length xs))) first rest

-- an item of one list has one beside it
pub zip_at : {X Y : Type 0} (R : X → Y → Type 0) (xs : List X) (ys : List Y) (k : ℕ) (y : Y) → AllZip R xs ys → slice_get ys k ≡ Some y
    → (x : X) × (slice_get xs k ≡ Some x) × R x y
zip_at {X} R xs ys k y h at = found (slice_get xs k) (rw at at (AllZip-right R xs ys h k))
  where
    found : (o : Option X) → IsSomeAnd o (λ x. R x y) → (x : X) × (o ≡ Some x) × R x y
    found None is = absurd is
    found (Some x) is = (x, refl, is)

-- what follows of each pair follows of all
pub zip_weaker : {X Y : Type 0} (R S : X → Y → Type 0) → ((x : X) (y : Y) → R x y → S x y) → (xs : List X) (ys : List Y) → AllZip R xs ys → AllZip S xs ys
zip_weaker R S so [] [] z = tt
zip_weaker R S so [] (y ∷ ys) z = absurd z
zip_weaker R S so (x ∷ xs) [] z = absurd z
zip_weaker R S so (x ∷ xs) (y ∷ ys) z = (so x y z.0, zip_weaker R S so xs ys z.1)

-- what follows of each pair for its first item is true of all first items
pub first_of_pairs : {X Y : Type 0} (R : X → Y → Type 0) (P : X → Type 0) → ((x : X) (y : Y) → R x y → P x) → (xs : List X) (ys : List Y) → AllZip R xs ys → All P xs
first_of_pairs R P so [] ys z = All-nil P
first_of_pairs R P so (x ∷ xs) [] z = absurd z
first_of_pairs R P so (x ∷ xs) (y ∷ ys) z = All-cons P x xs (so x y z.0) (first_of_pairs R P so xs ys z.1)

-- beside the empty list stands the empty list
pub no_pairs : {X Y : Type 0} (R : X → Y → Type 0) (xs : List X) (ys : List Y) → xs ≡ [] → AllZip R xs ys → ys ≡ []
no_pairs R xs [] none z = refl
no_pairs R [] (y ∷ ys) none z = absurd z
no_pairs R (x ∷ xs) (y ∷ ys) none z = cc
