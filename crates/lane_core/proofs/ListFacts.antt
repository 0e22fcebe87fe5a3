-- Lists of any items: what stands at a place, and lists that repeat one item. `ListsByPlace` of hub_core has more of what stands at a place.
use Rattle.std.proofs.Common.{◌≡◌, ◌≢◌, ℕ, zero, suc, List, [], ◌∷◌, map, get_or, set, replicate, Some, None, refl, ap, ◌∙◌, length, length-set, get_or-set_same, sym}
use Rattle.std.specs.List.{slice_get}
use Rattle.std.specs.Option.{option_map}
use Rattle.std.proofs.lemmas.Option.{slice_get-map, slice_get_read, slice_get_within}

-- what stands at a place of a mapped list, and what stood there before
pub get_map : {X Y : Type 0} (f : X → Y) (xs : List X) (i : ℕ) (x : X) → slice_get xs i ≡ Some x → slice_get (map f xs) i ≡ Some (f x)
get_map f xs i x e = slice_get-map f xs i ∙ ap (option_map f) e

pub get_back : {X Y : Type 0} (f : X → Y) (xs : List X) (i : ℕ) (y : Y) → slice_get (map f xs) i ≡ Some y → (x : X) × (slice_get xs i ≡ Some x) × (f x ≡ y)
get_back f [] i y e = absurd (cc)
get_back f (x ∷ xs) zero y e = (x, refl, (cc))
get_back f (x ∷ xs) (suc i) y e = get_back f xs i y e

pub get_none_back : {X Y : Type 0} (f : X → Y) (xs : List X) (i : ℕ) → slice_get (map f xs) i ≡ None → slice_get xs i ≡ None
get_none_back f [] i e = refl
get_none_back f (x ∷ xs) zero e = absurd (cc)
get_none_back f (x ∷ xs) (suc i) e = get_none_back f xs i e

-- what stands at a place that was written, and at another
pub get_set_here : {X : Type 0} (xs : List X) (l : ℕ) (x v : X) → slice_get xs l ≡ Some v → slice_get (set xs l x) l ≡ Some x
get_set_here xs l x v e =
    let less = slice_get_within xs l v e in
    slice_get_read (set xs l x) (length xs) l x (sym (length-set xs l x)) less (sym (get_or-set_same xs l x x less))

pub get_set_else : {X : Type 0} (xs : List X) (l k : ℕ) (x : X) → k ≢ l → slice_get (set xs l x) k ≡ slice_get xs k
get_set_else [] l k x apart = refl
get_set_else (y ∷ ys) zero zero x apart = absurd (apart refl)
get_set_else (y ∷ ys) zero (suc k) x apart = refl
get_set_else (y ∷ ys) (suc l) zero x apart = refl
get_set_else (y ∷ ys) (suc l) (suc k) x apart = get_set_else ys l k x (λ h. apart (ap suc h))

-- lists that repeat one item
pub map_replicate : {X Y : Type 0} (f : X → Y) (n : ℕ) (x : X) → map f (replicate n x) ≡ replicate n (f x)
map_replicate f zero x = refl
map_replicate f (suc n) x = λ i. f x ∷ map_replicate f n x i

-- also past the end, of which std's `get_or-replicate` says nothing; hub_core's `empties_at` is the same of lists that are empty
pub get_or_zeros : (n l : ℕ) → get_or (replicate n zero) l zero ≡ zero
get_or_zeros zero l = refl
get_or_zeros (suc n) zero = refl
get_or_zeros (suc n) (suc l) = get_or_zeros n l
