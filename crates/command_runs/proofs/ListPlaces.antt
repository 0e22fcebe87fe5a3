-- What stands at a place of a list: of two lists one after another, of the numbers from 0 on, of lists of one length one after another.
use Rattle.std.proofs.Common.{◌+◌, ◌*◌, ◌++◌, ◌<◌, ◌≡◌, ◌∙◌, ◌∷◌, [], List, Some, ap, arith, length, refl, suc, zero, ℕ}
use Rattle.std.specs.List.{flat_map, range_with_len, slice_get}
use Rattle.std.proofs.lemmas.List.{length-append}
use Rattle.std.proofs.lemmas.List.FromFn.{get_or-range_with_len, length-range_with_len}
use Rattle.std.proofs.lemmas.Option.{slice_get-get_or, slice_get_within}

-- a place in the first list, and one in the second
get_first : {A : Type 0} (xs ys : List A) (j : ℕ) → j < length xs → slice_get (xs ++ ys) j ≡ slice_get xs j
get_first [] ys j low = absurd (omega (arith, low))
get_first (x ∷ xs) ys zero low = refl
get_first (x ∷ xs) ys (suc j) low = get_first xs ys j (omega (arith, low))

get_second : {A : Type 0} (xs ys : List A) (n : ℕ) → slice_get (xs ++ ys) (length xs + n) ≡ slice_get ys n
get_second [] ys n = let same : 0 + n ≡ n = omega arith in ap (slice_get ys) same
get_second (x ∷ xs) ys n =
    let same : length (x ∷ xs) + n ≡ suc (length xs + n) = omega arith in
    ap (slice_get (x ∷ xs ++ ys)) same ∙ get_second xs ys n

-- what stands in a list stands there when more comes, and after another list
pub got_more : {A : Type 0} (xs ys : List A) (n : ℕ) (x : A) → slice_get xs n ≡ Some x → slice_get (xs ++ ys) n ≡ Some x
got_more xs ys n x at = get_first xs ys n (slice_get_within xs n x at) ∙ at

pub got_after : {A : Type 0} (xs ys : List A) (k n : ℕ) (x : A) → n ≡ length xs + k → slice_get ys k ≡ Some x → slice_get (xs ++ ys) n ≡ Some x
got_after xs ys k n x is at = ap (slice_get (xs ++ ys)) is ∙ get_second xs ys k ∙ at

-- a number stands at its own place among the numbers from 0 on
pub get_counting : (n i : ℕ) → i < n → slice_get (range_with_len 0 n) i ≡ Some i
get_counting n i low =
    slice_get-get_or (range_with_len 0 n) i 0 (omega (arith, low, length-range_with_len 0 n))
    ∙ ap Some (get_or-range_with_len 0 n i 0 low ∙ omega arith)

-- lists of k items each, one after another: how many items they have, and the item j of the list i
module _ {X A : Type 0} (f : X → List A) (k : ℕ) (each : (x : X) → length (f x) ≡ k) where
  pub pieces_long : (xs : List X) → length (flat_map f xs) ≡ length xs * k
  pieces_long [] = omega arith
  pieces_long (x ∷ xs) =
      let split : (length xs + 1) * k ≡ length xs * k + k = grind arith in
      omega (arith, length-append (f x) (flat_map f xs), each x, pieces_long xs, split)

  pub piece_at : (xs : List X) (i j : ℕ) (x : X) → slice_get xs i ≡ Some x → j < k → slice_get (flat_map f xs) (i * k + j) ≡ slice_get (f x) j
  piece_at [] i j x at low = cc at
  piece_at (y ∷ ys) zero j x at low =
      let same : y ≡ x = cc at in
      let first : 0 * k + j ≡ j = omega arith in
      ap (slice_get (flat_map f (y ∷ ys))) first ∙ get_first (f y) (flat_map f ys) j (omega (arith, low, each y)) ∙ ap (λ z. slice_get (f z) j) same
  piece_at (y ∷ ys) (suc i) j x at low =
      let split : (i + 1) * k ≡ i * k + k = grind arith in
      let past : suc i * k + j ≡ length (f y) + (i * k + j) = omega (arith, each y, split) in
      ap (slice_get (flat_map f (y ∷ ys))) past ∙ get_second (f y) (flat_map f ys) (i * k + j) ∙ piece_at ys i j x at low
