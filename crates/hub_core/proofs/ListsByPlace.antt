-- Lists of any items: what stands at a place, and lists as long as another. `ListFacts` of lane_core has what stands at a place of a
-- mapped list, and what stands in a list that was written (`get_set_here`, `get_set_else`: `get_set` is the way back). `ListPlaces` of
-- command_runs has it of two lists one after another.
use Rattle.std.proofs.Common.{◌≡◌, ◌≢◌, ◌⊎◌, inl, inr, ⊎_elim, ℕ, ◌<◌, zero, suc, List, [], ◌∷◌, ◌++◌, length, set, refl, sym, ap, ◌∙◌, subst, arith, Some, ◌+◌, All, drop, length-append, append-nil, take}
use Rattle.std.specs.List.{slice_get}
use Rattle.std.proofs.lemmas.List.{drop_all, length_push, take_all}
use Rattle.std.proofs.lemmas.Option.{slice_get_within, get_or_from_slice_get}

-- what stands at a place of a list that was written at one: `at_set` of crossbeam_queue, by `slice_get`
pub get_set : {X : Type 0} (xs : List X) (l k : ℕ) (x t : X) → slice_get (set xs l x) k ≡ Some t → ((k ≡ l) × (x ≡ t)) ⊎ ((k ≢ l) × (slice_get xs k ≡ Some t))
get_set [] l k x t e = absurd (cc)
get_set (y ∷ ys) zero zero x t e = inl (refl, cc)
get_set (y ∷ ys) zero (suc k) x t e = inr ((λ h. omega arith), e)
get_set (y ∷ ys) (suc l) zero x t e = inr ((λ h. omega arith), e)
get_set (y ∷ ys) (suc l) (suc k) x t e = ⊎_elim (λ (h : (k ≡ l) × (x ≡ t)). inl (ap suc h.0, h.1))
    (λ (h : (k ≢ l) × (slice_get ys k ≡ Some t)). let n = h.0 in inr ((λ g. n (omega arith)), h.1)) (get_set ys l k x t e)

-- and at that one
pub got_set : {X : Type 0} (xs : List X) (l : ℕ) (x t : X) → slice_get (set xs l x) l ≡ Some t → x ≡ t
got_set xs l x t e = ⊎_elim (λ (h : (l ≡ l) × (x ≡ t)). h.1) (λ (h : (l ≢ l) × (slice_get xs l ≡ Some t)). absurd (h.0 refl)) (get_set xs l l x t e)

-- what stands at a place that the list has: the first of std's `slice_get_cases`
pub is_there : {X : Type 0} (xs : List X) (i : ℕ) → i < length xs → (x : X) × (slice_get xs i ≡ Some x)
is_there [] i low = absurd (omega arith)
is_there (x ∷ xs) zero low = (x, refl)
is_there (x ∷ xs) (suc i) low = is_there xs i (omega arith)

-- a front that is as long as the list is the list
pub front_is_all : {X : Type 0} (xs ys zs : List X) → xs ++ ys ≡ zs → length xs ≡ length zs → xs ≡ zs
front_is_all xs [] zs e same = sym (append-nil xs) ∙ e
front_is_all xs (y ∷ ys) zs e same = absurd (omega (arith, ap length e, length-append xs (y ∷ ys)))

-- what stands before the last item, and the last: `at_snoc` of crossbeam_queue, by `slice_get`
pub get_below : {X : Type 0} (xs : List X) (x t : X) (k : ℕ) → k < length xs → slice_get (xs ++ x ∷ []) k ≡ Some t → slice_get xs k ≡ Some t
get_below [] x t k less e = absurd (omega arith)
get_below (y ∷ ys) x t zero less e = e
get_below (y ∷ ys) x t (suc k) less e = get_below ys x t k (omega arith) e

pub get_last : {X : Type 0} (xs : List X) (x t : X) → slice_get (xs ++ x ∷ []) (length xs) ≡ Some t → x ≡ t
get_last [] x t e = cc
get_last (y ∷ ys) x t e = get_last ys x t e

-- std's `length_push`, of a list that has one item more
pub count_more : {X : Type 0} (xs ys : List X) (x : X) (n : ℕ) → ys ≡ xs ++ x ∷ [] → length xs ≡ n → length ys ≡ n + 1
count_more xs ys x n is count = ap length is ∙ (length_push xs x ∙ ap (λ k. k + 1) count)

-- a slice that is written back whole
pub whole_is : {X : Type 0} (now items : List X) (n : ℕ) → length now ≡ n → length items ≡ n → take n (now ++ drop (length now) items) ≡ now
whole_is now items n a b =
    ap (λ l. take n (now ++ l)) (drop_all (length now) items (omega arith)) ∙ (ap (take n) (append-nil now) ∙ take_all n now (omega arith))

-- std's `All-get_or`, by `slice_get`; the `all_at` of sheet_core is of `AllByRecursion`, and that of element_core of a test
pub all_at : {X : Type 0} (P : X → Type 0) (xs : List X) (i : ℕ) (x : X) → All P xs → slice_get xs i ≡ Some x → P x
all_at P xs i x all e = subst P (get_or_from_slice_get xs i x x e) (all i x (slice_get_within xs i x e))
