-- The rows that are left of each lane and those that were given, at first, as one is given, and at last: for `Feeds`. Lists that get
-- one more: for what is brought of each lane.
use Rattle.std.proofs.Common.{◌≡◌, ℕ, ◌<◌, ◌==◌, ◌++◌, IfSome, IsSome, Option, Some, None, is_some, option_to_list, leb, true, zero, suc, List, [], ◌∷◌, get_or, length, length-append, map, replicate, set, refl, sym, ap, ◌∙◌, arith, append-nil, append_assoc}
use Rattle.std.proofs.lemmas.Bool.{and_parts, both_ways, leb-true, ne_eqb}
use Rattle.std.proofs.lemmas.List.{get_or-map, length-map, length-replicate, length-set, map_push, map-set, replicate_more}
use Rattle.std.proofs.lemmas.List.Elements.{All-from_get_or}
use Rattle.std.proofs.lemmas.List.Sums.{list_all-from_AllPass}
use Rattle.std.proofs.Math.Seq.{map-set_same}
use Rattle.hub_core.specs.Feeds.{AreGiven, IsTaken, appended, are_given}
use Rattle.hub_core.specs.Serving.{are_short}
use Rattle.hub_core.specs.Traffics.{HasRoom, with_more}
use Rattle.hub_core.proofs.ListsOfLists.{list_more_at}

-- those that were given and those that are left are the same in all, as one row goes over
appended_more : {X : Type 0} (given old : List (List X)) (i : ℕ) (row : X) (rest : List X) → i < length old → length given ≡ length old → get_or old i []
    ≡ row ∷ rest
    → appended (with_more i row given) (set old i rest) ≡ appended given old
appended_more [] [] i row rest low count first = absurd (omega (arith, low))
appended_more [] (ys ∷ old) i row rest low count first = absurd (omega (arith, count))
appended_more (xs ∷ given) [] i row rest low count first = absurd (omega (arith, count))
appended_more (xs ∷ given) (ys ∷ old) zero row rest low count first =
    ap (λ v. v ∷ appended given old) (append_assoc xs (row ∷ []) rest ∙ ap (λ v. xs ++ v) (sym first))
appended_more (xs ∷ given) (ys ∷ old) (suc i) row rest low count first =
    ap (λ v. (xs ++ ys) ∷ v) (appended_more given old i row rest (omega (arith, low)) (omega (arith, count)) first)

-- its lane had a ticket left for it: no lane has more than 4,294,967,295 rows (`are_short`)
short_room : (given old : List (List (List ℕ))) (i : ℕ) (row : List ℕ) (rest : List (List ℕ)) → i < length old → length given ≡ length old → get_or old i []
    ≡ row ∷ rest
    → are_short (appended given old) ≡ true → length (get_or given i []) < 4294967295
short_room [] [] i row rest low count first short = absurd (omega (arith, low))
short_room [] (ys ∷ old) i row rest low count first short = absurd (omega (arith, count))
short_room (xs ∷ given) [] i row rest low count first short = absurd (omega (arith, count))
short_room (xs ∷ given) (ys ∷ old) zero row rest low count first short =
    let s = and_parts (leb (length (xs ++ ys)) 4294967295) (are_short (appended given old)) short in
    omega (arith, leb-true (length (xs ++ ys)) 4294967295 s.0, length-append xs ys, ap length first)
short_room (xs ∷ given) (ys ∷ old) (suc i) row rest low count first short =
    let s = and_parts (leb (length (xs ++ ys)) 4294967295) (are_short (appended given old)) short in
    short_room given old i row rest (omega (arith, low)) (omega (arith, count)) first s.1

-- the row that was taken was the first of those that were left
pub row_taken : {V : Type 0} (f : V → List (List ℕ)) (vs : List V) (i lane : ℕ) (v w : V) (o : Option (List ℕ)) → i ≡ lane → i < length vs → v ≡ get_or vs i v → f v
    ≡ option_to_list o ++ f w
    → IfSome o (λ row. IsTaken (map f vs) lane row (map f (set vs i w)))
row_taken f vs i lane v w None is low at next = tt
row_taken f vs i lane v w (Some row) is low at next = (
  f w,
  omega (arith, low, is, length-map vs f),
  ap (λ k. get_or (map f vs) k []) (sym is) ∙ (get_or-map f vs i v [] low ∙ (ap f (sym at) ∙ next)),
  map-set f vs i w ∙ ap (λ k. set (map f vs) k (f w)) is,
)

-- no row was taken, and nothing has changed
pub row_untaken : {V : Type 0} (f : V → List (List ℕ)) (vs : List V) (i : ℕ) (v w : V) (o : Option (List ℕ)) → v ≡ get_or vs i v → f v ≡ option_to_list o ++ f w
    → o ≡ None → map f (set vs i w) ≡ map f vs
row_untaken f vs i v w o at next none = map-set_same f vs i w v (sym (next ∙ ap (λ r. option_to_list r ++ f w) none) ∙ ap f at)

-- nothing is left where no row was there to be taken
pub none_to_take : (o : Option (List ℕ)) (n : ℕ) (rows : List (List ℕ)) → (0 < n → IsSome o) → n ≡ length rows → o ≡ None → rows ≡ []
none_to_take o n [] some long none = refl
none_to_take o n (row ∷ rows) some long none = absurd (both_ways (is_some o) (ap is_some none) (some (omega (arith, long))))

-- a lane of which nothing is left, by its place
pub left_none : {V : Type 0} (f : V → List (List ℕ)) (vs : List V) (i lane : ℕ) (v : V) → i ≡ lane → lane < length (map f vs) → v ≡ get_or vs i v → f v ≡ []
    → get_or (map f vs) lane [] ≡ []
left_none f vs i lane v is low at none =
    ap (λ k. get_or (map f vs) k []) (sym is) ∙ (get_or-map f vs i v [] (omega (arith, low, is, length-map vs f)) ∙ (ap f (sym at) ∙ none))

-- one more row was given
pub one_given : (feeds given old new : List (List (List ℕ))) (lane : ℕ) (row : List ℕ) → IsTaken old lane row new → AreGiven feeds given old
    → HasRoom lane given × AreGiven feeds (with_more lane row given) new
one_given feeds given old new lane row taken was =
    let rest = taken.0 in
    let low = taken.1 in
    let first = taken.2 in
    let is : new ≡ set old lane rest = taken.3 in
    let all : appended (with_more lane row given) new ≡ feeds =
    ap (appended (with_more lane row given)) is ∙ (appended_more given old lane row rest low was.count first ∙ was.all) in
    let count : length (with_more lane row given) ≡ length new =
    length-set given lane (get_or given lane [] ++ row ∷ []) ∙ (was.count ∙ (sym (length-set old lane rest) ∙ ap length (sym is))) in (
      (omega (arith, low, was.count), short_room given old lane row rest low was.count first (ap are_short was.all ∙ was.short)),
      record { count = count; all = all; short = was.short },
    )

-- nothing was given and all is left
none_appended : {X : Type 0} (rests : List (List X)) (n : ℕ) → length rests ≡ n → appended (replicate n []) rests ≡ rests
none_appended [] zero count = refl
none_appended [] (suc n) count = absurd (omega (arith, count))
none_appended (ys ∷ rests) zero count = absurd (omega (arith, count))
none_appended (ys ∷ rests) (suc n) count = ap (λ v. ys ∷ v) (none_appended rests n (omega (arith, count)))

-- the list of this lane has one more: `list_more_at`, by the lane's number and what was brought
pub list_more : {V X : Type 0} (f : V → List X) (vs : List V) (i lane : ℕ) (v w : V) (x : X) (brought : List (List X)) → i ≡ lane → lane < length brought → v
    ≡ get_or vs i v → f w ≡ f v ++ x ∷ []
    → map f vs ≡ brought → map f (set vs i w) ≡ with_more lane x brought
list_more f vs i lane v w x brought is low at more all =
    list_more_at f vs i v w x at (omega (arith, low, is, ap length all, length-map vs f)) more ∙ (λ j. with_more (is j) x (all j))

-- what is left of one more feed
pub rests_more : {V W : Type 0} (f : V → List (List ℕ)) (g : W → List (List ℕ)) (old new : List V) (v : V) (feeds : List W) (feed : W) → new ≡ old ++ v ∷ []
    → f v ≡ g feed → map f old ≡ map g feeds → map f new ≡ map g (feeds ++ feed ∷ [])
rests_more f g old new v feeds feed is one all =
    ap (map f) is ∙ (map_push f old v ∙ ((λ i. all i ++ one i ∷ []) ∙ sym (map_push g feeds feed)))

-- one more empty list
pub empty_more : {V X : Type 0} (f : V → List X) (old new : List V) (v : V) (n k : ℕ) → new ≡ old ++ v ∷ [] → f v ≡ [] → map f old ≡ replicate n [] → k ≡ suc n
    → map f new ≡ replicate k []
empty_more f old new v n k is none all more =
    ap (map f) is ∙ (map_push f old v ∙ ((λ i. all i ++ none i ∷ []) ∙ (replicate_more n [] ∙ ap (λ m. replicate m []) (omega (arith, more)))))

-- nothing was given
pub none_given : (feeds rests : List (List (List ℕ))) (n : ℕ) → rests ≡ feeds → length feeds ≡ n → are_short feeds ≡ true
    → AreGiven feeds (replicate n []) rests
none_given feeds rests n is count short = record {
  count = length-replicate n [] ∙ (sym count ∙ ap length (sym is));
  all = none_appended rests n (ap length is ∙ count) ∙ is;
  short = short;
}

-- all was given and nothing is left
all_appended : (given rests : List (List (List ℕ))) → length given ≡ length rests → are_given rests ≡ true → appended given rests ≡ given
all_appended [] rests count are = refl
all_appended (xs ∷ given) [] count are = absurd (omega (arith, count))
all_appended (xs ∷ given) ([] ∷ rests) count are =
    let rest = all_appended given rests (omega (arith, count)) are in
    (λ j. append-nil xs j ∷ rest j)
all_appended (xs ∷ given) ((y ∷ ys) ∷ rests) count are =
    let first = and_parts (length (y ∷ ys) == 0) (are_given rests) are in
    absurd (both_ways (length (y ∷ ys) == 0) (ne_eqb (length (y ∷ ys)) 0 (λ e. absurd (omega (arith, e)))) first.0)

-- all were given
pub all_given : (feeds given rests : List (List (List ℕ))) → AreGiven feeds given rests → are_given rests ≡ true → given ≡ feeds
all_given feeds given rests was are = sym (all_appended given rests was.count are) ∙ was.all

-- where none is left of any lane, all were given
pub all_left : (rests : List (List (List ℕ))) → ((l : ℕ) → l < length rests → get_or rests l [] ≡ []) → are_given rests ≡ true
all_left rests none = list_all-from_AllPass (λ rest. length rest == 0) rests
    (All-from_get_or (λ rest. (length rest == 0) ≡ true) rests [] (λ l low. ap (λ ys. length ys == 0) (none l low)))
