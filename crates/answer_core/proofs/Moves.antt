-- Elements in the order of a link.
use Rattle.std.proofs.Common.{◌≡◌, ◌⊎◌, ◌∙◌, ◌+◌, ◌≤◌, ◌∷◌, ◌++◌, [], Bool, List, None, Option, Some, ap, arith, inl, inr, length, refl, suc, sym, true, zero, ℕ}
use Rattle.std.specs.Prelude.{◌==◌, slice_get}
use Rattle.std.specs.List.{filter, position_or_len, remove}
use Rattle.std.proofs.lemmas.Bool.{cases_Bool, eqb-true, true≢false}
use Rattle.std.proofs.lemmas.Option.{none-some, same_Some}
use Rattle.element_core.specs.Elements.{Entry}
use Rattle.message_core.specs.Keys.{is_key, place_by}
use Rattle.message_core.specs.Laws.{StandInOrder}
use Rattle.answer_core.specs.Written.{Parted, is_at_place, is_key_entry, moved, moved_by, parted, parted_by, qualifies, with_last, with_qualifiers}

seen : {X : Type 0} (o : Option X) → (o ≡ None) ⊎ ((x : X) × (o ≡ Some x))
seen None = inl refl
seen (Some x) = inr (x, refl)

-- ---- what is moved is so

get_behind : (f : Entry) (es : List Entry) (n : ℕ) → slice_get (f ∷ es) (1 + n) ≡ slice_get es n
get_behind f es n = let e : 1 + n ≡ suc n = omega arith in ap (slice_get (f ∷ es)) e

found_is : (is : Entry → Bool) (es : List Entry) (e : Entry) → slice_get es (position_or_len is es) ≡ Some e → is e ≡ true
found_is is [] e at = absurd (none-some e at)
found_is is (f ∷ es) e at = elim (cases_Bool (is f)) [
  | inl here ↦ let same : Some f ≡ Some e = (rw here at at) in ap is (sym (same_Some f e same)) ∙ here
  | inr other ↦ found_is is es e (sym (get_behind f es (position_or_len is es)) ∙ (rw other at at))
]

-- ---- each element stands as often as before

-- how often elements of which this is so stand in a list
abbrev pub times : (Entry → Bool) → List Entry → ℕ
times is es = length (filter is es)

pub count_both : (is : Entry → Bool) (xs ys : List Entry) → times is (xs ++ ys) ≡ times is xs + times is ys
count_both is [] ys = omega arith
count_both is (x ∷ xs) ys =
    let more = count_both is xs ys in
    elim (cases_Bool (is x)) [
      | inl here ↦ rw here (omega (arith, more))
      | inr other ↦ rw other more
    ]

abbrev pub count : (Entry → Bool) → Parted → ℕ
count is p = times is p.path + times is p.query

count_removed : (is : Entry → Bool) (es : List Entry) (i : ℕ) (e : Entry) → slice_get es i ≡ Some e → times is (e ∷ []) + times is (remove es i) ≡ times is es
count_removed is [] i e at = absurd (none-some e at)
count_removed is (f ∷ es) zero e at = ap (λ (x : Entry). times is (x ∷ []) + times is es) (sym (same_Some f e at)) ∙ sym (count_both is (f ∷ []) es)
count_removed is (f ∷ es) (suc i) e at =
    let more = count_removed is es i e at in
    let one = count_both is (f ∷ []) (remove es i) in
    let two = count_both is (f ∷ []) es in
    omega (arith, more, one, two)

count_moved_by : (is : Entry → Bool) (o : Option Entry) (i : ℕ) (p : Parted) → slice_get p.query i ≡ o → count is (moved_by o i p) ≡ count is p
count_moved_by is None i p at = refl
count_moved_by is (Some e) i p at =
    let removed = count_removed is p.query i e at in
    let put = count_both is p.path (e ∷ []) in
    omega (arith, removed, put)

count_moved : (is by : Entry → Bool) (p : Parted) → count is (moved by p) ≡ count is p
count_moved is by p = count_moved_by is (slice_get p.query (position_or_len by p.query)) (position_or_len by p.query) p refl

count_qualified : (is : Entry → Bool) (key : List ℕ) (p : Parted) → count is (with_qualifiers key p) ≡ count is p
count_qualified is key p =
    let one = moved (qualifies key 0) p in
    let two = moved (qualifies key 1) one in
    let three = moved (qualifies key 2) two in
    last three ∙ count_moved is (qualifies key 2) two ∙ count_moved is (qualifies key 1) one ∙ count_moved is (qualifies key 0) p where
      last : (q : Parted) → count is (with_last key q) ≡ count is q
      last q = elim (cases_Bool (length q.path == 1)) [
        | inl alone ↦ rw alone (count_moved is (qualifies key 3) q)
        | inr others ↦ rw others refl
      ]

-- ---- the path is a key and its qualifiers in their order

-- qualifiers in their order, each before the end
abbrev StandsTo : List ℕ → ℕ → ℕ → List Entry → Type 0
StandsTo key least end [] = least ≤ end
StandsTo key least end (e ∷ es) = (place : ℕ) × (place_by key e.ai ≡ Some place) × (least ≤ place) × StandsTo key (place + 1) end es

in_order : (key : List ℕ) (least end : ℕ) (qs : List Entry) → StandsTo key least end qs → StandInOrder key least qs
in_order key least end [] o = tt
in_order key least end (e ∷ es) o = (o.0, o.1, o.2, in_order key (o.0 + 1) end es o.3)

later : (key : List ℕ) (least end more : ℕ) (qs : List Entry) → StandsTo key least end qs → end ≤ more → StandsTo key least more qs
later key least end more [] o h = omega (arith, o, h)
later key least end more (e ∷ es) o h = (o.0, o.1, o.2, later key (o.0 + 1) end more es o.3 h)

one_more : (key : List ℕ) (least end : ℕ) (qs : List Entry) (e : Entry) → StandsTo key least end qs → place_by key e.ai ≡ Some end
    → StandsTo key least (end + 1) (qs ++ e ∷ [])
one_more key least end [] e o at = (end, at, o, omega arith)
one_more key least end (f ∷ fs) e o at = (o.0, o.1, o.2, one_more key (o.0 + 1) end fs e o.3 at)

record Ordered (key : List ℕ) (k : Entry) (end : ℕ) (p : Parted) : Type 0 where
  qualifiers : List Entry
  path_is : p.path ≡ k ∷ qualifiers
  order : StandsTo key 0 end qualifiers

at_place : (place : ℕ) (o : Option ℕ) → is_at_place place o ≡ true → o ≡ Some place
at_place place None is = absurd (true≢false (sym is))
at_place place (Some p) is = ap (λ n. Some n) (eqb-true p place is)

ordered_by : (key : List ℕ) (k : Entry) (n : ℕ) (o : Option Entry) (i : ℕ) (p : Parted) → ((e : Entry) → o ≡ Some e → place_by key e.ai ≡ Some n)
    → Ordered key k n p → Ordered key k (n + 1) (moved_by o i p)
ordered_by key k n None i p is h = record { qualifiers = h.qualifiers; path_is = h.path_is; order = later key 0 n (n + 1) h.qualifiers h.order (omega arith) }
ordered_by key k n (Some e) i p is h = record {
  qualifiers = h.qualifiers ++ e ∷ [];
  path_is = ap (λ (l : List Entry). l ++ e ∷ []) h.path_is;
  order = one_more key 0 n h.qualifiers e h.order (is e refl);
}

ordered : (key : List ℕ) (k : Entry) (n : ℕ) (p : Parted) → Ordered key k n p → Ordered key k (n + 1) (moved (qualifies key n) p)
ordered key k n p h =
    let i = position_or_len (qualifies key n) p.query in
    ordered_by key k n (slice_get p.query i) i p (λ e at. at_place n (place_by key e.ai) (found_is (qualifies key n) p.query e at)) h

ordered_all : (key : List ℕ) (k : Entry) (p : Parted) → Ordered key k 0 p → Ordered key k 4 (with_qualifiers key p)
ordered_all key k p h =
    let one = moved (qualifies key 0) p in
    let two = moved (qualifies key 1) one in
    let three = moved (qualifies key 2) two in
    last three (ordered key k 2 two (ordered key k 1 one (ordered key k 0 p h))) where
      last : (q : Parted) → Ordered key k 3 q → Ordered key k 4 (with_last key q)
      last q o = elim (cases_Bool (length q.path == 1)) [
        | inl alone ↦ rw alone (ordered key k 3 q o)
        | inr others ↦ rw others (record { qualifiers = o.qualifiers; path_is = o.path_is; order = later key 0 3 4 o.qualifiers o.order (omega arith) })
      ]

-- what is known of elements in the order of a link
pub record IsParted (es : List Entry) (p : Parted) : Type 0 where
  pub key : Entry
  pub qualifiers : List Entry
  pub path_is : p.path ≡ key ∷ qualifiers
  pub listed : is_key key.ai ≡ true
  pub order : StandInOrder key.ai 0 qualifiers
  pub same : (is : Entry → Bool) → count is p ≡ times is es

by_first : (es : List Entry) (i : ℕ) (p : Parted) (o : Option Entry) → i ≡ position_or_len is_key_entry es → slice_get es i ≡ o
    → (let q = moved_by o i (record { path = []; query = es }) in parted_by q.path q) ≡ Some p → IsParted es p
by_first es i p None first at none = absurd (none-some p none)
by_first es i p (Some k) first at some =
    let q : Parted = record { path = k ∷ []; query = remove es i } in
    let all = ordered_all k.ai k q (record { qualifiers = []; path_is = refl; order = omega arith }) in
    let result : with_qualifiers k.ai q ≡ p = same_Some (with_qualifiers k.ai q) p some in
    record {
      key = k;
      qualifiers = all.qualifiers;
      path_is = ap (λ (r : Parted). r.path) (sym result) ∙ all.path_is;
      listed = found_is is_key_entry es k (ap (slice_get es) (sym first) ∙ at);
      order = in_order k.ai 0 4 all.qualifiers all.order;
      same = λ is. ap (count is) (sym result) ∙ count_qualified is k.ai q ∙ count_removed is es i k at;
    }

pub parted_is : (es : List Entry) (p : Parted) → parted es ≡ Some p → IsParted es p
parted_is es p is = by_first es (position_or_len is_key_entry es) p (slice_get es (position_or_len is_key_entry es)) refl refl is
