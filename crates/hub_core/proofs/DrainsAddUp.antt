-- One more delivery into its lane's list (`lists::place`), and several steps as one.
use Rattle.std.proofs.Common.{◌≡◌, ◌≢◌, ⊎_elim, ℕ, ◌<◌, ◌≤◌, ◌==◌, ◌&&◌, true, List, [], ◌∷◌, ◌++◌, get_or, length, set, refl, sym, ap, ◌∙◌, subst, arith, Some, vec_capacity, vec_len}
use Rattle.std.specs.List.{list_all, slice_get, count_by}
use Rattle.std.proofs.lemmas.Bool.{and_from, cases_eq, eq-eqb, ne_eqb}
use Rattle.std.proofs.lemmas.List.{length-set}
use Rattle.std.proofs.lemmas.Option.{same_Some, slice_get-get_or, slice_get_read, slice_get_within}
use Rattle.std.proofs.lemmas.List.Folds.{list_all-append}
use Rattle.std.proofs.lemmas.List.Sums.{sum_by-append}
use Rattle.lane_core.specs.declared.job.Plain.{Plain}
use Rattle.lane_core.specs.Weights.{once}
use Rattle.hub_core.specs.inner.DrainedLists.{DrainsInto, Listed}
use Rattle.hub_core.proofs.ListsOfLists.{sum_one_more}
use Rattle.hub_core.proofs.ListsByPlace.{get_set}

-- a delivery of another lane
not_of : (l : ℕ) (x : Plain) → x.lane ≢ l → count_by (λ (y : Plain). y.lane == l) (x ∷ []) ≡ 0
not_of l x apart = let e = ap once (ne_eqb x.lane l apart) in omega arith

-- a list that is as it was has the same room
same_room : (t : List Listed) (l : ℕ) (v w : Listed) → slice_get t l ≡ Some v → slice_get t l ≡ Some w → (vec_capacity w ≡ vec_capacity v) × (vec_len v ≤ vec_len w)
same_room t l v w e f =
    let s = same_Some v w (sym e ∙ f) in (ap (λ (u : Listed). vec_capacity u) (sym s), (let n = ap (λ (u : Listed). vec_len u) s in omega arith))

-- the delivery was dropped: no list has changed
pub drains_dropped : (old new : List Listed) (x : Plain) → new ≡ old → ((w : Listed) → slice_get old x.lane ≡ Some w → vec_capacity w ≤ vec_len w)
    → DrainsInto old new (x ∷ [])
drains_dropped old new x is no_room = subst (λ (zs : List Listed). DrainsInto old zs (x ∷ [])) (sym is) record {
  counted = refl;
  room = same_room old;
  own = λ own. own;
  dropped = x ∷ [];
  whole = λ h. refl;
  full = λ l w e low. ⊎_elim
      (λ (g : x.lane ≡ l). absurd (let n = no_room w (ap (slice_get old) g ∙ e) in omega arith))
      (λ (g : x.lane ≢ l). not_of l x g)
      (cases_eq x.lane l);
}

-- the list of lane l has one more of its own
own_more : (l : ℕ) (xs : List Plain) (x : Plain) → x.lane ≡ l → list_all (λ (y : Plain). y.lane == l) xs ≡ true
    → list_all (λ (y : Plain). y.lane == l) (xs ++ x ∷ []) ≡ true
own_more l xs x is all = list_all-append (λ (y : Plain). y.lane == l) xs (x ∷ [])
    ∙ and_from (list_all (λ (y : Plain). y.lane == l) xs) ((x.lane == l) && true) all (and_from (x.lane == l) true (eq-eqb x.lane l is) refl)

-- the delivery was put at the end of its lane's list
pub drains_put : (old new : List Listed) (l : ℕ) (v w : Listed) (x : Plain) → l < length old → v ≡ get_or old l v → new ≡ set old l w → x.lane ≡ l
    → w.items ≡ v.items ++ x ∷ [] → vec_capacity w ≡ vec_capacity v → vec_len v ≤ vec_len w → DrainsInto old new (x ∷ [])
drains_put old new l v w x low at is lane more same longer =
    let there = slice_get_read old (length old) l v refl low at in
    subst (λ (zs : List Listed). DrainsInto old zs (x ∷ [])) (sym is) record {
      counted = length-set old l w;
      room = λ k a b e f. ⊎_elim
          (λ (g : (k ≡ l) × (w ≡ b)).
          let s = same_Some a v (sym (ap (slice_get old) (sym g.0) ∙ e) ∙ there) in
          let p = ap (λ (u : Listed). vec_capacity u) g.1 in
          let q = ap (λ (u : Listed). vec_capacity u) s in
          let m = ap (λ (u : Listed). vec_len u) g.1 in
          let n = ap (λ (u : Listed). vec_len u) s in
          (omega arith, omega arith))
          (λ (g : (k ≢ l) × (slice_get old k ≡ Some b)). same_room old k a b e g.1)
          (get_set old l k w b f);
      own = λ own k b f. ⊎_elim
          (λ (g : (k ≡ l) × (w ≡ b)).
          let mine = own_more l v.items x lane (own l v there) in
          subst (λ (p : ℕ × Listed). list_all (λ (y : Plain). y.lane == p.0) p.1.items ≡ true) (λ i. (sym g.0 i, g.1 i))
          (ap (list_all (λ (y : Plain). y.lane == l)) more ∙ mine))
          (λ (g : (k ≢ l) × (slice_get old k ≡ Some b)). own k b g.1)
          (get_set old l k w b f);
      dropped = [];
      whole = λ h. let a = sum_one_more (λ (u : Listed). u.items) h old (set old l w) l v v w x low at more refl in omega arith;
      full = λ k b f room. refl;
    }

-- no step
pub drained_none : (t : List Listed) → DrainsInto t t []
drained_none t = record {
  counted = refl;
  room = same_room t;
  own = λ own. own;
  dropped = [];
  whole = λ h. refl;
  full = λ l w e low. refl;
}

-- two steps as one
pub drained_then : (t u v : List Listed) (xs ys : List Plain) → DrainsInto t u xs → DrainsInto u v ys → DrainsInto t v (xs ++ ys)
drained_then t u v xs ys f g = record {
  counted = g.counted ∙ f.counted;
  room = λ l a c e h.
      let low : l < length u = let k = slice_get_within v l c h in let m = g.counted in omega arith in
      let b = get_or u l a in
      let at = slice_get-get_or u l a low in
      let p = f.room l a b e at in
      let q = g.room l b c at h in
      (q.0 ∙ p.0, omega (arith, p.1, q.1));
  own = λ own. g.own (f.own own);
  dropped = f.dropped ++ g.dropped;
  whole = λ h. omega (arith, f.whole h, g.whole h, sum_by-append h f.dropped g.dropped, sum_by-append h xs ys);
  full = λ l c h room.
      let low : l < length u = let k = slice_get_within v l c h in let m = g.counted in omega arith in
      let b = get_or u l c in
      let at = slice_get-get_or u l c low in
      let q = g.room l b c at h in
      let mine = f.full l b at (omega (arith, q.0, q.1)) in
      let more = g.full l c h room in
      omega (arith, sum_by-append (λ (x : Plain). once (x.lane == l)) f.dropped g.dropped);
}

-- past the last list none stands
pub beyond : (old : List Listed) (l : ℕ) (w : Listed) → slice_get old l ≡ Some w → length old ≤ l → ⊥
beyond old l w e past = let k = slice_get_within old l w e in omega arith

-- lane m's list is full, since it is list l
pub full_there : (old : List Listed) (l m : ℕ) (v : Listed) → l < length old → v ≡ get_or old l v → l ≡ m → vec_capacity v ≤ vec_len v → (w : Listed)
    → slice_get old m ≡ Some w → vec_capacity w ≤ vec_len w
full_there old l m v low at is full w e =
    let there = slice_get_read old (length old) l v refl low at in
    let s = same_Some v w (sym there ∙ (ap (slice_get old) is ∙ e)) in
    let p = ap (λ (u : Listed). vec_capacity u) s in
    let q = ap (λ (u : Listed). vec_len u) s in omega arith
