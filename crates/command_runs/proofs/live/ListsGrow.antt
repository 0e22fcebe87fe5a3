-- Lists of lists that grow at their ends, and lists of which one item changes.
use Rattle.command_runs.proofs.live.Words.{List, Some, [], ap, append-nil, arith, cases_eq, get_or, get_or-set_at, get_or-set_other, get_or_from_slice_get, got_more, length, length-set, refl, set, slice_get, slice_get-get_or, slice_get_read, slice_get_within, subst, sym, with_more, ℕ, ⊎_elim, ◌++◌, ◌<◌, ◌∙◌, ◌∷◌, ◌≡◌, ◌≢◌}

-- each list has more at its end, or is as it was: `AreFirstOf` of hub_core, of any items and the other way round (`Grows` of lane_core is of one lane)
abbrev pub EachGrows : {X : Type 0} → List (List X) → List (List X) → Type 0
EachGrows {X} old new = (l : ℕ) → (more : List X) × (get_or new l [] ≡ get_or old l [] ++ more)

pub grows_same : {X : Type 0} (lists : List (List X)) → EachGrows lists lists
grows_same lists l = ([], sym (append-nil (get_or lists l [])))

-- the list of this place has these more at its end, and the others are as they were
pub record GrowsAt {X : Type 0} (i : ℕ) (more : List X) (old new : List (List X)) : Type 0 where
  pub count : length new ≡ length old
  pub here : get_or new i [] ≡ get_or old i [] ++ more
  pub others : (l : ℕ) → l ≢ i → get_or new l [] ≡ get_or old l []

module _ {X : Type 0} where
  -- nothing more, one item more, and that such lists grow
  pub adds_none : (i : ℕ) (lists : List (List X)) → GrowsAt i [] lists lists
  adds_none i lists = record { count = refl; here = sym (append-nil (get_or lists i [])); others = λ l other. refl }

  pub adds_one : (i : ℕ) (x : X) (lists : List (List X)) → i < length lists → GrowsAt i (x ∷ []) lists (with_more i x lists)
  adds_one i x lists low = let all = get_or lists i [] ++ x ∷ [] in record {
    count = length-set lists i all;
    here = get_or-set_at lists i i all [] refl low;
    others = λ l other. get_or-set_other lists i l all [] other;
  }

  pub grown : (i : ℕ) (more : List X) (old new : List (List X)) → GrowsAt i more old new → EachGrows old new
  grown i more old new a l = ⊎_elim
      (λ (e : l ≡ i). rw e (more, a.here))
      (λ (e : l ≢ i). ([], a.others l e ∙ sym (append-nil (get_or old l []))))
      (cases_eq l i)

  -- what stands in a list stands there when it grows
  pub got_grown : (old new : List (List X)) (l n : ℕ) (x : X) → EachGrows old new → slice_get (get_or old l []) n ≡ Some x → slice_get (get_or new l []) n ≡ Some x
  got_grown old new l n x grows at = let g = grows l in ap (λ xs. slice_get xs n) g.1 ∙ got_more (get_or old l []) g.0 n x at

  -- an item that was read at i stands at k, if these are one number: i is the `usize` of a lane, and k the lane
  pub placed_at : (xs : List X) (i k : ℕ) (x : X) → k < length xs → x ≡ get_or xs i x → i ≡ k → slice_get xs k ≡ Some x
  placed_at xs i k x low is same = slice_get_read xs (length xs) k x refl low (is ∙ ap (λ j. get_or xs j x) same)

  -- what is so of the new item and of the others is so of all (`get_set` of hub_core tells the two apart)
  pub set_each : (P : ℕ → X → Type 0) (xs : List X) (i : ℕ) (v : X) → P i v → ((k : ℕ) (w : X) → k ≢ i → slice_get xs k ≡ Some w → P k w)
      → (k : ℕ) (w : X) → slice_get (set xs i v) k ≡ Some w → P k w
  set_each P xs i v here others k w at =
      let got = get_or_from_slice_get (set xs i v) k w w at in
      let low : k < length xs = omega (arith, slice_get_within (set xs i v) k w at, length-set xs i v) in
      ⊎_elim
      (λ (e : k ≡ i). subst (P k) (sym (get_or-set_at xs i k v w e (omega (arith, low, e))) ∙ got) (subst (λ j. P j v) (sym e) here))
      (λ (e : k ≢ i). others k w e (slice_get-get_or xs k w low ∙ ap Some (sym (get_or-set_other xs i k v w e) ∙ got)))
      (cases_eq k i)
