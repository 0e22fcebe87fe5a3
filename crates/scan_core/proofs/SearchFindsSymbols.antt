-- What a search tells are the symbols of the row, and those of a turned row.
use Rattle.std.proofs.Common.{◌≡◌, ◌∙◌, ◌⊎◌, ℕ, zero, suc, ◌+◌, ◌-◌, ◌≤◌, List, [], ◌∷◌, ◌++◌, length, map, reverse, Contains, refl, sym, ap, ap₂, subst, inl, inr, arith, get_or}
use Rattle.std.specs.List.{AllByRecursion}
use Rattle.std.proofs.lemmas.Bool.{cases_lt}
use Rattle.std.proofs.lemmas.List.{ext_get_or, get_or-reverse, length-reverse, reverse-append, reverse-reverse, take_all}
use Rattle.std.proofs.lemmas.List.Elements.{Contains-push}
use Rattle.element_core.specs.Elements.{Listing}
use Rattle.scan_core.specs.declared.carrier.Carrier.{Carrier}
use Rattle.scan_core.specs.declared.answer.Answer.TheVariants.{Read}
use Rattle.scan_core.specs.declared.window.Window.{Window}
use Rattle.scan_core.specs.Row.{IsRow}
use Rattle.scan_core.specs.Answers.{IsAnswer}
use Rattle.scan_core.specs.Laws.{OneAnswer}
use Rattle.scan_core.specs.Windows.{AreInOrder, AreTold, ComesBefore, IsInside, IsLeft, IsSymbolOf, Search, SymbolsAreTold, TurnedSymbols, WholeRow, runs_in, turned}
use Rattle.scan_core.proofs.TurnedFacts.{IsRow-reverse, turned_row}
use Rattle.element_core.specs.Terms.{Terms}
use Rattle.scan_core.proofs.WindowFacts.{IsRow-runs_in, length-runs_in, runs_in-at}

-- ---- lists of windows

weaker : (P Q : Window → Type 0) (ws : List Window) → ((w : Window) → P w → Q w) → AllByRecursion P ws → AllByRecursion Q ws
weaker P Q [] f h = tt
weaker P Q (w ∷ ws) f h = (f w h.0, weaker P Q ws f h.1)

each-push : (P : Window → Type 0) (ws : List Window) (w : Window) → AllByRecursion P ws → P w → AllByRecursion P (ws ++ w ∷ [])
each-push P [] w each last = (last, tt)
each-push P (x ∷ ws) w each last = (each.0, each-push P ws w each.1 last)

reverse-cons : (w : Window) (ws : List Window) → reverse (w ∷ ws) ≡ reverse ws ++ w ∷ []
reverse-cons w ws = reverse-append (w ∷ []) ws

-- what holds of each window turned holds of the turned ones in reverse
each-turned : (P Q : Window → Type 0) (t : Window → Window) (ws : List Window) → ((w : Window) → P w → Q (t w)) → AllByRecursion P ws
    → AllByRecursion Q (reverse (map t ws))
each-turned P Q t [] f h = tt
each-turned P Q t (w ∷ ws) f h =
    subst (AllByRecursion Q) (sym (reverse-cons (t w) (map t ws))) (each-push Q (reverse (map t ws)) (t w) (each-turned P Q t ws f h.1) (f w h.0))

has-left : (xs ys : List Window) (w : Window) → Contains xs w → Contains (xs ++ ys) w
has-left [] ys w (k, low, e) = absurd (omega arith)
has-left (x ∷ xs) ys w (zero, low, e) = (0, omega arith, e)
has-left (x ∷ xs) ys w (suc k, low, e) = let r = has-left xs ys w (k, omega arith, e) in let l = r.1 in (suc r.0, omega arith, r.2)

has-later : (x : Window) (xs : List Window) (w : Window) → Contains xs w → Contains (x ∷ xs) w
has-later x xs w (k, low, e) = (suc k, omega arith, e)

has-turned : (t : Window → Window) (ws : List Window) (w : Window) → Contains ws w → Contains (reverse (map t ws)) (t w)
has-turned t [] w (k, low, e) = absurd (omega arith)
has-turned t (x ∷ ws) w (zero, low, e) =
    subst (λ xs. Contains xs (t w)) (sym (reverse-cons (t x) (map t ws)))
    (subst (λ y. Contains (reverse (map t ws) ++ t x ∷ []) y) (ap t e) (Contains-push (reverse (map t ws)) (t x)))
has-turned t (x ∷ ws) w (suc k, low, e) =
    subst (λ xs. Contains xs (t w)) (sym (reverse-cons (t x) (map t ws)))
    (has-left (reverse (map t ws)) (t x ∷ []) (t w) (has-turned t ws w (k, omega arith, e)))

order-push : (ws : List Window) (w : Window) → AreInOrder ws → AllByRecursion (λ v. ComesBefore v w) ws → AreInOrder (ws ++ w ∷ [])
order-push [] w order before = (tt, tt)
order-push (x ∷ ws) w order before = (each-push (ComesBefore x) ws w order.0 before.0, order-push ws w order.1 before.1)

-- ---- what is told

same_fields : (v w : Window) → v.first ≡ w.first → v.count ≡ w.count → v.carrier ≡ w.carrier → v.elements ≡ w.elements → v ≡ w
same_fields v w p q r s =
    ap (λ (n : ℕ). record { first = n; count = v.count; carrier = v.carrier; elements = v.elements }) p
    ∙ ap (λ (n : ℕ). record { first = w.first; count = n; carrier = v.carrier; elements = v.elements }) q
    ∙ ap (λ (c : Carrier). record { first = w.first; count = w.count; carrier = c; elements = v.elements }) r
    ∙ ap (λ (l : Listing). record { first = w.first; count = w.count; carrier = w.carrier; elements = l }) s

carrier_of : (c d : Carrier) (l m : Listing) → Read c l ≡ Read d m → (c ≡ d) × (l ≡ m)
carrier_of c d l m e = (cc, cc)

module _ (once : OneAnswer) (runs : List ℕ) (year : Terms) (row : IsRow runs) where
  -- the search from a window on
  abbrev from : ℕ → ℕ → Search
  from first least = record { runs = runs; year = year; first = first; least = least }

  same_window : (v w : Window) → IsSymbolOf runs year v → IsSymbolOf runs year w → v.first ≡ w.first → v.count ≡ w.count → v ≡ w
  same_window v w s t p q =
      let here : runs_in runs v.first v.count ≡ runs_in runs w.first w.count = ap₂ (runs_in runs) p q in
      let moved = subst (λ ws. IsAnswer ws year (Read v.carrier v.elements)) here s.read in
      let read = once (runs_in runs w.first w.count) year (Read v.carrier v.elements) (Read w.carrier w.elements)
      (IsRow-runs_in runs w.first w.count row t.within t.ends_light) moved t.read in
      let parts = carrier_of v.carrier w.carrier v.elements w.elements read in
      same_fields v w p q parts.0 parts.1

  -- one comes first, or they are one
  which_first : (v w : Window) → IsSymbolOf runs year v → IsSymbolOf runs year w → ComesBefore v w ⊎ ((v ≡ w) ⊎ ComesBefore w v)
  which_first v w s t =
      elim (cases_lt v.first w.first) [
        | inl before ↦ inl (inl before)
        | inr rest ↦ elim (cases_lt w.first v.first) [
          | inl after ↦ inr (inr (inl after))
          | inr other ↦ elim (cases_lt v.count w.count) [
            | inl fewer ↦ inl (inr (omega arith, fewer))
            | inr more ↦ elim (cases_lt w.count v.count) [
              | inl longer ↦ inr (inr (inr (omega arith, longer)))
              | inr same ↦ inr (inl (same_window v w s t (omega arith) (omega arith)))
            ]
          ]
        ]
      ]

  left_after : (v w : Window) → ComesBefore w v → IsLeft (from w.first (w.count + 1)) v
  left_after v w (inl before) = inl before
  left_after v w (inr same) = let p = same.0 in let q = same.1 in inr (p, omega arith)

  before_left : (v w : Window) → IsLeft (from w.first (w.count + 1)) v → ComesBefore w v
  before_left v w (inl before) = inl before
  before_left v w (inr same) = let p = same.0 in let q = same.1 in inr (p, omega arith)

  -- what is left after a window that was left was left
  left_before : (first least : ℕ) (v w : Window) → IsLeft (from first least) w → ComesBefore w v → IsLeft (from first least) v
  left_before first least v w (inl p) (inl q) = inl (omega arith)
  left_before first least v w (inl p) (inr q) = let a = q.0 in inl (omega arith)
  left_before first least v w (inr p) (inl q) = let a = p.0 in inl (omega arith)
  left_before first least v w (inr p) (inr q) = let a = p.0 in let b = p.1 in let c = q.0 in let d = q.1 in inr (omega arith, omega arith)

  each_told : (ws : List Window) (first least : ℕ) → AreTold (from first least) ws → AllByRecursion (IsSymbolOf runs year) ws
  each_told [] first least told = tt
  each_told (w ∷ ws) first least told = (told.0.symbol, each_told ws w.first (w.count + 1) told.1)

  each_left : (ws : List Window) (first least : ℕ) → AreTold (from first least) ws → AllByRecursion (IsLeft (from first least)) ws
  each_left [] first least told = tt
  each_left (w ∷ ws) first least told = (
    told.0.left,
    weaker (IsLeft (from w.first (w.count + 1))) (IsLeft (from first least)) ws
        (λ v left. left_before first least v w told.0.left (before_left v w left)) (each_left ws w.first (w.count + 1) told.1),
  )

  order_told : (ws : List Window) (first least : ℕ) → AreTold (from first least) ws → AreInOrder ws
  order_told [] first least told = tt
  order_told (w ∷ ws) first least told = (
    weaker (IsLeft (from w.first (w.count + 1))) (ComesBefore w) ws (λ v left. before_left v w left) (each_left ws w.first (w.count + 1) told.1),
    order_told ws w.first (w.count + 1) told.1,
  )

  all_told : (ws : List Window) (first least : ℕ) → AreTold (from first least) ws → (v : Window) → IsSymbolOf runs year v → IsLeft (from first least) v
      → Contains ws v
  all_told [] first least told v s left = absurd (told v s left)
  all_told (w ∷ ws) first least told v s left =
      elim (which_first v w s told.0.symbol) [
        | inl before ↦ absurd (told.0.none_before v s left before)
        | inr rest ↦ elim rest [
          | inl same ↦ (0, omega arith, sym same)
          | inr after ↦ has-later w ws v (all_told ws w.first (w.count + 1) told.1 v s (left_after v w after))
        ]
      ]

at_start : (runs : List ℕ) (year : Terms) (first : ℕ) (v : Window) → v.first ≡ first → IsLeft (record { runs = runs; year = year; first = 0; least = 0 }) v
at_start runs year zero v e = inr (sym e, omega arith)
at_start runs year (suc first) v e = inl (omega arith)

pub symbols_are_told : OneAnswer → SymbolsAreTold
symbols_are_told once = λ runs year ws row told. record {
  each = each_told once runs year row ws 0 0 told;
  every_one = λ w s. all_told once runs year row ws 0 0 told w s (at_start runs year w.first w refl);
  in_order = order_told once runs year row ws 0 0 told;
}

-- ---- a whole row

pub whole_row : WholeRow
whole_row = λ runs year carrier elements row a. record {
  begins_light = refl;
  ends_light = row.odd_number;
  within = omega arith;
  read = subst (λ ws. IsAnswer ws year (Read carrier elements)) (sym (take_all (length runs) runs (omega arith))) a;
}

-- ---- a turned row

runs_in-reverse : (runs : List ℕ) (first count : ℕ) → first + count ≤ length runs → runs_in (reverse runs) (length runs - (first + count)) count
    ≡ reverse (runs_in runs first count)
runs_in-reverse runs first count within =
    let n = length-reverse runs in
    let there = length-runs_in runs first count within in
    let here : length (runs_in (reverse runs) (length runs - (first + count)) count) ≡ count =
    length-runs_in (reverse runs) (length runs - (first + count)) count (omega arith) in
    let long = length-reverse (runs_in runs first count) in
    ext_get_or 0 (runs_in (reverse runs) (length runs - (first + count)) count) (reverse (runs_in runs first count)) (omega arith) (λ i low.
    runs_in-at (reverse runs) (length runs - (first + count)) count i (omega arith)
    ∙ get_or-reverse runs (length runs - (first + count) + i) 0 (omega arith)
    ∙ ap (λ k. get_or runs k 0) (let e : length runs - 1 - (length runs - (first + count) + i) ≡ first + (length (runs_in runs first count) - 1 - i) =
    omega arith in e)
    ∙ sym (runs_in-at runs first count (length (runs_in runs first count) - 1 - i) (omega arith))
    ∙ sym (get_or-reverse (runs_in runs first count) i 0 (omega arith)))

module _ (runs : List ℕ) (year : Terms) (row : IsRow runs) where
  turned_symbol : (w : Window) → IsSymbolOf runs year w → IsSymbolOf (reverse runs) year (turned (length runs) w)
  turned_symbol w s =
      let n = length-reverse runs in
      let odd = row.odd_number in
      let light = s.begins_light in
      let ends = s.ends_light in
      let within = s.within in
      let inside = IsRow-runs_in runs w.first w.count row s.within s.ends_light in
      let read = turned_row (runs_in runs w.first w.count) inside year (Read w.carrier w.elements) s.read in
      record {
        begins_light = omega arith;
        ends_light = s.ends_light;
        within = omega arith;
        read = subst (λ ws. IsAnswer ws year (Read w.carrier w.elements)) (sym (runs_in-reverse runs w.first w.count s.within)) read;
      }

  turned_twice : (w : Window) → w.first + w.count ≤ length runs → turned (length runs) (turned (length runs) w) ≡ w
  turned_twice w within = same_fields (turned (length runs) (turned (length runs) w)) w (omega arith) refl refl refl

  -- where the window is not inside the other one
  other_way_round : (v w : Window) → v.first + v.count ≤ length runs → w.first + w.count ≤ length runs → (IsInside v w → ⊥)
      → ComesBefore w v → ComesBefore (turned (length runs) v) (turned (length runs) w)
  other_way_round v w a b out (inl before) =
      elim (cases_lt (v.first + v.count) (w.first + w.count)) [
        | inl inside ↦ absurd (out (before, inside))
        | inr rest ↦ elim (cases_lt (w.first + w.count) (v.first + v.count)) [
          | inl after ↦ inl (omega arith)
          | inr same ↦ inr (omega arith, omega arith)
        ]
      ]
  other_way_round v w a b out (inr same) = let p = same.0 in let q = same.1 in inl (omega arith)

  turned_order : (ws : List Window) → AllByRecursion (IsSymbolOf runs year) ws → AreInOrder ws
      → ((v w : Window) → Contains ws v → Contains ws w → IsInside v w → ⊥)
      → AreInOrder (reverse (map (turned (length runs)) ws))
  turned_order [] each order out = tt
  turned_order (w ∷ ws) each order out =
      let t = turned (length runs) in
      let before = pairs ws each.1 order.0 (λ v has. out v w (has-later w ws v has) (0, omega arith, refl)) in
      subst AreInOrder (sym (reverse-cons (t w) (map t ws)))
      (order-push (reverse (map t ws)) (t w) (turned_order ws each.1 order.1 (λ v x has also. out v x (has-later w ws v has) (has-later w ws x also))) before)
    where
      pairs : (vs : List Window) → AllByRecursion (IsSymbolOf runs year) vs → AllByRecursion (ComesBefore w) vs
          → ((v : Window) → Contains vs v → IsInside v w → ⊥)
          → AllByRecursion (λ x. ComesBefore x (turned (length runs) w)) (reverse (map (turned (length runs)) vs))
      pairs [] each before out = tt
      pairs (v ∷ vs) those before out =
          let t = turned (length runs) in
          subst (AllByRecursion (λ x. ComesBefore x (t w))) (sym (reverse-cons (t v) (map t vs)))
          (each-push (λ x. ComesBefore x (t w)) (reverse (map t vs)) (t v) (pairs vs those.1 before.1 (λ x has. out x (has-later v vs x has)))
          (other_way_round v w those.0.within each.0.within (out v (0, omega arith, refl)) before.0))

pub turned_symbols : TurnedSymbols
turned_symbols = record {
  same = λ runs year w row s. turned_symbol runs year row w s;
  reversed = λ runs year ws row are out.
      let n = length-reverse runs in
      let t = turned (length runs) in
      record {
        each = each-turned (IsSymbolOf runs year) (IsSymbolOf (reverse runs) year) t ws (turned_symbol runs year row) are.each;
        every_one = λ v s.
            let within = s.within in
            let fits : v.first + v.count ≤ length runs = omega arith in
            let back = turned_symbol (reverse runs) year (IsRow-reverse runs row) v s in
            let there : IsSymbolOf runs year (t v) = subst (λ (m : ℕ). IsSymbolOf runs year (turned m v)) n
            (subst (λ ws. IsSymbolOf ws year (turned (length (reverse runs)) v)) (reverse-reverse runs) back) in
            subst (Contains (reverse (map t ws))) (turned_twice runs year row v fits) (has-turned t ws (t v) (are.every_one (t v) there));
        in_order = turned_order runs year row ws are.each are.in_order out;
      };
}
