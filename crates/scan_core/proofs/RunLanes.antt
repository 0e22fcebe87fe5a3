-- Sixteen runs at a time, each of them by its limits.
use Rattle.std.proofs.Common.{◌≡◌, ◌==◌, ◌&&◌, ◌+◌, ◌-◌, ◌*◌, ◌%◌, ◌<◌, ◌≤◌, ◌++◌, ◌∷◌, ◌∙◌, Bool, List, [], ap, ap₂, arith, cond, drop, false, inl, inr, leb, length, length-append, map, nat_le, not, refl, replicate, suc, sym, take, take-add, true, w8, w16, zero, ℕ}
use mir.Syntax.{cast, eq, mask, le, unsigned}
use borrow.Rule.Simd.Lanes.{Asks1, act2}
use borrow.Table.Row.{s_int}
use lib.Lanes.{zip2, sel_l, top, mask_l, Each1}
use Rattle.std.specs.List.{list_all}
use Rattle.std.proofs.lemmas.Bool.{and_parts, cases_eq, cases_lt, eq-eqb, le-leb, leb-true, lt-leb, ne_eqb}
use Rattle.std.proofs.lemmas.List.{append_assoc, drop_all, length-drop, length-map, length-take-le, map-append, take-append-drop, take-map, take-take, take_all, take_at}
use Rattle.std.proofs.lemmas.List.Folds.{list_all-append}
use Rattle.scan_core.specs.declared.rounding.Limits.{Limits}
use Rattle.scan_core.specs.inner.RunLanes.{AreSmall, above_one, are_near, modules_or_none, reaches}

pub map_same : (f g : ℕ → ℕ) → ((x : ℕ) → f x ≡ g x) → (xs : List ℕ) → map f xs ≡ map g xs
map_same f g e [] = refl
map_same f g e (x ∷ xs) = ap₂ (λ y ys. y ∷ ys) (e x) (map_same f g e xs)

-- the lanes that come up to a limit
pub reached_are : (n : ℕ) (ls ws : List ℕ) → length ls ≡ n → length ws ≡ n → sel_l (zip2 leb ls ws) (replicate n 1) (replicate n 0) ≡ zip2 reaches ls ws
reached_are n [] ws a b = refl
reached_are n (l ∷ ls) [] a b = refl
reached_are zero (l ∷ ls) (w ∷ ws) a b = absurd (omega (arith, a))
reached_are (suc n) (l ∷ ls) (w ∷ ws) a b = ap (λ t. reaches l w ∷ t) (reached_are n ls ws (omega (arith, a)) (omega (arith, b)))

-- three that are counted in a byte
pub counted : (p q r : Bool) → ((cond p 1 0 + cond q 1 0) % 256 + cond r 1 0) % 256 ≡ cond p 1 0 + cond q 1 0 + cond r 1 0
counted true true true = refl
counted true true false = refl
counted true false true = refl
counted true false false = refl
counted false true true = refl
counted false true false = refl
counted false false true = refl
counted false false false = refl

pub four_counted : (o p q r : Bool) → (((cond o 1 0 + cond p 1 0) % 256 + cond q 1 0) % 256 + cond r 1 0) % 256 ≡ cond o 1 0 + cond p 1 0 + cond q 1 0 + cond r 1 0
four_counted true true true true = refl
four_counted true true true false = refl
four_counted true true false true = refl
four_counted true true false false = refl
four_counted true false true true = refl
four_counted true false true false = refl
four_counted true false false true = refl
four_counted true false false false = refl
four_counted false true true true = refl
four_counted false true true false = refl
four_counted false true false true = refl
four_counted false true false false = refl
four_counted false false true true = refl
four_counted false false true false = refl
four_counted false false false true = refl
four_counted false false false false = refl

few : (p q r : Bool) → (cond p 1 0 + cond q 1 0 + cond r 1 0 + 1) % 256 ≡ cond p 1 0 + cond q 1 0 + cond r 1 0 + 1
few true true true = refl
few true true false = refl
few true false true = refl
few true false false = refl
few false true true = refl
few false true false = refl
few false false true = refl
few false false false = refl

pub few_above : (l : Limits) (w : ℕ) → (above_one l w + 1) % 256 ≡ above_one l w + 1
few_above l w = few (nat_le l.two w) (nat_le l.three w) (nat_le l.four w)

-- what the code computes of the limits that each width comes up to and is past
abbrev pub computed : List ℕ → List ℕ → List ℕ → List ℕ → List ℕ → List ℕ → List ℕ
computed least above past none found ws =
    sel_l (map (top 7) (zip2 (act2 (mask (le unsigned)) (s_int w8) (s_int w8) (s_int w8)) least ws))
    (sel_l (map (top 7) (zip2 (act2 (mask eq) (s_int w8) (s_int w8) (s_int w8)) above past)) found none) none

one_lane : (p q : Bool) (n : ℕ) → cond (top 7 (cond p 255 0)) (cond (top 7 (cond q 255 0)) n 0) 0 ≡ cond (p && q) n 0
one_lane true true n = refl
one_lane true false n = refl
one_lane false true n = refl
one_lane false false n = refl

computed_maps : (a b c d : ℕ → ℕ) (ws : List ℕ)
    → computed (map a ws) (map b ws) (map c ws) (map (λ w. 0) ws) (map d ws) ws ≡ map (λ w. cond (leb (a w) w && b w == c w) (d w) 0) ws
computed_maps a b c d [] = refl
computed_maps a b c d (w ∷ ws) = ap₂ (λ x xs. x ∷ xs) (one_lane (leb (a w) w) (b w == c w) (d w)) (computed_maps a b c d ws)

pub lanes_computed : (a b c d : ℕ → ℕ) (ws least above past none found : List ℕ)
    → least ≡ map a ws → above ≡ map b ws → past ≡ map c ws → none ≡ map (λ w. 0) ws → found ≡ map d ws
    → computed least above past none found ws ≡ map (λ w. cond (leb (a w) w && b w == c w) (d w) 0) ws
lanes_computed a b c d ws least above past none found is_a is_b is_c is_none is_d =
    (λ i. computed (is_a i) (is_b i) (is_c i) (is_none i) (is_d i) ws) ∙ computed_maps a b c d ws

-- if no bit is set of those that are 0, all are near
doubled : (n : ℕ) → (0 + 2 * n == 0) ≡ (n == 0)
doubled n =
    elim (cases_eq n 0) [
      | inl none ↦ eq-eqb (0 + 2 * n) 0 (omega (arith, none)) ∙ sym (eq-eqb n 0 none)
      | inr some ↦ ne_eqb (0 + 2 * n) 0 (λ e. some (omega (arith, e))) ∙ sym (ne_eqb n 0 some)
    ]

by_test : (p : Bool) (n : ℕ) (all : Bool) → (n == 0) ≡ all → (cond p 1 0 + 2 * n == 0) ≡ (not p && all)
by_test true n all e = ne_eqb (1 + 2 * n) 0 (λ z. omega (arith, z))
by_test false n all e = doubled n ∙ e

pub none_zero : (xs : List ℕ) → (mask_l (map (λ x. x == 0) xs) == 0) ≡ list_all (λ x. not (x == 0)) xs
none_zero [] = refl
none_zero (x ∷ xs) = by_test (x == 0) (mask_l (map (λ y. y == 0) xs)) (list_all (λ y. not (y == 0)) xs) (none_zero xs)

-- widths as bytes
abbrev pub as_byte : ℕ → ℕ
as_byte w = cond (nat_le w 255) w 255

pub same_lanes : (xs : List ℕ) → map (λ x. x) xs ≡ xs
same_lanes [] = refl
same_lanes (x ∷ xs) = ap (λ t. x ∷ t) (same_lanes xs)

pub clipped : (n : ℕ) (ws : List ℕ) → length ws ≡ n → sel_l (zip2 leb ws (replicate n 255)) ws (replicate n 255) ≡ map as_byte ws
clipped n [] e = refl
clipped zero (w ∷ ws) e = absurd (omega (arith, e))
clipped (suc n) (w ∷ ws) e = ap (λ t. as_byte w ∷ t) (clipped n ws (omega (arith, e)))

byte_of : (w : ℕ) (b : Bool) → nat_le w 255 ≡ b → cond b w 255 < 256
byte_of w true e = omega (arith, leb-true w 255 e)
byte_of w false e = omega arith

pub bytes_of : (ws : List ℕ) → Each1 (λ w. w < 256) (map as_byte ws)
bytes_of [] = tt
bytes_of (w ∷ ws) = (byte_of w (nat_le w 255) refl, bytes_of ws)

-- so that each may be cast
pub casts : (ws : List ℕ) → Each1 (λ w. w < 256) ws → Each1 (Asks1 (cast unsigned unsigned w8) (s_int w16)) ws
casts [] h = tt
casts (w ∷ ws) h = (record { fits = h.0 }, casts ws h.1)

-- the modules by the limits that a width comes up to and is past
abbrev value : Bool → Bool → Bool → Bool → Bool → Bool → Bool → Bool → ℕ
value o p q r a b c d =
    let n = cond p 1 0 + cond q 1 0 + cond r 1 0 in cond (o && n == cond a 1 0 + cond b 1 0 + cond c 1 0 + cond d 1 0) (n + 1) 0

-- no width above 255 is near to some modules, if the limits are bytes, and so it may be taken as 255
wide_none : (l : Limits) → AreSmall l → (w : ℕ) → 255 ≤ w → modules_or_none l w ≡ 0
wide_none l small w wide =
    let one : nat_le l.one w ≡ true = le-leb l.one w (omega (arith, small.0, wide)) in
    let two : nat_le l.two w ≡ true = le-leb l.two w (omega (arith, small.1, wide)) in
    let three : nat_le l.three w ≡ true = le-leb l.three w (omega (arith, small.2, wide)) in
    let four : nat_le l.four w ≡ true = le-leb l.four w (omega (arith, small.3, wide)) in
    let a : nat_le l.past_one w ≡ true = le-leb l.past_one w (omega (arith, small.4, wide)) in
    let b : nat_le l.past_two w ≡ true = le-leb l.past_two w (omega (arith, small.5, wide)) in
    let c : nat_le l.past_three w ≡ true = le-leb l.past_three w (omega (arith, small.6, wide)) in
    let d : nat_le l.past_four w ≡ true = le-leb l.past_four w (omega (arith, small.7, wide)) in
    λ i. value (one i) (two i) (three i) (four i) (a i) (b i) (c i) (d i)

same_modules : (l : Limits) → AreSmall l → (w : ℕ) → modules_or_none l (as_byte w) ≡ modules_or_none l w
same_modules l small w =
    elim (cases_lt 255 w) [
      | inl wide ↦
          ap (λ b. modules_or_none l (cond b w 255)) (lt-leb w 255 wide) ∙ wide_none l small 255 (omega arith)
          ∙ sym (wide_none l small w (omega (arith, wide)))
      | inr low ↦ ap (λ b. modules_or_none l (cond b w 255)) (le-leb w 255 low)
    ]

pub as_wide : (l : Limits) → AreSmall l → (ws : List ℕ) → map (modules_or_none l) (map as_byte ws) ≡ map (modules_or_none l) ws
as_wide l small [] = refl
as_wide l small (w ∷ ws) = ap₂ (λ x xs. x ∷ xs) (same_modules l small w) (as_wide l small ws)

-- ---- from block to block
module _ (f : ℕ → ℕ) (ws ms new : List ℕ) (at : ℕ) (within : at + 16 ≤ length ws) (places : length ms ≡ length ws)
    (put : new ≡ take at ms ++ (map f (take 16 (drop at ws)) ++ drop (at + 16) ms)) where
  abbrev pub block : List ℕ
  block = take 16 (drop at ws)

  long : length block ≡ 16
  long = length-take-le 16 (drop at ws) (omega (arith, length-drop at ws, within))

  front : length (take at ms) ≡ at
  front = length-take-le at ms (omega (arith, within, places))

  pub length_new : length new ≡ length ws
  length_new =
      ap length put ∙ length-append (take at ms) (map f block ++ drop (at + 16) ms)
      ∙ omega (arith, front, length-append (map f block) (drop (at + 16) ms), length-map block f, long, length-drop (at + 16) ms, places, within)

  pub block_put : take at ms ≡ map f (take at ws) → take (at + 16) new ≡ map f (take (at + 16) ws)
  block_put before =
      ap (take (at + 16)) (put ∙ sym (append_assoc (take at ms) (map f block) (drop (at + 16) ms)))
      ∙ take_at (take at ms ++ map f block) (drop (at + 16) ms) (at + 16) (omega (arith, length-append (take at ms) (map f block), front, length-map block f, long))
      ∙ ap (λ t. t ++ map f block) before
      ∙ sym (map-append f (take at ws) block)
      ∙ ap (map f) (sym (take-add at 16 ws))

pub near_more : (f : ℕ → ℕ) (ws : List ℕ) (at : ℕ) → are_near (map f (take (at + 16) ws)) ≡ (are_near (map f (take at ws)) && are_near (map f (take 16 (drop at ws))))
near_more f ws at =
    ap (λ xs. are_near (map f xs)) (take-add at 16 ws) ∙ ap are_near (map-append f (take at ws) (take 16 (drop at ws)))
    ∙ list_all-append (λ m. not (m == 0)) (map f (take at ws)) (map f (take 16 (drop at ws)))

near_parts : (f : ℕ → ℕ) (ws : List ℕ) (at : ℕ) → are_near (map f ws) ≡ (are_near (map f (take at ws)) && are_near (map f (drop at ws)))
near_parts f ws at =
    ap (λ xs. are_near (map f xs)) (sym (take-append-drop at ws)) ∙ ap are_near (map-append f (take at ws) (drop at ws))
    ∙ list_all-append (λ m. not (m == 0)) (map f (take at ws)) (map f (drop at ws))

-- a block in which a run is near to none
pub far_block : (f : ℕ → ℕ) (ws : List ℕ) (at : ℕ) → are_near (map f (take at ws)) ≡ true → are_near (map f (take 16 (drop at ws))) ≡ false → false ≡ are_near (map f ws)
far_block f ws at before far =
    let here : are_near (map f (take (at + 16) ws)) ≡ false = near_more f ws at ∙ (λ i. before i && far i) in
    sym (near_parts f ws (at + 16) ∙ ap (λ p. p && are_near (map f (drop (at + 16) ws))) here)

-- the last sixteen, some of which were rounded before
module _ (f : ℕ → ℕ) (ws ms new : List ℕ) (done : ℕ) (many : 16 ≤ length ws) (within : done ≤ length ws) (last : length ws - done ≤ 16) (places : length ms ≡ length ws)
    (before : take done ms ≡ map f (take done ws)) where
  abbrev pub at : ℕ
  at = length ws - 16

  early : at ≤ done
  early = omega (arith, last, many, within)

  rest : take 16 (drop at ws) ≡ drop at ws
  rest = take_all 16 (drop at ws) (omega (arith, length-drop at ws, many))

  pub last_put : new ≡ take at ms ++ (map f (take 16 (drop at ws)) ++ drop (at + 16) ms) → new ≡ map f ws
  last_put put =
      let none : drop (at + 16) ms ≡ [] = drop_all (at + 16) ms (omega (arith, places, many)) in
      let front : take at ms ≡ map f (take at ws) =
      sym (take-take at done ms early) ∙ ap (take at) before ∙ take-map f at (take done ws) ∙ ap (map f) (take-take at done ws early) in
      let back : map f (take 16 (drop at ws)) ++ drop (at + 16) ms ≡ map f (drop at ws) =
      (λ i. map f (rest i) ++ none i) ∙ append_none (map f (drop at ws)) in
      put ∙ (λ i. front i ++ back i) ∙ sym (map-append f (take at ws) (drop at ws)) ∙ ap (map f) (take-append-drop at ws)
    where
      append_none : (xs : List ℕ) → xs ++ [] ≡ xs
      append_none [] = refl
      append_none (x ∷ xs) = ap (λ t. x ∷ t) (append_none xs)

  pub last_near : are_near (map f (take done ws)) ≡ true → (near : Bool) → near ≡ are_near (map f (take 16 (drop at ws))) → near ≡ are_near (map f ws)
  last_near all near is =
      let seen : take done ws ≡ take at ws ++ drop at (take done ws) = sym (take-append-drop at (take done ws)) ∙ ap (λ t. t ++ drop at (take done ws)) (take-take at done ws early) in
      let parts : (are_near (map f (take at ws)) && are_near (map f (drop at (take done ws)))) ≡ true =
      sym (list_all-append (λ m. not (m == 0)) (map f (take at ws)) (map f (drop at (take done ws)))) ∙ ap are_near (sym (map-append f (take at ws) (drop at (take done ws))))
      ∙ ap (λ xs. are_near (map f xs)) (sym seen) ∙ all in
      let front : are_near (map f (take at ws)) ≡ true = (and_parts _ _ parts).0 in
      is ∙ ap (λ xs. are_near (map f xs)) rest ∙ sym (near_parts f ws at ∙ ap (λ p. p && are_near (map f (drop at ws))) front)
