-- Dots that are made dark.
use Rattle.std.proofs.Common.{◌≡◌, ℕ, ◌+◌, ◌-◌, ◌*◌, ◌/◌, ◌%◌, ◌^◌, ◌<◌, ◌≤◌, ◌==◌, ◌&&◌, ◌||◌, nat_le, nat_lt, Bool, true, false, List, [], ◌∷◌, ◌++◌, length, map, set, take, sum, replicate, refl, sym, ap, ap₂, ◌∙◌, inl, inr, get_or, arith, eq-eqb}
use Rattle.std.specs.Prelude.{bit_or}
use Rattle.std.specs.Int.{bit_at}
use Rattle.std.proofs.lemmas.Bool.{cases_eq, cases_lt, ne_eqb, le-leb, lt-leb, lt-ltb, le-ltb}
use Rattle.std.proofs.lemmas.Bool.Decides.{nat_tests}
use Rattle.std.proofs.lemmas.Nat.{one_shl}
use Rattle.std.proofs.lemmas.Nat.Bits.{bit_at_or, bit_at-pow_same, bit_at-pow_other}
use Rattle.std.proofs.lemmas.List.{get_or-set_same, get_or-set_other, get_or_append_left, get_or-append_right, get_or-replicate, get_or_past, length-replicate, length-map, map-append}
use Rattle.std.proofs.lemmas.List.Sums.{sum_by_more, sum_by_more_le}
use Rattle.scan_core.specs.Bits.{dot_at}
use Rattle.scan_core.specs.Row.{dots_from}
use Rattle.sheet_core.proofs.CellFacts.{colour, dots_from-push, light_end, length-dots_from, sum-wider}

bit_of_or : (a i j : ℕ) → ((bit_at (bit_or a (2 ^ j)) i == 1) ≡ ((i == j) || (bit_at a i == 1)))
bit_of_or a i j =
    let both = bit_at_or a (2 ^ j) i in
    elim (cases_eq i j) [
      | inl same ↦
          let one : bit_at (2 ^ j) i ≡ 1 = ap (bit_at (2 ^ j)) same ∙ bit_at-pow_same j in
          let all : bit_at (bit_or a (2 ^ j)) i ≡ 1 = both ∙ (omega arith) in
          eq-eqb _ _ all ∙ sym (ap (λ b. b || (bit_at a i == 1)) (eq-eqb i j same))
      | inr other ↦
          let none : bit_at (2 ^ j) i ≡ 0 = bit_at-pow_other j i other in
          let all : bit_at (bit_or a (2 ^ j)) i ≡ bit_at a i = both ∙ (omega arith) in
          ap (λ n. n == 1) all ∙ sym (ap (λ b. b || (bit_at a i == 1)) (ne_eqb i j other))
    ]

pub dot_set : (line : List ℕ) (x : ℕ) → x < 8 * length line → (k : ℕ) → dot_at (set line (x / 8) (bit_or (get_or line (x / 8) 0) (1 * 2 ^ (7 - x % 8) % 256))) k
    ≡ ((k == x) || dot_at line k)
dot_set line x h k =
    let value : ℕ = bit_or (get_or line (x / 8) 0) (1 * 2 ^ (7 - x % 8) % 256) in
    let power : 1 * 2 ^ (7 - x % 8) % 256 ≡ 2 ^ (7 - x % 8) = one_shl (7 - x % 8) 8 (omega arith) in
    elim (cases_eq (k / 8) (x / 8)) [
      | inl same ↦
          let here : get_or (set line (x / 8) value) (k / 8) 0 ≡ bit_or (get_or line (k / 8) 0) (2 ^ (7 - x % 8)) =
          ap (λ i. get_or (set line (x / 8) value) i 0) same ∙ get_or-set_same line (x / 8) value 0 (omega arith)
          ∙ ap₂ (λ a b. bit_or a b) (ap (λ i. get_or line i 0) (sym same)) power in
          let test : (7 - k % 8 == 7 - x % 8) ≡ (k == x) = grind (arith, nat_tests) in
          ap (λ n. bit_at n (7 - k % 8) == 1) here ∙ bit_of_or (get_or line (k / 8) 0) (7 - k % 8) (7 - x % 8) ∙ ap (λ b. b || dot_at line k) test
      | inr other ↦
          let here : get_or (set line (x / 8) value) (k / 8) 0 ≡ get_or line (k / 8) 0 = get_or-set_other line (x / 8) (k / 8) value 0 other in
          let apart : k ≡ x → ⊥ = λ e. other (ap (λ n. n / 8) e) in
          ap (λ n. bit_at n (7 - k % 8) == 1) here ∙ sym (ap (λ b. b || dot_at line k) (ne_eqb k x apart))
    ]

-- dark dots at the end
dark_end : (xs : List Bool) (n j : ℕ) → get_or (xs ++ replicate n true) j false ≡ ((nat_le (length xs) j && nat_lt j (length xs + n)) || get_or xs j false)
dark_end xs n j =
    elim (cases_lt j (length xs)) [
      | inl low ↦ get_or_append_left xs (replicate n true) false j low
          ∙ sym (ap (λ b. (b && nat_lt j (length xs + n)) || get_or xs j false) (lt-leb (length xs) j low))
      | inr high ↦
          let past = get_or_past xs j false high in
          get_or-append_right xs (replicate n true) (length xs) j false refl high
          ∙ elim (cases_lt (j - length xs) n) [
            | inl some ↦
                get_or-replicate n (j - length xs) true false some
                ∙ sym (ap₂ (λ a b. (a && b) || get_or xs j false) (le-leb (length xs) j high) (lt-ltb j (length xs + n) (omega arith)))
            | inr none ↦
                get_or_past (replicate n true) (j - length xs) false (let l = length-replicate n true in omega arith)
                ∙ sym (ap₂ (λ a b. (a && b) || get_or xs j false) (le-leb (length xs) j high) (le-ltb j (length xs + n) (omega arith)) ∙ past)
          ]
    ]

-- the line has the dots of these widths besides those that it had
pub record Has (line old : List ℕ) (from dots : ℕ) (ms : List ℕ) : Type 0 where
  pub at : (k : ℕ) → dot_at line k ≡ ((nat_le from k && get_or (dots_from true (map (λ m. dots * m) ms)) (k - from) false) || dot_at old k)

pub has_none : (line : List ℕ) (from dots : ℕ) → Has line line from dots []
has_none line from dots = record { at = λ k. bool_none (nat_le from k) (dot_at line k) }
  where
    bool_none : (a b : Bool) → b ≡ ((a && false) || b)
    bool_none true b = refl
    bool_none false b = refl

pushed : (dots : ℕ) (ms : List ℕ) (m : ℕ) → dots_from true (map (λ m. dots * m) (ms ++ m ∷ [])) ≡ dots_from true (map (λ m. dots * m) ms)
    ++ replicate (dots * m) (colour true (length ms))
pushed dots ms m =
    ap (dots_from true) (map-append (λ m. dots * m) ms (m ∷ []))
    ∙ dots_from-push true (map (λ m. dots * m) ms) (dots * m)
    ∙ ap (λ n. dots_from true (map (λ m. dots * m) ms) ++ replicate (dots * m) (colour true n)) (length-map ms (λ m. dots * m))

pub has_light : (line old : List ℕ) (from dots : ℕ) (ms : List ℕ) (m : ℕ) → Has line old from dots ms → colour true (length ms) ≡ false
    → Has line old from dots (ms ++ m ∷ [])
has_light line old from dots ms m h light = record {
  at = λ k.
      let all : dots_from true (map (λ m. dots * m) (ms ++ m ∷ [])) ≡ dots_from true (map (λ m. dots * m) ms) ++ replicate (dots * m) false =
      pushed dots ms m ∙ ap (λ d. dots_from true (map (λ m. dots * m) ms) ++ replicate (dots * m) d) light in
      h.at k ∙ ap (λ b. (nat_le from k && b) || dot_at old k)
      (sym (ap (λ ds. get_or ds (k - from) false) all ∙ light_end (dots_from true (map (λ m. dots * m) ms)) (dots * m) (k - from)));
}

tests : (from at L n k : ℕ) (g b : Bool) → at ≡ from + L → ((nat_le at k && nat_lt k (at + n)) || ((nat_le from k && g) || b))
    ≡ ((nat_le from k && ((nat_le L (k - from) && nat_lt (k - from) (L + n)) || g)) || b)
tests from at L n k g b e = grind (arith, nat_tests)

pub has_dark : (line new old : List ℕ) (from dots at : ℕ) (ms : List ℕ) (m : ℕ) → Has line old from dots ms → colour true (length ms) ≡ true
    → at ≡ from + dots * sum ms → ((k : ℕ) → dot_at new k ≡ ((nat_le at k && nat_lt k (at + m * dots)) || dot_at line k)) → Has new old from dots (ms ++ m ∷ [])
has_dark line new old from dots at ms m h dark place more = record {
  at = λ k.
      let before : List Bool = dots_from true (map (λ m. dots * m) ms) in
      let long : length before ≡ dots * sum ms = length-dots_from true (map (λ m. dots * m) ms) ∙ sum-wider dots ms in
      let wide : m * dots ≡ dots * m = grind arith in
      let all : dots_from true (map (λ m. dots * m) (ms ++ m ∷ [])) ≡ before ++ replicate (dots * m) true =
      pushed dots ms m ∙ ap (λ d. before ++ replicate (dots * m) d) dark in
      let end = ap (λ ds. get_or ds (k - from) false) all ∙ dark_end before (dots * m) (k - from) in
      more k
      ∙ ap (λ b. (nat_le at k && nat_lt k (at + m * dots)) || b) (h.at k)
      ∙ ap (λ n. (nat_le at k && nat_lt k (at + n)) || ((nat_le from k && get_or before (k - from) false) || dot_at old k)) wide
      ∙ tests from at (length before) (dots * m) k (get_or before (k - from) false) (dot_at old k) (place ∙ ap (λ n. from + n) (sym long))
      ∙ ap (λ b. (nat_le from k && b) || dot_at old k) (sym end);
}

-- where the widths before one end, and where it ends
pub place_more : (from at dots : ℕ) (ms : List ℕ) (i m : ℕ) → i < length ms → m ≡ get_or ms i 0 → at ≡ from + dots * sum (take i ms)
    → (at + m * dots ≡ from + dots * sum (take (i + 1) ms)) × (at + m * dots ≤ from + dots * sum ms)
place_more from at dots ms i m low is place =
    let next = sum_by_more (λ x. x) ms i 0 low in
    let most = sum_by_more_le (λ x. x) ms i 0 low in
    let whole : dots * sum (take (i + 1) ms) ≡ dots * sum (take i ms) + m * dots =
    ap (λ n. dots * n) (next ∙ ap (λ n. sum (take i ms) + n) (sym is))
    ∙ (let e : dots * (sum (take i ms) + m) ≡ dots * sum (take i ms) + m * dots = grind arith in e) in
    let below : sum (take (i + 1) ms) ≤ sum ms = omega arith in
    let fits : dots * sum (take (i + 1) ms) ≤ dots * sum ms = mul_le dots (sum (take (i + 1) ms)) (sum ms) below in
    (omega arith, omega arith)
  where
    mul_le : (a b c : ℕ) → b ≤ c → a * b ≤ a * c
    mul_le a b c h = grind arith
