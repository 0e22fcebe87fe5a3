-- The two halves of a mask of sixteen bits.
use Rattle.std.proofs.Common.{◌+◌, ◌/◌, ◌%◌, ◌++◌, ◌≤◌, ◌<◌, ◌≡◌, ◌∙◌, ◌∷◌, Bool, List, [], ap, arith, cond, count_ones, drop, false, length, length-append, map, refl, sym, take, true, ℕ, zero, suc}
use Rattle.std.specs.Simd.Lanes.{mask_l}
use Rattle.std.proofs.lemmas.Simd.{ones-mask_l_cons}
use lib.Count.{ones-le}
use Rattle.std.proofs.lemmas.List.{append_assoc, length-take-le}
use lib.Seq.{take-append-le}
use Rattle.std.proofs.lemmas.List.{drop-map, drop_at, length-drop, length-map, take-map, take_all, take_at}
use Rattle.csv_records.specs.inner.Kept.{entry, at_set_bits, look}
use Rattle.csv_records.proofs.lanes.KeptLanes.{gathered, length_entry_low, length_entry_high}

bit : (b : Bool) → cond b 1 0 ≤ 1
bit true = omega arith
bit false = omega arith

-- eight bits, and those behind them
pub halves : (a b c d e f g h : Bool) (rest : List Bool) → let all = a ∷ b ∷ c ∷ d ∷ e ∷ f ∷ g ∷ h ∷ rest in
    (mask_l all % 256 ≡ mask_l (a ∷ b ∷ c ∷ d ∷ e ∷ f ∷ g ∷ h ∷ [])) × (mask_l all / 256 ≡ mask_l rest)
halves a b c d e f g h rest =
    (omega (arith, bit a, bit b, bit c, bit d, bit e, bit f, bit g, bit h), omega (arith, bit a, bit b, bit c, bit d, bit e, bit f, bit g, bit h))

-- what is kept of a list is what is kept of its two parts
pub kept_parts : (n : ℕ) (bs : List Bool) (xs : List ℕ) → at_set_bits bs xs ≡ at_set_bits (take n bs) xs ++ at_set_bits (drop n bs) (drop n xs)
kept_parts zero bs xs = refl
kept_parts (suc n) [] xs = refl
kept_parts (suc n) (b ∷ bs) [] = none (drop n bs)
  where
    none : (ms : List Bool) → [] ≡ at_set_bits ms []
    none [] = refl
    none (m ∷ ms) = refl
kept_parts (suc n) (true ∷ bs) (x ∷ xs) = ap (λ t. x ∷ t) (kept_parts n bs xs)
kept_parts (suc n) (false ∷ bs) (x ∷ xs) = kept_parts n bs xs

-- as many are kept as bits are set
pub length-kept : (bs : List Bool) (xs : List ℕ) → length bs ≤ length xs → count_ones (mask_l bs) ≡ length (at_set_bits bs xs)
length-kept [] xs low = omega (arith, ones-le 0 0 (omega arith))
length-kept (b ∷ bs) [] low = absurd (omega (arith, low))
length-kept (true ∷ bs) (x ∷ xs) low =
    let one : count_ones (mask_l (true ∷ bs)) ≡ 1 + count_ones (mask_l bs) = ones-mask_l_cons true bs in
    let more : count_ones (mask_l bs) ≡ length (at_set_bits bs xs) = length-kept bs xs (omega (arith, low)) in
    omega (arith, one, more)
length-kept (false ∷ bs) (x ∷ xs) low =
    let none : count_ones (mask_l (false ∷ bs)) ≡ 0 + count_ones (mask_l bs) = ones-mask_l_cons false bs in
    let more : count_ones (mask_l bs) ≡ length (at_set_bits bs xs) = length-kept bs xs (omega (arith, low)) in
    omega (arith, none, more)

pub few_kept : (bs : List Bool) (xs : List ℕ) → length (at_set_bits bs xs) ≤ length bs
few_kept [] xs = omega arith
few_kept (b ∷ bs) [] = omega arith
few_kept (true ∷ bs) (x ∷ xs) = omega (arith, few_kept bs xs)
few_kept (false ∷ bs) (x ∷ xs) = omega (arith, few_kept bs xs)

-- the first eight of sixteen bits, and the others
pub halves16 : (bits : List Bool) → length bits ≡ 16
    → (mask_l bits % 256 ≡ mask_l (take 8 bits)) × (mask_l bits / 256 ≡ mask_l (drop 8 bits)) × (length (take 8 bits) ≡ 8) × (length (drop 8 bits) ≡ 8)
halves16 (a ∷ b ∷ c ∷ d ∷ e ∷ f ∷ g ∷ h ∷ rest) l =
    let both = halves a b c d e f g h rest in
    (both.0, both.1, refl, omega (arith, l))
halves16 [] l = absurd (omega (arith, l))
halves16 (a ∷ []) l = absurd (omega (arith, l))
halves16 (a ∷ b ∷ []) l = absurd (omega (arith, l))
halves16 (a ∷ b ∷ c ∷ []) l = absurd (omega (arith, l))
halves16 (a ∷ b ∷ c ∷ d ∷ []) l = absurd (omega (arith, l))
halves16 (a ∷ b ∷ c ∷ d ∷ e ∷ []) l = absurd (omega (arith, l))
halves16 (a ∷ b ∷ c ∷ d ∷ e ∷ f ∷ []) l = absurd (omega (arith, l))
halves16 (a ∷ b ∷ c ∷ d ∷ e ∷ f ∷ g ∷ []) l = absurd (omega (arith, l))

take_past : (p q : List ℕ) (m n : ℕ) → n ≡ length p + m → take n (p ++ q) ≡ p ++ take m q
take_past [] q m n e = let same : n ≡ m = omega (arith, e) in ap (λ k. take k q) same
take_past (x ∷ p) q m zero e = absurd (omega (arith, e))
take_past (x ∷ p) q m (suc n) e = ap (λ t. x ∷ t) (take_past p q m n (omega (arith, e)))

-- two stores of eight, the second over what the first put too much
pub stored : (at f g : ℕ) (xs new1 new2 lo hi kl kh : List ℕ) → at + 16 ≤ length xs → f ≤ length lo → g ≤ length hi → take f lo ≡ kl → take g hi ≡ kh
    → new1 ≡ take at xs ++ (lo ++ drop (at + 8) xs) → new2 ≡ take (at + f) new1 ++ (hi ++ drop (at + f + 8) new1)
    → take (at + (f + g)) new2 ≡ take at xs ++ (kl ++ kh)
stored at f g xs new1 new2 lo hi kl kh room fl gh first second is1 is2 =
    let head : length (take at xs) ≡ at = length-take-le at xs (omega (arith, room)) in
    let front : take (at + f) new1 ≡ take at xs ++ kl =
    ap (take (at + f)) is1 ∙ take_past (take at xs) (lo ++ drop (at + 8) xs) f (at + f) (omega (arith, head))
    ∙ ap (λ t. take at xs ++ t) (take-append-le f lo (drop (at + 8) xs) fl ∙ first) in
    let kept_long : length kl ≡ f = ap length (sym first) ∙ length-take-le f lo fl in
    let front_long : length (take at xs ++ kl) ≡ at + f = length-append (take at xs) kl ∙ omega (arith, head, kept_long) in
    ap (take (at + (f + g))) (is2 ∙ ap (λ t. t ++ (hi ++ drop (at + f + 8) new1)) front)
    ∙ take_past (take at xs ++ kl) (hi ++ drop (at + f + 8) new1) g (at + (f + g)) (omega (arith, front_long))
    ∙ ap (λ t. (take at xs ++ kl) ++ t) (take-append-le g hi (drop (at + f + 8) new1) gh ∙ second)
    ∙ append_assoc (take at xs) kl kh

-- the lower and the upper eight of the lanes that are gathered
module _ (v G : List ℕ) (bits : List Bool) (mask : ℕ) (lanes : length v ≡ 16) (long : length bits ≡ 16) (is : mask ≡ mask_l bits) (low : mask < 65536)
    (found : G ≡ map (look v) (entry 0 (mask % 256) ++ entry 8 (mask / 256))) where
  h : (mask_l bits % 256 ≡ mask_l (take 8 bits)) × (mask_l bits / 256 ≡ mask_l (drop 8 bits)) × (length (take 8 bits) ≡ 8) × (length (drop 8 bits) ≡ 8)
  h = halves16 bits long

  lower_mask : mask % 256 ≡ mask_l (take 8 bits)
  lower_mask = ap (λ m. m % 256) is ∙ h.0

  upper_mask : mask / 256 ≡ mask_l (drop 8 bits)
  upper_mask = ap (λ m. m / 256) is ∙ h.1

  pub lower_count : count_ones (mask % 256) ≡ length (at_set_bits (take 8 bits) v)
  lower_count = ap count_ones lower_mask ∙ length-kept (take 8 bits) v (omega (arith, h.2, lanes))

  pub upper_count : count_ones (mask / 256) ≡ length (at_set_bits (drop 8 bits) (drop 8 v))
  upper_count = ap count_ones upper_mask ∙ length-kept (drop 8 bits) (drop 8 v) (omega (arith, h.3, lanes, length-drop 8 v))

  pub lower : take (count_ones (mask % 256)) (take 8 G) ≡ at_set_bits (take 8 bits) v
  lower =
      let e = length_entry_low (mask % 256) (omega arith) in
      ap (λ n. take n (take 8 G)) lower_count
      ∙ ap (take (length (at_set_bits (take 8 bits) v))) (ap (take 8) found ∙ take-map (look v) 8 (entry 0 (mask % 256) ++ entry 8 (mask / 256))
      ∙ ap (map (look v)) (take_at (entry 0 (mask % 256)) (entry 8 (mask / 256)) 8 e) ∙ ap (λ m. map (look v) (entry 0 m)) lower_mask)
      ∙ gathered v (take 8 bits) 0 h.2 (omega (arith, lanes)) (omega (arith, lanes))

  pub upper : take (count_ones (mask / 256)) (take 8 (drop 8 G)) ≡ at_set_bits (drop 8 bits) (drop 8 v)
  upper =
      let e = length_entry_low (mask % 256) (omega arith) in
      let u = length_entry_high (mask / 256) (omega (arith, low)) in
      ap (λ n. take n (take 8 (drop 8 G))) upper_count
      ∙ ap (λ t. take (length (at_set_bits (drop 8 bits) (drop 8 v))) (take 8 t)) (ap (drop 8) found ∙ drop-map (look v) 8 (entry 0 (mask % 256) ++ entry 8 (mask / 256))
      ∙ ap (map (look v)) (drop_at (entry 0 (mask % 256)) (entry 8 (mask / 256)) 8 e))
      ∙ ap (take (length (at_set_bits (drop 8 bits) (drop 8 v)))) (take_all 8 (map (look v) (entry 8 (mask / 256))) (omega (arith, length-map (entry 8 (mask / 256)) (look v), u))
      ∙ ap (λ m. map (look v) (entry 8 m)) upper_mask)
      ∙ gathered v (drop 8 bits) 8 h.3 (omega (arith, lanes)) (omega (arith, lanes))
