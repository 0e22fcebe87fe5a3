-- ITF-14 symbols: their digits two by two, and their widths.
use Rattle.std.proofs.Common.{◌≡◌, ◌⊎◌, inl, inr, ℕ, zero, suc, ◌+◌, ◌*◌, ◌%◌, ◌<◌, Bool, true, ◌||◌, ◌==◌, List, [], ◌∷◌, ◌++◌, length, refl, sym, ap, ap₂, ◌∙◌, arith, eqb-true, get_or}
use Rattle.std.proofs.lemmas.Bool.{and_parts, cases_eq, ne_eqb}
use Rattle.std.specs.List.{flat_map, AllByRecursion, list_all}
use Rattle.digits_core.specs.Digits.{AreDigits}
use Rattle.ean_code.specs.TwoOfFive.{AreTwoWidths, five_widths, in_pairs, in_turn, itf_start, itf_stop, pair_widths}
use Rattle.ean_code.specs.inner.TwoOfFive.{itf_widths}
use Rattle.ean_code.specs.Widths.{AreWidths}
use Rattle.ean_code.specs.declared.two_of_five.TheConstants.{BY_WIDTHS}
use Rattle.ean_code.specs.inner.TwoOfFive.{packed_five}
use Rattle.ean_code.proofs.Cells.{all_below-at, AllByRecursion-append, IsCode}
use Rattle.ean_code.proofs.PairFacts.{bars, digit_at_widths, length-five, spaces, split_pair}

-- two digits
abbrev pub IsPair : ℕ × ℕ → Type 0
IsPair p = (p.0 < 10) × (p.1 < 10)

-- ---- digits two by two

pub length-pairs : (ds : List ℕ) → length ds % 2 ≡ 0 → 2 * length (in_pairs ds) ≡ length ds
length-pairs [] e = refl
length-pairs (a ∷ []) e = absurd (omega arith)
length-pairs (a ∷ b ∷ ds) e = let rest = length-pairs ds (omega arith) in omega arith

pub pairs_valid : (ds : List ℕ) → AreDigits ds → AllByRecursion IsPair (in_pairs ds)
pairs_valid [] v = tt
pairs_valid (a ∷ []) v = tt
pairs_valid (a ∷ b ∷ ds) v = ((v.0, v.1.0), pairs_valid ds v.1.1)

pub pair_at : (ds : List ℕ) (i : ℕ) → 2 * i + 1 < length ds → get_or (in_pairs ds) i (0, 0) ≡ (get_or ds (2 * i) 0, get_or ds (2 * i + 1) 0)
pair_at [] i h = absurd (omega arith)
pair_at (a ∷ []) i h = absurd (omega arith)
pair_at (a ∷ b ∷ ds) zero h = refl
pair_at (a ∷ b ∷ ds) (suc i) h =
    let even : 2 * suc i ≡ suc (suc (2 * i)) = omega arith in
    let odd : 2 * suc i + 1 ≡ suc (suc (2 * i + 1)) = omega arith in
    pair_at ds i (omega arith) ∙ ap₂ (λ m n. (get_or (a ∷ b ∷ ds) m 0, get_or (a ∷ b ∷ ds) n 0)) (sym even) (sym odd)

pub pairs-append : (ds : List ℕ) (a b : ℕ) → length ds % 2 ≡ 0 → in_pairs (ds ++ a ∷ b ∷ []) ≡ in_pairs ds ++ (a, b) ∷ []
pairs-append [] a b e = refl
pairs-append (x ∷ []) a b e = absurd (omega arith)
pairs-append (x ∷ y ∷ ds) a b e = ap (λ ps. (x, y) ∷ ps) (pairs-append ds a b (omega arith))

abbrev pub unpaired : List (ℕ × ℕ) → List ℕ
unpaired [] = []
unpaired (p ∷ ps) = p.0 ∷ p.1 ∷ unpaired ps

pub unpaired-pairs : (ds : List ℕ) → length ds % 2 ≡ 0 → unpaired (in_pairs ds) ≡ ds
unpaired-pairs [] e = refl
unpaired-pairs (a ∷ []) e = absurd (omega arith)
unpaired-pairs (a ∷ b ∷ ds) e = ap (λ xs. a ∷ b ∷ xs) (unpaired-pairs ds (omega arith))

-- ---- pairs as ten widths

length-turn : (xs ys : List ℕ) → length xs ≡ 5 → length ys ≡ 5 → length (in_turn xs ys) ≡ 10
length-turn (a ∷ b ∷ c ∷ d ∷ e ∷ []) (p ∷ q ∷ r ∷ s ∷ t ∷ []) h k = refl
length-turn xs ys h k = absurd (omega arith)

pub length-pair : (p : ℕ × ℕ) → IsPair p → length (pair_widths p) ≡ 10
length-pair p h = length-turn (five_widths p.0) (five_widths p.1) (length-five p.0 h.0) (length-five p.1 h.1)

abbrev pub digit_of_five : List ℕ → ℕ
digit_of_five five = get_or BY_WIDTHS (packed_five five) 0

abbrev pub pair_of_ten : List ℕ → ℕ × ℕ
pair_of_ten ws = (digit_of_five (bars ws), digit_of_five (spaces ws))

five_back : (d : ℕ) (five : List ℕ) → d < 10 → five ≡ five_widths d → digit_of_five five ≡ d
five_back d five h e = digit_at_widths five (packed_five five) 0 refl d h (sym e)

pub pair_code : IsCode IsPair 10 pair_widths pair_of_ten
pair_code = record {
  width = length-pair;
  back = λ p h. ap₂ (λ a b. (a, b)) (five_back p.0 _ h.0 (split_pair p h.0 h.1).0) (five_back p.1 _ h.1 (split_pair p h.0 h.1).1);
}

-- ---- the widths of a symbol

abbrev two_test : List ℕ → Bool
two_test ws = list_all (λ w. (w == 1) || (w == 3)) ws

two_from : (ws : List ℕ) → two_test ws ≡ true → AreTwoWidths ws
two_from [] h = tt
two_from (w ∷ ws) h =
    let parts = and_parts ((w == 1) || (w == 3)) (two_test ws) h in (either w parts.0, two_from ws parts.1)
  where
    either : (w : ℕ) → ((w == 1) || (w == 3)) ≡ true → (w ≡ 1) ⊎ (w ≡ 3)
    either w t =
        elim (cases_eq w 1) [
          | inl one ↦ inl one
          | inr other ↦ inr (eqb-true w 3 (ap (λ b. b || (w == 3)) (sym (ne_eqb w 1 other)) ∙ t))
        ]

two_five : (d : ℕ) → d < 10 → AreTwoWidths (five_widths d)
two_five d h = two_from (five_widths d) (all_below-at (λ d. two_test (five_widths d)) 10 refl d h)

two_turn : (xs ys : List ℕ) → AreTwoWidths xs → AreTwoWidths ys → AreTwoWidths (in_turn xs ys)
two_turn [] ys h k = tt
two_turn (x ∷ xs) [] h k = tt
two_turn (x ∷ xs) (y ∷ ys) h k = (h.0, (k.0, two_turn xs ys h.1 k.1))

two_pairs : (ps : List (ℕ × ℕ)) → AllByRecursion IsPair ps → AreTwoWidths (flat_map pair_widths ps)
two_pairs [] v = tt
two_pairs (p ∷ ps) v =
    AllByRecursion-append _ (pair_widths p) (flat_map pair_widths ps) (two_turn (five_widths p.0) (five_widths p.1) (two_five p.0 v.0.0) (two_five p.1 v.0.1))
    (two_pairs ps v.1)

-- each width is narrow or wide
pub two_itf : (ds : List ℕ) → AreDigits ds → AreTwoWidths (itf_widths ds)
two_itf ds v =
    AllByRecursion-append _ itf_start _ (inl refl, (inl refl, (inl refl, (inl refl, tt))))
    (AllByRecursion-append _ (flat_map pair_widths (in_pairs ds)) itf_stop (two_pairs (in_pairs ds) (pairs_valid ds v)) (inr refl, (inl refl, (inl refl, tt))))

pub two_valid : (ws : List ℕ) → AreTwoWidths ws → AreWidths ws
two_valid [] h = tt
two_valid (w ∷ ws) h = (elim h.0 [ inl one ↦ (omega arith, omega arith) | inr three ↦ (omega arith, omega arith) ], two_valid ws h.1)
