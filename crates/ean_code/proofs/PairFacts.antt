-- The digits of Interleaved 2 of 5 by their widths, and pairs of them.
use Rattle.std.proofs.Common.{◌≡◌, ◌≢◌, ℕ, ◌<◌, ◌==◌, List, [], ◌∷◌, length, refl, sym, ap, ◌∙◌, arith, eqb-true, get_or}
use Rattle.ean_code.specs.declared.two_of_five.TheConstants.{BY_WIDTHS}
use Rattle.ean_code.specs.TwoOfFive.{five_widths, in_turn, pair_widths}
use Rattle.ean_code.specs.inner.TwoOfFive.{packed_five}
use Rattle.ean_code.proofs.Cells.{all_below-at}
use Rattle.ean_code.proofs.Tables.{IsTable, entry_found, number_at}

abbrev pub digit_key : ℕ → ℕ
digit_key d = packed_five (five_widths d)

pub digits_table : IsTable 10 32 digit_key BY_WIDTHS
digits_table = record { long = refl; entries = refl; low = refl; numbers = refl }

pub digit_low : (i d : ℕ) → i < 32 → get_or BY_WIDTHS i d ≢ 255 → get_or BY_WIDTHS i d < 10
digit_low i d lt ne = (entry_found 10 32 digit_key BY_WIDTHS digits_table i d lt ne).0

-- the entry of a digit's widths is that digit
pub digit_at_widths : (five : List ℕ) (i e : ℕ) → i ≡ packed_five five → (d : ℕ) → d < 10 → five_widths d ≡ five → get_or BY_WIDTHS i e ≡ d
digit_at_widths five i e p d low f = ap (λ n. get_or BY_WIDTHS n e) (p ∙ ap packed_five (sym f)) ∙ number_at 10 32 digit_key BY_WIDTHS digits_table d e low

-- a digit has five widths
pub length-five : (d : ℕ) → d < 10 → length (five_widths d) ≡ 5
length-five d h = eqb-true _ _ (all_below-at (λ d. length (five_widths d) == 5) 10 refl d h)

-- the bars of ten widths, and the spaces
abbrev pub bars : List ℕ → List ℕ
bars ws = get_or ws 0 0 ∷ get_or ws 2 0 ∷ get_or ws 4 0 ∷ get_or ws 6 0 ∷ get_or ws 8 0 ∷ []

abbrev pub spaces : List ℕ → List ℕ
spaces ws = get_or ws 1 0 ∷ get_or ws 3 0 ∷ get_or ws 5 0 ∷ get_or ws 7 0 ∷ get_or ws 9 0 ∷ []

-- two lists of five in turn are ten whose bars and spaces they are
bars_of : (xs ys : List ℕ) → length xs ≡ 5 → length ys ≡ 5 → (bars (in_turn xs ys) ≡ xs) × (spaces (in_turn xs ys) ≡ ys)
bars_of (a ∷ b ∷ c ∷ d ∷ e ∷ []) (p ∷ q ∷ r ∷ s ∷ t ∷ []) h k = (refl, refl)
bars_of xs ys h k = absurd (omega arith)

pub split_pair : (p : ℕ × ℕ) → p.0 < 10 → p.1 < 10 → (bars (pair_widths p) ≡ five_widths p.0) × (spaces (pair_widths p) ≡ five_widths p.1)
split_pair p h k = bars_of (five_widths p.0) (five_widths p.1) (length-five p.0 h) (length-five p.1 k)

pub joined_pair : (ws : List ℕ) → length ws ≡ 10 → in_turn (bars ws) (spaces ws) ≡ ws
joined_pair (a ∷ b ∷ c ∷ d ∷ e ∷ f ∷ g ∷ h ∷ i ∷ j ∷ []) l = refl
joined_pair ws l = absurd (omega arith)
