-- What the tables hold, by tests that compute.
use Rattle.std.proofs.Common.{◌≡◌, ◌≢◌, ℕ, ◌+◌, ◌-◌, ◌*◌, ◌<◌, ◌≤◌, true, ◌==◌, List, [], ◌∷◌, length, refl, sym, ap, ap₂, ◌∙◌, arith, eqb-true, get_or}
use Rattle.ean_code.specs.Widths.{AreWidths, packed_widths}
use Rattle.ean_code.proofs.Cells.{all_below, all_below-at, IsCode}
use Rattle.ean_code.proofs.Tables.{IsTable, entry_found, key_low, number_at}
use Rattle.ean_code.proofs.Widths.{are_widths, AreWidths-from}
use Rattle.code128_code.specs.declared.lookup.TheConstants.{VALUES}
use Rattle.code128_code.specs.Characters.{pattern, patterns}

values_table : IsTable 106 4096 (λ v. packed_widths (pattern v)) VALUES
unfolding patterns
values_table = record { long = refl; entries = refl; low = refl; numbers = refl }

pub value_found : (i d : ℕ) → i < 4096 → get_or VALUES i d ≢ 255 → (get_or VALUES i d < 106) × (packed_widths (pattern (get_or VALUES i d)) ≡ i)
value_found i d lt ne = entry_found 106 4096 (λ v. packed_widths (pattern v)) VALUES values_table i d lt ne

pub packed_low : (v : ℕ) → v < 106 → packed_widths (pattern v) < 4096
packed_low v h = key_low 106 4096 (λ v. packed_widths (pattern v)) VALUES values_table v h

pub value_at : (v d : ℕ) → v < 106 → get_or VALUES (packed_widths (pattern v)) d ≡ v
value_at v d h = number_at 106 4096 (λ v. packed_widths (pattern v)) VALUES values_table v d h

-- the value that widths show
unfoldable pub shown : List ℕ → ℕ
shown ws = get_or VALUES (packed_widths ws) 255

-- each character is six widths, and is read as itself
six_tested : all_below (λ v. length (pattern v) == 6) 106 ≡ true
unfolding patterns
six_tested = refl

pub length-pattern : (v : ℕ) → v < 106 → length (pattern v) ≡ 6
length-pattern v h = eqb-true _ _ (all_below-at (λ v. length (pattern v) == 6) 106 six_tested v h)

pub code : IsCode (λ v. v < 106) 6 pattern shown
unfolding shown
code = record { width = length-pattern; back = λ v h. value_at v 255 h }

widths_tested : all_below (λ v. are_widths (pattern v)) 106 ≡ true
unfolding patterns
widths_tested = refl

pub pattern_valid : (v : ℕ) → v < 106 → AreWidths (pattern v)
pattern_valid v h = AreWidths-from (pattern v) (all_below-at (λ v. are_widths (pattern v)) 106 widths_tested v h)

-- numbers by their last digit in base four
last_digit : (m n x y : ℕ) → 1 ≤ x → x ≤ 4 → 1 ≤ y → y ≤ 4 → 4 * m + (x - 1) ≡ 4 * n + (y - 1) → (m ≡ n) × (x ≡ y)
last_digit m n x y a b c d e = (omega arith, omega arith)

-- six widths are packed in one way
pub unpacked : (ws us : List ℕ) → length ws ≡ 6 → length us ≡ 6 → AreWidths ws → AreWidths us → packed_widths ws ≡ packed_widths us → ws ≡ us
unpacked (a ∷ b ∷ c ∷ d ∷ e ∷ f ∷ []) (g ∷ h ∷ i ∷ j ∷ k ∷ l ∷ []) m n v u eq =
    let p = last_digit _ _ f l v.1.1.1.1.1.0.0 v.1.1.1.1.1.0.1 u.1.1.1.1.1.0.0 u.1.1.1.1.1.0.1 eq in
    let q = last_digit _ _ e k v.1.1.1.1.0.0 v.1.1.1.1.0.1 u.1.1.1.1.0.0 u.1.1.1.1.0.1 p.0 in
    let r = last_digit _ _ d j v.1.1.1.0.0 v.1.1.1.0.1 u.1.1.1.0.0 u.1.1.1.0.1 q.0 in
    let s = last_digit _ _ c i v.1.1.0.0 v.1.1.0.1 u.1.1.0.0 u.1.1.0.1 r.0 in
    let t = last_digit _ _ b h v.1.0.0 v.1.0.1 u.1.0.0 u.1.0.1 s.0 in
    let w = last_digit 0 0 a g v.0.0 v.0.1 u.0.0 u.0.1 t.0 in
    ap₂ (λ x xs. x ∷ xs) w.1 (ap₂ (λ x xs. x ∷ xs) t.1 (ap₂ (λ x xs. x ∷ xs) s.1 (ap₂ (λ x xs. x ∷ xs) r.1 (ap₂ (λ x xs. x ∷ xs) q.1 (ap (λ x. x ∷ []) p.1)))))
unpacked ws us m n a b eq = absurd (omega arith)

-- two values of one character are the same
pub same_value : (v w : ℕ) → v < 106 → w < 106 → pattern v ≡ pattern w → v ≡ w
same_value v w h k e = sym (code.back v h) ∙ ap shown e ∙ code.back w k

packed_by : (a b c d e f : ℕ) → 1 ≤ a → 1 ≤ b → 1 ≤ c → 1 ≤ d → 1 ≤ e → 1 ≤ f
    → (((((a * 4 + b) * 4 + c) * 4 + d) * 4 + e) * 4 + f) - 1365
    ≡ 4 * (4 * (4 * (4 * (4 * (4 * 0 + (a - 1)) + (b - 1)) + (c - 1)) + (d - 1)) + (e - 1)) + (f - 1)
packed_by a b c d e f i j k l m n = omega arith

-- six widths, as the code packs them
pub packed_six : (ws : List ℕ) → length ws ≡ 6 → AreWidths ws
    → (((((get_or ws 0 0 * 4 + get_or ws 1 0) * 4 + get_or ws 2 0) * 4 + get_or ws 3 0) * 4 + get_or ws 4 0) * 4 + get_or ws 5 0) - 1365
    ≡ packed_widths ws
packed_six (a ∷ b ∷ c ∷ d ∷ e ∷ f ∷ []) h v = packed_by a b c d e f v.0.0 v.1.0.0 v.1.1.0.0 v.1.1.1.0.0 v.1.1.1.1.0.0 v.1.1.1.1.1.0.0
packed_six ws h v = absurd (omega arith)
