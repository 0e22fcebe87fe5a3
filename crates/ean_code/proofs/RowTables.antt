-- What the tables of rows hold, by tests that compute.
use Rattle.std.proofs.Common.{◌≡◌, ◌≢◌, ℕ, ◌+◌, ◌*◌, ◌<◌, List, [], ◌∷◌, length, refl, sym, ap, ap₂, ◌∙◌, arith, get_or}
use Rattle.ean_code.specs.declared.rows.TheConstants.{EAN13_DIGITS, UPCE_DIGITS}
use Rattle.ean_code.specs.declared.number_sets.Character.{Character}
use Rattle.ean_code.specs.declared.number_sets.NumberSet.{NumberSet}
use Rattle.ean_code.specs.declared.number_sets.NumberSet.TheVariants.{A, B}
use Rattle.ean_code.specs.inner.NumberSets.{bit_of, character_sets, packed_sets}
use Rattle.ean_code.specs.NumberSets.{ean13_rows, row_of, upce_rows}
use Rattle.ean_code.proofs.Tables.{IsTable, entry_found, none_found}

abbrev pub row_key : List (List NumberSet) → ℕ → ℕ
row_key rows d = packed_sets (row_of rows d)

pub ean13_table : IsTable 10 64 (row_key ean13_rows) EAN13_DIGITS
ean13_table = record { long = refl; entries = refl; low = refl; numbers = refl }

pub upce_table : IsTable 10 64 (row_key upce_rows) UPCE_DIGITS
upce_table = record { long = refl; entries = refl; low = refl; numbers = refl }

-- numbers by their last bit
last_bit : (m n : ℕ) (s t : NumberSet) → 2 * m + bit_of s ≡ 2 * n + bit_of t → (m ≡ n) × (s ≡ t)
last_bit m n A A e = (omega arith, refl)
last_bit m n B B e = (omega arith, refl)
last_bit m n A B e = absurd (omega arith)
last_bit m n B A e = absurd (omega arith)

-- six number sets are packed in one way
unpacked : (xs ys : List NumberSet) → length xs ≡ 6 → length ys ≡ 6 → packed_sets xs ≡ packed_sets ys → xs ≡ ys
unpacked (a ∷ b ∷ c ∷ d ∷ e ∷ f ∷ []) (g ∷ h ∷ i ∷ j ∷ k ∷ l ∷ []) m n eq =
    let p = last_bit _ _ f l eq in
    let q = last_bit _ _ e k p.0 in
    let r = last_bit _ _ d j q.0 in
    let s = last_bit _ _ c i r.0 in
    let t = last_bit _ _ b h s.0 in
    let u = last_bit 0 0 a g t.0 in
    ap₂ (λ x xs. x ∷ xs) u.1 (ap₂ (λ x xs. x ∷ xs) t.1 (ap₂ (λ x xs. x ∷ xs) s.1 (ap₂ (λ x xs. x ∷ xs) r.1 (ap₂ (λ x xs. x ∷ xs) q.1 (ap (λ x. x ∷ []) p.1)))))
unpacked xs ys m n eq = absurd (omega arith)

packed_by : (a b c d e f : ℕ) → (a * 4 + b * 2 + c) * 8 + (d * 4 + e * 2 + f) ≡ 2 * (2 * (2 * (2 * (2 * (2 * 0 + a) + b) + c) + d) + e) + f
packed_by a b c d e f = omega arith

-- six number sets, as the code packs them
pub packed_six : (cs : List Character) (x : Character) → length cs ≡ 6
    → (bit_of (get_or cs 0 x).set * 4 + bit_of (get_or cs 1 x).set * 2 + bit_of (get_or cs 2 x).set) * 8
    + (bit_of (get_or cs 3 x).set * 4 + bit_of (get_or cs 4 x).set * 2 + bit_of (get_or cs 5 x).set) ≡ packed_sets (character_sets cs)
packed_six (a ∷ b ∷ c ∷ d ∷ e ∷ f ∷ []) x h = packed_by (bit_of a.set) (bit_of b.set) (bit_of c.set) (bit_of d.set) (bit_of e.set) (bit_of f.set)
packed_six cs x h = absurd (omega arith)

-- the digit of a row, by the table
pub row_found : (rows : List (List NumberSet)) (digits : List ℕ) → IsTable 10 64 (row_key rows) digits → ((d : ℕ) → d < 10 → length (row_of rows d) ≡ 6)
    → (sets : List NumberSet) (i d : ℕ) → length sets ≡ 6 → i ≡ packed_sets sets → i < 64 → get_or digits i d ≢ 255
    → (get_or digits i d < 10) × (sets ≡ row_of rows (get_or digits i d))
row_found rows digits table six sets i d long packed low some =
    let found = entry_found 10 64 (row_key rows) digits table i d low some in
    (found.0, unpacked sets (row_of rows (get_or digits i d)) long (six (get_or digits i d) found.0) (sym packed ∙ sym found.1))

pub row_none : (rows : List (List NumberSet)) (digits : List ℕ) → IsTable 10 64 (row_key rows) digits
    → (sets : List NumberSet) (i d : ℕ) → i ≡ packed_sets sets → get_or digits i d ≡ 255 → (v : ℕ) → v < 10 → sets ≢ row_of rows v
row_none rows digits table sets i d packed none v low same =
    none_found 10 64 (row_key rows) digits table (omega arith) i d none v low (ap packed_sets (sym same) ∙ sym packed)
