-- What the table of characters holds, by tests that compute.
use Rattle.std.proofs.Common.{◌≡◌, ◌≢◌, ℕ, ◌+◌, ◌-◌, ◌*◌, ◌%◌, ◌<◌, ◌≤◌, Bool, true, not, ◌&&◌, ◌==◌, nat_le, List, [], ◌∷◌, length, refl, ap, ap₂, ◌∙◌, arith, eqb-true, get_or}
use Rattle.std.proofs.lemmas.Bool.{and_parts}
use Rattle.ean_code.specs.declared.lookup.TheConstants.{CHARACTERS}
use Rattle.ean_code.specs.declared.number_sets.Character.{Character}
use Rattle.ean_code.specs.declared.number_sets.NumberSet.{NumberSet}
use Rattle.ean_code.specs.declared.number_sets.NumberSet.TheVariants.{A, B}
use Rattle.ean_code.specs.NumberSets.{character_of, in_set, left_widths}
use Rattle.ean_code.specs.inner.NumberSets.{is_a}
use Rattle.ean_code.specs.Widths.{AreWidths, packed_widths}
use Rattle.ean_code.proofs.Cells.{all_below, all_below-at}
use Rattle.ean_code.proofs.Characters.{same_set, same_set-true}
use Rattle.ean_code.proofs.Tables.{IsTable, entry_found, none_found}

-- the character of an entry
abbrev pub entry_character : ℕ → Character
entry_character e = character_of (nat_le 10 e, e % 10)

abbrev pub character_key : ℕ → ℕ
character_key e = packed_widths (left_widths (entry_character e))

pub characters_table : IsTable 20 256 character_key CHARACTERS
characters_table = record { long = refl; entries = refl; low = refl; numbers = refl }

-- an entry is a character's whose widths are packed so
pub entry_packed : (i d : ℕ) → i < 256 → get_or CHARACTERS i d ≢ 255 → packed_widths (left_widths (entry_character (get_or CHARACTERS i d))) ≡ i
entry_packed i d lt ne = (entry_found 20 256 character_key CHARACTERS characters_table i d lt ne).1

-- the entry of a character
abbrev entry_of : NumberSet → ℕ → ℕ
entry_of A d = d
entry_of B d = 10 + d

entry_low : (s : NumberSet) (d : ℕ) → d < 10 → entry_of s d < 20
entry_low A d h = omega arith
entry_low B d h = omega arith

abbrev entry_back_ok : NumberSet → ℕ → Bool
entry_back_ok s d = same_set (entry_character (entry_of s d)).set s && ((entry_character (entry_of s d)).digit == d)

entries_back : (s : NumberSet) → all_below (entry_back_ok s) 10 ≡ true
entries_back A = refl
entries_back B = refl

entry_back : (s : NumberSet) (d : ℕ) → d < 10 → entry_character (entry_of s d) ≡ in_set s d
entry_back s d h =
    let parts = and_parts _ _ (all_below-at (entry_back_ok s) 10 (entries_back s) d h) in ap₂ in_set (same_set-true _ _ parts.0) (eqb-true _ _ parts.1)

no_character : (i d : ℕ) → get_or CHARACTERS i d ≡ 255 → (c : Character) → c.digit < 10 → packed_widths (left_widths c) ≢ i
no_character i d none c h same =
    none_found 20 256 character_key CHARACTERS characters_table (omega arith) i d none (entry_of c.set c.digit) (entry_low c.set c.digit h)
    (ap (λ x. packed_widths (left_widths x)) (entry_back c.set c.digit h) ∙ same)

pub no_pair : (i d : ℕ) → get_or CHARACTERS i d ≡ 255 → (c : Bool × ℕ) → c.1 < 10 → packed_widths (left_widths (character_of c)) ≢ i
no_pair i d none c h = no_character i d none (character_of c) h

-- a character as whether it is of number set B, and its digit
abbrev pub pair_of : Character → Bool × ℕ
pair_of c = (not (is_a c.set), c.digit)

pub of_pair : (s : NumberSet) (d : ℕ) → character_of (pair_of (in_set s d)) ≡ in_set s d
of_pair A d = refl
of_pair B d = refl

-- numbers by their last digit in base four
last_digit : (m n x y : ℕ) → 1 ≤ x → x ≤ 4 → 1 ≤ y → y ≤ 4 → 4 * m + (x - 1) ≡ 4 * n + (y - 1) → (m ≡ n) × (x ≡ y)
last_digit m n x y a b c d e = (omega arith, omega arith)

-- four widths are packed in one way
pub unpacked : (ws us : List ℕ) → length ws ≡ 4 → length us ≡ 4 → AreWidths ws → AreWidths us → packed_widths ws ≡ packed_widths us → ws ≡ us
unpacked (a ∷ b ∷ c ∷ d ∷ []) (p ∷ q ∷ r ∷ s ∷ []) m n v u eq =
    let w = last_digit _ _ d s v.1.1.1.0.0 v.1.1.1.0.1 u.1.1.1.0.0 u.1.1.1.0.1 eq in
    let x = last_digit _ _ c r v.1.1.0.0 v.1.1.0.1 u.1.1.0.0 u.1.1.0.1 w.0 in
    let y = last_digit _ _ b q v.1.0.0 v.1.0.1 u.1.0.0 u.1.0.1 x.0 in
    let z = last_digit 0 0 a p v.0.0 v.0.1 u.0.0 u.0.1 y.0 in
    ap₂ (λ i is. i ∷ is) z.1 (ap₂ (λ i is. i ∷ is) y.1 (ap₂ (λ i is. i ∷ is) x.1 (ap (λ i. i ∷ []) w.1)))
unpacked ws us m n v u eq = absurd (omega arith)

packed_by : (a b c d : ℕ) → 1 ≤ a → 1 ≤ b → 1 ≤ c → 1 ≤ d
    → (((a * 4 + b) * 4 + c) * 4 + d) - 85 ≡ 4 * (4 * (4 * (4 * 0 + (a - 1)) + (b - 1)) + (c - 1)) + (d - 1)
packed_by a b c d i j k l = omega arith

-- four widths, as the code packs them
pub packed_four : (ws : List ℕ) → length ws ≡ 4 → AreWidths ws
    → (((get_or ws 0 0 * 4 + get_or ws 1 0) * 4 + get_or ws 2 0) * 4 + get_or ws 3 0) - 85 ≡ packed_widths ws
packed_four (a ∷ b ∷ c ∷ d ∷ []) h v = packed_by a b c d v.0.0 v.1.0.0 v.1.1.0.0 v.1.1.1.0.0
packed_four ws h v = absurd (omega arith)
