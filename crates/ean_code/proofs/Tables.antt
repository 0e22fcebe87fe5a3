-- Tables by a key: an entry is 255, or a number whose key is its place.
use Rattle.std.proofs.Common.{◌≡◌, ◌≢◌, ℕ, zero, suc, ◌+◌, ◌<◌, Bool, true, false, ◌&&◌, ◌==◌, nat_lt, List, [], ◌∷◌, length, subst, ◌∙◌, arith, eqb-true, inl, inr, zero-add, add-zero, get_or}
use Rattle.std.specs.Prelude.{if◌then◌else◌}
use Rattle.std.proofs.lemmas.Bool.{and_parts, cases_eq, ltb-true, ne_eqb}
use Rattle.std.proofs.lemmas.List.{get_or_default}
use Rattle.ean_code.proofs.Cells.{all_below, all_below-at}

-- no number, or one below the bound whose key is the place
abbrev pub entry_ok : ℕ → (ℕ → ℕ) → ℕ → ℕ → Bool
entry_ok bound key i e = if e == 255 then true else (nat_lt e bound && (key e == i))

-- each entry, the first at place i
abbrev pub entries_ok : ℕ → (ℕ → ℕ) → ℕ → List ℕ → Bool
entries_ok bound key i [] = true
entries_ok bound key i (e ∷ es) = entry_ok bound key i e && entries_ok bound key (i + 1) es

-- the table, so long, has each number below the bound at its key, and no other entry
pub record IsTable (bound size : ℕ) (key : ℕ → ℕ) (table : List ℕ) : Type 0 where
  pub long : length table ≡ size
  pub entries : entries_ok bound key 0 table ≡ true
  pub low : all_below (λ v. nat_lt (key v) size) bound ≡ true
  pub numbers : all_below (λ v. get_or table (key v) 255 == v) bound ≡ true

entry_value : (bound : ℕ) (key : ℕ → ℕ) (i e : ℕ) → entry_ok bound key i e ≡ true → e ≢ 255 → (e < bound) × (key e ≡ i)
entry_value bound key i e h ne =
    elim (cases_eq e 255) [
      | inl same ↦ absurd (ne same)
      | inr other ↦
          let test : (e == 255) ≡ false = ne_eqb e 255 other in
          let rest : (nat_lt e bound && (key e == i)) ≡ true = subst (λ b. (if b then true else (nat_lt e bound && (key e == i))) ≡ true) test h in
          let parts = and_parts _ _ rest in (ltb-true e bound parts.0, eqb-true _ _ parts.1)
    ]

entries_ok-at : (bound : ℕ) (key : ℕ → ℕ) (i : ℕ) (es : List ℕ) → entries_ok bound key i es ≡ true → (k d : ℕ) → k < length es
    → entry_ok bound key (i + k) (get_or es k d) ≡ true
entries_ok-at bound key i [] h k d lt = absurd (omega arith)
entries_ok-at bound key i (e ∷ es) h zero d lt = rw add-zero (and_parts (entry_ok bound key i e) _ h).0
entries_ok-at bound key i (e ∷ es) h (suc k) d lt =
    let rest = entries_ok-at bound key (i + 1) es (and_parts (entry_ok bound key i e) _ h).1 k d (omega arith) in
    let at : (i + 1) + k ≡ i + suc k = omega arith in subst (λ n. entry_ok bound key n (get_or es k d) ≡ true) at rest

module _ (bound size : ℕ) (key : ℕ → ℕ) (table : List ℕ) (h : IsTable bound size key table) where
  -- an entry is a number whose key is its place
  pub entry_found : (i d : ℕ) → i < size → get_or table i d ≢ 255 → (get_or table i d < bound) × (key (get_or table i d) ≡ i)
  entry_found i d lt ne =
      let ok : entry_ok bound key (0 + i) (get_or table i d) ≡ true = entries_ok-at bound key 0 table h.entries i d (rw h.long lt) in
      entry_value bound key i (get_or table i d) (subst (λ n. entry_ok bound key n (get_or table i d) ≡ true) (zero-add i) ok) ne

  pub key_low : (v : ℕ) → v < bound → key v < size
  key_low v lt = ltb-true _ _ (all_below-at (λ v. nat_lt (key v) size) bound h.low v lt)

  -- a number is the entry at its key
  pub number_at : (v d : ℕ) → v < bound → get_or table (key v) d ≡ v
  number_at v d lt =
      get_or_default table (key v) d 255 (rw h.long (key_low v lt))
      ∙ eqb-true _ _ (all_below-at (λ v. get_or table (key v) 255 == v) bound h.numbers v lt)

  -- no number's key is the place of an entry of 255
  pub none_found : bound < 256 → (i d : ℕ) → get_or table i d ≡ 255 → (v : ℕ) → v < bound → key v ≢ i
  none_found small i d e v lt same =
      let at : get_or table i d ≡ v = subst (λ n. get_or table n d ≡ v) same (number_at v d lt) in omega arith
