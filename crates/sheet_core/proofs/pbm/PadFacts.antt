-- The pad bits of rows made 0.
use Rattle.std.proofs.Common.{◌≡◌, ◌==◌, true, false, ℕ, ◌+◌, ◌-◌, ◌*◌, ◌/◌, ◌%◌, ◌^◌, ◌<◌, ◌≤◌, List, length, set, refl, sym, ap, ◌∙◌, inl, inr, get_or, eq-eqb, arith}
use Rattle.std.specs.Prelude.{if◌then◌else◌}
use Rattle.std.proofs.lemmas.Bool.{cases_eq, cases_lt, ne_eqb}
use Rattle.std.proofs.lemmas.Nat.{div-add-mod', mod-mul-add, pow_pos}
use Rattle.std.proofs.lemmas.List.{get_or-set_other, get_or-set_same, length-set}
use Rattle.std.proofs.lemmas.List.FromFn.{fill_by_all}
use Rattle.sheet_core.specs.Bitmaps.{pad, stride}
use Rattle.sheet_core.specs.pbm.Images.{unpadded, unpadded_at}

-- the rows before this one are cleared, and the others are as they were
pub record Cleared (width : ℕ) (old : List ℕ) (row : ℕ) (bytes : List ℕ) : Type 0 where
  pub long : length bytes ≡ length old
  pub below : (i : ℕ) → i < stride width * row → get_or bytes i 0 ≡ unpadded_at width old i
  pub above : (i : ℕ) → stride width * row ≤ i → get_or bytes i 0 ≡ get_or old i 0

pub cleared_none : (width : ℕ) (old : List ℕ) → Cleared width old 0 old
cleared_none width old = record { long = refl; below = λ i h. absurd (let e : stride width * 0 ≡ 0 = omega arith in omega arith); above = λ i h. refl }

-- a byte that is the last of no row
pub inside : (w row i : ℕ) → w * row ≤ i → i < w * row + (w - 1) → (i + 1) % w ≡ 0 → ⊥
inside w row i low high e =
    let j : ℕ = i + 1 - w * row in
    let at : row * w + j ≡ i + 1 = let c : row * w ≡ w * row = grind arith in omega arith in
    let m : (i + 1) % w ≡ j = ap (λ n. n % w) (sym at) ∙ mod-mul-add row w j (omega arith) in
    omega arith

-- the last byte of a row
ends : (w row i : ℕ) → 0 < w → i ≡ w * row + (w - 1) → (i + 1) % w ≡ 0
ends w row i some e =
    let at : (row + 1) * w + 0 ≡ i + 1 = let c : (row + 1) * w ≡ w * row + w = grind arith in omega arith in
    ap (λ n. n % w) (sym at) ∙ mod-mul-add (row + 1) w 0 some

pub cleared_more : (width : ℕ) (old : List ℕ) (row : ℕ) (bytes : List ℕ) (last v : ℕ) → 0 < stride width → last ≡ stride width * row + (stride width - 1)
    → last < length bytes
    → v ≡ get_or bytes last 0 - get_or bytes last 0 % 2 ^ pad width → Cleared width old row bytes → Cleared width old (row + 1) (set bytes last v)
cleared_more width old row bytes last v some place within is h =
    let w : ℕ = stride width in
    let next : w * (row + 1) ≡ w * row + w = grind arith in
    let mask : ℕ → ℕ = λ b. b - b % 2 ^ pad width in
    record {
      long = length-set bytes last v ∙ h.long;
      below = λ i low. elim (cases_eq i last) [
        | inl same ↦
            let here : v ≡ mask (get_or old i 0) = is ∙ ap mask (h.above last (omega arith) ∙ ap (λ i. get_or old i 0) (sym same)) in
            ap (λ i. get_or (set bytes last v) i 0) same ∙ get_or-set_same bytes last v 0 within ∙ here
            ∙ sym (ap (λ t. if t then mask (get_or old i 0) else get_or old i 0) (eq-eqb ((i + 1) % w) 0 (ends w row i some (same ∙ place))))
        | inr other ↦
            get_or-set_other bytes last i v 0 other
            ∙ elim (cases_lt i (w * row)) [
              | inl before ↦ h.below i before
              | inr from ↦
                  h.above i from
                  ∙ sym (ap (λ t. if t then mask (get_or old i 0) else get_or old i 0) (ne_eqb ((i + 1) % w) 0 (λ e. inside w row i from (omega arith) e)))
            ]
      ];
      above = λ i from. get_or-set_other bytes last i v 0 (λ e. omega arith) ∙ h.above i (omega arith);
    }

pub cleared_all : (width height : ℕ) (old bytes : List ℕ) → length old ≡ stride width * height → Cleared width old height bytes → bytes ≡ unpadded width old
cleared_all width height old bytes long h = fill_by_all (unpadded_at width old) bytes (length old) 0 h.long (λ k low. h.below k (omega arith))

-- cleared bits are 0
pub cleared_at : (width : ℕ) (bytes : List ℕ) (i : ℕ) → i < length bytes → (i + 1) % stride width ≡ 0 → unpadded_at width bytes i % 2 ^ pad width ≡ 0
cleared_at width bytes i low last =
    ap (λ t. (if t then get_or bytes i 0 - get_or bytes i 0 % 2 ^ pad width else get_or bytes i 0) % 2 ^ pad width) (eq-eqb ((i + 1) % stride width) 0 last)
    ∙ multiple (get_or bytes i 0) (2 ^ pad width) (pow_pos (pad width))
  where
    multiple : (b m : ℕ) → 0 < m → (b - b % m) % m ≡ 0
    multiple b m some =
        let e = div-add-mod' b m in
        let at : b - b % m ≡ b / m * m + 0 = omega arith in
        ap (λ n. n % m) at ∙ mod-mul-add (b / m) m 0 some

-- rows without pad bits
pub none_padded : (width : ℕ) (bytes : List ℕ) → pad width ≡ 0 → bytes ≡ unpadded width bytes
none_padded width bytes none = fill_by_all (unpadded_at width bytes) bytes (length bytes) 0 refl (λ i low. same i)
  where
    same : (i : ℕ) → get_or bytes i 0 ≡ unpadded_at width bytes i
    same i =
        let b : ℕ = get_or bytes i 0 in
        let whole : b - b % 2 ^ pad width ≡ b = ap (λ p. b - b % 2 ^ p) none ∙ (let e : b - b % 1 ≡ b = omega arith in e) in
        elim ((i + 1) % stride width == 0) as (λ t. b ≡ (if t then b - b % 2 ^ pad width else b)) [
          | true ↦ sym whole
          | false ↦ refl
        ]
