-- The dots of a sheet that is printed row of cells by row of cells.
use Rattle.std.proofs.Common.{◌≡◌, ℕ, zero, suc, ◌+◌, ◌-◌, ◌*◌, ◌<◌, ◌≤◌, ◌&&◌, nat_lt, List, [], ◌∷◌, ◌++◌, length, take, drop, replicate, refl, sym, ap, ap₂, subst, ◌∙◌, inl, inr, get_or, arith}
use Rattle.std.specs.Prelude.{slice_get, if◌then◌else◌}
use Rattle.std.specs.List.{flat_map}
use Rattle.std.proofs.lemmas.Bool.{cases_lt, le-leb, le-ltb, lt-leb, lt-ltb}
use Rattle.std.proofs.lemmas.List.{append_assoc, append-nil, get_or_append_left, get_or-append_right, get_or_push, get_or-replicate, length-append, length-replicate}
use Rattle.sheet_core.specs.Drawing.{is_bar_row}
use Rattle.sheet_core.specs.Grids.{Cells}
use Rattle.sheet_core.specs.Labels.{Drawn}
use Rattle.sheet_core.specs.inner.Lines.{IsBarLine, band, repeated_bytes, row_labels}

-- ---- lists by their places

pub slice_get-drop : {X : Type 0} (n : ℕ) (xs : List X) (i : ℕ) → slice_get (drop n xs) i ≡ slice_get xs (n + i)
slice_get-drop zero xs i = ap (slice_get xs) (omega arith)
slice_get-drop (suc n) [] i = refl
slice_get-drop (suc n) (x ∷ xs) i = slice_get-drop n xs i ∙ sym (ap (slice_get (x ∷ xs)) (let e : suc n + i ≡ suc (n + i) = omega arith in e))

pub slice_get-take : {X : Type 0} (n : ℕ) (xs : List X) (i : ℕ) → i < n → slice_get (take n xs) i ≡ slice_get xs i
slice_get-take zero xs i h = absurd (omega arith)
slice_get-take (suc n) [] i h = refl
slice_get-take (suc n) (x ∷ xs) zero h = refl
slice_get-take (suc n) (x ∷ xs) (suc i) h = slice_get-take n xs i (omega arith)

-- ---- rows of bytes

times : (a b w : ℕ) → a + 1 ≤ b → a * w + w ≤ b * w
times a b w h = grind arith

pub rows_more : (n : ℕ) (line : List ℕ) → repeated_bytes (n + 1) line ≡ repeated_bytes n line ++ line
rows_more n line = ap (λ k. repeated_bytes k line) (let e : n + 1 ≡ suc n = omega arith in e) ∙ turned n
  where
    turned : (n : ℕ) → line ++ repeated_bytes n line ≡ repeated_bytes n line ++ line
    turned zero = append_nil_of line
      where
        append_nil_of : (xs : List ℕ) → xs ++ [] ≡ xs
        append_nil_of [] = refl
        append_nil_of (x ∷ xs) = ap (λ ys. x ∷ ys) (append_nil_of xs)
    turned (suc n) = ap (λ ys. line ++ ys) (turned n) ∙ sym (append_assoc line (repeated_bytes n line) line)

pub length-rows : (n : ℕ) (line : List ℕ) → length (repeated_bytes n line) ≡ n * length line
length-rows zero line = omega arith
length-rows (suc n) line = length-append line (repeated_bytes n line) ∙ ap (λ k. length line + k) (length-rows n line)
    ∙ (let e : length line + n * length line ≡ suc n * length line = grind arith in e)

rows_at : (n k j : ℕ) (line : List ℕ) → k < n → j < length line → get_or (repeated_bytes n line) (k * length line + j) 0 ≡ get_or line j 0
rows_at zero k j line h low = absurd (omega arith)
rows_at (suc n) zero j line h low =
    ap (λ i. get_or (line ++ repeated_bytes n line) i 0) (let e : 0 * length line + j ≡ j = omega arith in e)
    ∙ get_or_append_left line (repeated_bytes n line) 0 j low
rows_at (suc n) (suc k) j line h low =
    let next : suc k * length line + j ≡ length line + (k * length line + j) = grind arith in
    get_or-append_right line (repeated_bytes n line) (length line) (suc k * length line + j) 0 refl (omega arith)
    ∙ ap (λ i. get_or (repeated_bytes n line) i 0) (let e : suc k * length line + j - length line ≡ k * length line + j = omega arith in e)
    ∙ rows_at n k j line (omega arith) low

-- a byte of a list of pieces of one length
pub flat_at : (f : List ℕ → List ℕ) (w : ℕ) (xs : List (List ℕ)) (i j : ℕ) → ((r : ℕ) → r < length xs → length (f (get_or xs r [])) ≡ w) → i < length xs → j < w
    → get_or (flat_map f xs) (i * w + j) 0 ≡ get_or (f (get_or xs i [])) j 0
flat_at f w [] i j long h low = absurd (omega arith)
flat_at f w (x ∷ xs) zero j long h low =
    let one : length (f x) ≡ w = long 0 (omega arith) in
    ap (λ i. get_or (f x ++ flat_map f xs) i 0) (let e : 0 * w + j ≡ j = omega arith in e) ∙ get_or_append_left (f x) (flat_map f xs) 0 j (omega arith)
flat_at f w (x ∷ xs) (suc i) j long h low =
    let one : length (f x) ≡ w = long 0 (omega arith) in
    let next : suc i * w + j ≡ w + (i * w + j) = grind arith in
    get_or-append_right (f x) (flat_map f xs) w (suc i * w + j) 0 one (omega arith)
    ∙ ap (λ k. get_or (flat_map f xs) k 0) (let e : suc i * w + j - w ≡ i * w + j = omega arith in e)
    ∙ flat_at f w xs i j (λ r k. long (suc r) (omega arith)) (omega arith) low

pub flat_long : (f : List ℕ → List ℕ) (w : ℕ) (xs : List (List ℕ)) → ((r : ℕ) → r < length xs → length (f (get_or xs r [])) ≡ w) → length (flat_map f xs)
    ≡ length xs * w
flat_long f w [] long = omega arith
flat_long f w (x ∷ xs) long =
    let one : length (f x) ≡ w = long 0 (omega arith) in
    let more = flat_long f w xs (λ r k. long (suc r) (omega arith)) in
    length-append (f x) (flat_map f xs) ∙ ap₂ (λ a b. a + b) one more ∙ (let e : w + length xs * w ≡ length (x ∷ xs) * w = grind arith in e)

-- ---- a row of cells

pub band_long : (g : Cells) (line : List ℕ) → 2 * g.dots ≤ g.height → length (band g line) ≡ g.height * length line
band_long g line fits =
    let light : List ℕ = replicate (length line) 0 in
    let w : ℕ = length line in
    let l : length light ≡ w = length-replicate {A = ℕ} w 0 in
    let a : length (repeated_bytes g.dots light) ≡ g.dots * w = length-rows g.dots light ∙ ap (λ k. g.dots * k) l in
    let b = length-rows (g.height - 2 * g.dots) line in
    let inner = length-append (repeated_bytes (g.height - 2 * g.dots) line) (repeated_bytes g.dots light) in
    let all = length-append (repeated_bytes g.dots light) (repeated_bytes (g.height - 2 * g.dots) line ++ repeated_bytes g.dots light) in
    let e : g.dots * w + ((g.height - 2 * g.dots) * w + g.dots * w) ≡ g.height * w = parts g.dots (g.height - 2 * g.dots) g.height w (omega arith) in
    omega arith
  where
    parts : (a b h w : ℕ) → 2 * a + b ≡ h → a * w + (b * w + a * w) ≡ h * w
    parts a b h w e = (let x : a * w + (b * w + a * w) ≡ (2 * a + b) * w = grind arith in x) ∙ ap (λ n. n * w) e

-- byte j of dot row k of a row of cells
pub band_at : (g : Cells) (line : List ℕ) (k j : ℕ) → 2 * g.dots ≤ g.height → k < g.height → j < length line
    → get_or (band g line) (k * length line + j) 0 ≡ (if is_bar_row g k then get_or line j 0 else 0)
band_at g line k j fits low within =
    let w : ℕ = length line in
    let light : List ℕ = replicate w 0 in
    let l : length light ≡ w = length-replicate {A = ℕ} w 0 in
    let middle : ℕ = g.height - 2 * g.dots in
    let top : length (repeated_bytes g.dots light) ≡ g.dots * w = length-rows g.dots light ∙ ap (λ n. g.dots * n) l in
    let bars : length (repeated_bytes middle line) ≡ middle * w = length-rows middle line in
    let dark : (n i : ℕ) → i < n → get_or (repeated_bytes n light) (i * w + j) 0 ≡ 0 =
    λ n i h. ap (λ v. get_or (repeated_bytes n light) (i * v + j) 0) (sym l) ∙ rows_at n i j light h (omega arith) ∙ get_or-replicate {A = ℕ} w j 0 0 within in
    elim (cases_lt k g.dots) [
      | inl above ↦
          let inside : k * w + j < g.dots * w = below k g.dots w j above within in
          get_or_append_left (repeated_bytes g.dots light) (repeated_bytes middle line ++ repeated_bytes g.dots light) 0 (k * w + j) (omega arith)
          ∙ dark g.dots k above
          ∙ sym (ap (λ t. if t && nat_lt (k + g.dots) g.height then get_or line j 0 else 0) (lt-leb g.dots k above))
      | inr from ↦
          let split : k * w + j ≡ g.dots * w + ((k - g.dots) * w + j) = parted k g.dots (k - g.dots) w j (omega arith) in
          let past : get_or (band g line) (k * w + j) 0 ≡ get_or (repeated_bytes middle line ++ repeated_bytes g.dots light) ((k - g.dots) * w + j) 0 =
          get_or-append_right (repeated_bytes g.dots light) (repeated_bytes middle line ++ repeated_bytes g.dots light) (g.dots * w) (k * w + j) 0 top
          (omega arith)
          ∙ ap (λ i. get_or (repeated_bytes middle line ++ repeated_bytes g.dots light) i 0)
          (let e : k * w + j - g.dots * w ≡ (k - g.dots) * w + j = omega arith in e) in
          past ∙ elim (cases_lt (k - g.dots) middle) [
            | inl bar ↦
                let inside : (k - g.dots) * w + j < middle * w = below (k - g.dots) middle w j bar within in
                get_or_append_left (repeated_bytes middle line) (repeated_bytes g.dots light) 0 ((k - g.dots) * w + j) (omega arith)
                ∙ rows_at middle (k - g.dots) j line bar within
                ∙ sym (ap₂ (λ s t. if s && t then get_or line j 0 else 0) (le-leb g.dots k from) (lt-ltb (k + g.dots) g.height (omega arith)))
            | inr under ↦
                let rest : (k - g.dots) * w + j ≡ middle * w + ((k - g.dots - middle) * w + j) =
                parted (k - g.dots) middle (k - g.dots - middle) w j (omega arith) in
                get_or-append_right (repeated_bytes middle line) (repeated_bytes g.dots light) (middle * w) ((k - g.dots) * w + j) 0 bars (omega arith)
                ∙ ap (λ i. get_or (repeated_bytes g.dots light) i 0)
                (let e : (k - g.dots) * w + j - middle * w ≡ (k - g.dots - middle) * w + j = omega arith in e)
                ∙ dark g.dots (k - g.dots - middle) (omega arith)
                ∙ sym (ap₂ (λ s t. if s && t then get_or line j 0 else 0) (le-leb g.dots k from) (le-ltb (k + g.dots) g.height (omega arith)))
          ]
    ]
  where
    below : (k n w j : ℕ) → k < n → j < w → k * w + j < n * w
    below k n w j h low = let t = times k n w (omega arith) in omega arith

    parted : (k a b w j : ℕ) → a + b ≡ k → k * w + j ≡ a * w + (b * w + j)
    parted k a b w j e = ap (λ n. n * w + j) (sym e) ∙ (let x : (a + b) * w + j ≡ a * w + (b * w + j) = grind arith in x)

-- the bytes are these rows of cells, each by its line
pub record Banded (g : Cells) (symbols : List Drawn) (n : ℕ) (bytes : List ℕ) : Type 0 where
  pub lines : List (List ℕ)
  pub count : length lines ≡ n
  pub each : (r : ℕ) → r < n → IsBarLine g (row_labels g symbols r) (get_or lines r [])
  pub joined : bytes ≡ flat_map (band g) lines

pub banded_none : (g : Cells) (symbols : List Drawn) (bytes : List ℕ) → bytes ≡ [] → Banded g symbols 0 bytes
banded_none g symbols bytes e = record { lines = []; count = refl; each = λ r h. absurd (omega arith); joined = e }

pub banded_more : (g : Cells) (symbols : List Drawn) (n : ℕ) (bytes new line : List ℕ) → Banded g symbols n bytes → IsBarLine g (row_labels g symbols n) line
    → new ≡ bytes ++ band g line → Banded g symbols (n + 1) new
banded_more g symbols n bytes new line h drawn e = record {
  lines = h.lines ++ line ∷ [];
  count = length-append h.lines (line ∷ []) ∙ ap (λ k. k + 1) h.count;
  each = λ r low. elim (cases_lt r n) [
    | inl before ↦ subst (IsBarLine g (row_labels g symbols r)) (sym (get_or_append_left h.lines (line ∷ []) [] r (let c = h.count in omega arith)))
        (h.each r before)
    | inr last ↦
        let same : r ≡ n = omega arith in
        let at : get_or (h.lines ++ line ∷ []) r [] ≡ line = get_or_push h.lines line [] r (h.count ∙ sym same) in
        subst (IsBarLine g (row_labels g symbols r)) (sym at) (subst (λ k. IsBarLine g (row_labels g symbols k) line) (sym same) drawn)
  ];
  joined = e ∙ ap (λ bs. bs ++ band g line) h.joined ∙ sym (flat_map_push (band g) h.lines line);
}
  where
    flat_map_push : (f : List ℕ → List ℕ) (xs : List (List ℕ)) (x : List ℕ) → flat_map f (xs ++ x ∷ []) ≡ flat_map f xs ++ f x
    flat_map_push f [] x = append-nil (f x)
    flat_map_push f (y ∷ xs) x = ap (λ ys. f y ++ ys) (flat_map_push f xs x) ∙ sym (append_assoc (f y) (flat_map f xs) (f x))
