-- The dots of a row that is held, in the image whatever follows it (for `pbm/rows.rt`).
use Rattle.std.proofs.Common.{◌≡◌, ◌==◌, ℕ, ◌+◌, ◌-◌, ◌*◌, ◌/◌, ◌%◌, ◌^◌, ◌<◌, ◌≤◌, Bool, true, false, List, ◌++◌, length, map, refl, sym, ap, ap₂, ◌∙◌, inl, inr, get_or, mod-lt, arith}
use Rattle.std.specs.Prelude.{if◌then◌else◌}
use Rattle.std.specs.Int.{bit_at}
use Rattle.std.specs.List.{range_with_len}
use Rattle.std.proofs.lemmas.Bool.{cases_lt, ne_eqb}
use Rattle.std.proofs.lemmas.Nat.{div-add-mod', pow_pos}
use Rattle.std.proofs.lemmas.Nat.Bits.{bit_at_cat_high}
use Rattle.std.proofs.lemmas.List.{ext_get_or, get_or_append_left, get_or-append_right, length-append}
use Rattle.std.proofs.lemmas.List.FromFn.{get_or-map-range_with_len, length-map-range_with_len}
use Rattle.scan_core.specs.Bits.{dot_at, dots_at}
use Rattle.scan_core.specs.Row.{dots_of}
use Rattle.sheet_core.specs.Bitmaps.{pad, stride}
use Rattle.sheet_core.specs.declared.pbm.state.Size.{Size}
use Rattle.sheet_core.specs.pbm.Images.{unpadded, unpadded_at}
use Rattle.sheet_core.specs.pbm.Rows.{ShowsDots}
use Rattle.sheet_core.proofs.pbm.PadFacts.{inside}

-- low bits made 0 change no higher bit
high_bit : (b p k : ℕ) → p ≤ k → bit_at (b - b % 2 ^ p) k ≡ bit_at b k
high_bit b p k high =
    let whole = div-add-mod' b (2 ^ p) in
    let low : b % 2 ^ p < 2 ^ p = mod-lt b (pow_pos p) in
    ap (λ n. bit_at n k) (let e : b - b % 2 ^ p ≡ b / 2 ^ p * 2 ^ p + 0 = omega arith in e) ∙ bit_at_cat_high (b / 2 ^ p) p 0 k (pow_pos p) high
    ∙ sym (bit_at_cat_high (b / 2 ^ p) p (b % 2 ^ p) k low high) ∙ ap (λ n. bit_at n k) whole

-- a dot of row y of rows that follow those before it: the pad bits that are made 0 are no dots
dot_there : (width y x : ℕ) (passed held rest : List ℕ) → length passed ≡ stride width * y → stride width ≤ length held → x < width
    → dot_at (unpadded width (passed ++ (held ++ rest))) (8 * (stride width * y) + x) ≡ dot_at held x
dot_there width y x passed held rest above row low =
    let w : ℕ = stride width in
    let bytes : List ℕ = passed ++ (held ++ rest) in
    let j : ℕ = x / 8 in
    let i : ℕ = w * y + j in
    let k : ℕ = 7 - x % 8 in
    let at : (8 * (w * y) + x) / 8 ≡ i = omega arith in
    let bit : 7 - (8 * (w * y) + x) % 8 ≡ k = omega arith in
    let column : j < w = omega arith in
    let long : i < length bytes = omega (arith, length-append passed (held ++ rest), length-append held rest, above, row, column) in
    let byte : get_or bytes i 0 ≡ get_or held j 0 =
    get_or-append_right passed (held ++ rest) (w * y) i 0 above (omega arith)
    ∙ ap (λ n. get_or (held ++ rest) n 0) (let e : i - w * y ≡ j = omega arith in e) ∙ get_or_append_left held rest 0 j (omega (arith, column, row)) in
    let there : get_or (unpadded width bytes) i 0 ≡ unpadded_at width bytes i =
    get_or-map-range_with_len (unpadded_at width bytes) 0 (length bytes) i i 0 long (omega arith) in
    let b : ℕ = get_or bytes i 0 in
    let test : Bool = (i + 1) % w == 0 in
    let same : bit_at (unpadded_at width bytes i) k ≡ bit_at b k =
    elim (cases_lt j (w - 1)) [
      | inl before ↦
          ap (λ (t : Bool). bit_at (if t then b - b % 2 ^ pad width else b) k)
          (ne_eqb ((i + 1) % w) 0 (λ e. inside w y i (omega arith) (omega (arith, before)) e))
      | inr last ↦
          elim test as (λ t. bit_at (if t then b - b % 2 ^ pad width else b) k ≡ bit_at b k) [
            | true ↦ high_bit b (pad width) k (omega (arith, low, last, column))
            | false ↦ refl
          ]
    ] in
    ap₂ (λ a b. bit_at (get_or (unpadded width bytes) a 0) b == 1) at bit ∙ ap (λ n. bit_at n k == 1) there ∙ ap (λ n. n == 1) (same ∙ ap (λ n. bit_at n k) byte)

pub shows_dots : (size : Size) (held : List ℕ) (x count : ℕ) (runs : List ℕ) → dots_of runs ≡ dots_at held x count → stride size.width ≤ length held
    → x + count ≤ size.width → ShowsDots size held x count runs
shows_dots size held x count runs shown row within = λ passed rest y above.
    let w : ℕ = stride size.width in
    let bytes : List ℕ = unpadded size.width (passed ++ (held ++ rest)) in
    let from : ℕ = 8 * (w * y) + x in
    shown ∙ ext_get_or false (dots_at held x count) (dots_at bytes from count)
    (length-map-range_with_len (dot_at held) x count ∙ sym (length-map-range_with_len (dot_at bytes) from count)) (λ n h.
    let low : n < count = omega (arith, h, length-map-range_with_len (dot_at held) x count) in
    get_or-map-range_with_len (dot_at held) x count n (x + n) false low refl
    ∙ sym (dot_there size.width y (x + n) passed held rest above row (omega (arith, low, within)))
    ∙ ap (dot_at bytes) (let e : 8 * (w * y) + (x + n) ≡ from + n = omega arith in e)
    ∙ sym (get_or-map-range_with_len (dot_at bytes) from count n (from + n) false low refl))
