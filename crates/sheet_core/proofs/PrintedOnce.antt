-- A bitmap is fixed by its dots, and so labels are printed as one list of sheets.
use Rattle.std.proofs.Common.{◌≡◌, ℕ, zero, suc, ◌+◌, ◌-◌, ◌*◌, ◌/◌, ◌%◌, ◌^◌, ◌<◌, ◌≤◌, ◌==◌, ◌++◌, List, [], ◌∷◌, length, refl, sym, ap, ap₂, subst, ◌∙◌, inl, inr, get_or, arith, true≢false}
use Rattle.std.specs.Prelude.{Some, slice_get}
use Rattle.std.specs.List.{AllByRecursion}
use Rattle.std.specs.Int.{bit_at}
use Rattle.std.proofs.lemmas.Bool.{cases_lt}
use Rattle.std.proofs.lemmas.Nat.{div_below, mod-mul-add, div-add-mod'}
use Rattle.std.proofs.lemmas.Nat.Bits.{bit_at-lt, bit_at-zero, bit_at_cat_low, same_from_bits_below}
use Rattle.std.proofs.lemmas.List.{same_lists}
use Rattle.std.proofs.lemmas.Grind.{same_number_lists}
use Rattle.std.proofs.lemmas.Option.{slice_get-get_or}
use Rattle.sheet_core.specs.Bitmaps.{Bitmap, IsBitmap, dot_of, pad, stride}
use Rattle.sheet_core.specs.Drawing.{AreSheets, IsSheet, dot}
use Rattle.sheet_core.specs.Grids.{Cells}
use Rattle.sheet_core.specs.Labels.{Drawn}
use Rattle.sheet_core.specs.pbm.Headers.{header_text}
use Rattle.sheet_core.specs.pbm.Images.{image, pbm_of}
use Rattle.sheet_core.specs.PrintLaws.{AreBytes, OneBitmap, OnePrinted}
use Rattle.sheet_core.proofs.OneLabelSymbol.{same_all}

-- two bits that are 1 alike are alike
same_bit : (a b : ℕ) → a < 2 → b < 2 → (a == 1) ≡ (b == 1) → a ≡ b
same_bit zero zero h k e = refl
same_bit zero (suc zero) h k e = absurd (true≢false (sym e))
same_bit zero (suc (suc b)) h k e = absurd (omega (arith, k))
same_bit (suc zero) zero h k e = absurd (true≢false e)
same_bit (suc zero) (suc zero) h k e = refl
same_bit (suc zero) (suc (suc b)) h k e = absurd (omega (arith, k))
same_bit (suc (suc a)) b h k e = absurd (omega (arith, h))

-- the low bits of a number that 2 ^ p divides
low_zero : (n p i : ℕ) → i < p → n % 2 ^ p ≡ 0 → bit_at n i ≡ 0
low_zero n p i low none =
    ap (λ m. bit_at m i) (sym (div-add-mod' n (2 ^ p))) ∙ bit_at_cat_low (n / 2 ^ p) p (n % 2 ^ p) i low ∙ ap (λ m. bit_at m i) none ∙ bit_at-zero i

byte_small : (bytes : List ℕ) (i : ℕ) → AreBytes bytes → get_or bytes i 0 < 2 ^ 8
byte_small [] i h = omega arith
byte_small (b ∷ bytes) zero h = omega (arith, h.0)
byte_small (b ∷ bytes) (suc i) h = byte_small bytes i h.1

-- dot 7 - k of byte j of row y is bit k of that byte
dot_bit : (s : Bitmap) (i y j k : ℕ) → k < 8 → i ≡ stride s.width * y + j → dot_of s (8 * j + (7 - k)) y ≡ (bit_at (get_or s.bytes i 0) k == 1)
dot_bit s i y j k low is =
    let w : ℕ = stride s.width in
    let at : ℕ = 8 * (w * y) + (8 * j + (7 - k)) in
    let byte : at / 8 ≡ i = omega (arith, is, low) in
    let bit : 7 - at % 8 ≡ k = omega (arith, low) in
    ap₂ (λ a b. bit_at (get_or s.bytes a 0) b == 1) byte bit

-- past the dots of a row, its last byte has bits that are 0
pad_bit : (s : Bitmap) (i y j k : ℕ) → IsBitmap s → k < 8 → i ≡ stride s.width * y + j → i < length s.bytes → j < stride s.width → s.width ≤ 8 * j + (7 - k)
    → bit_at (get_or s.bytes i 0) k ≡ 0
pad_bit s i y j k is low at within inside past =
    let w : ℕ = stride s.width in
    let last : j + 1 ≡ w = omega (arith, past, inside, low) in
    let split : w * (y + 1) ≡ w * y + w = grind arith in
    let turned : (y + 1) * w ≡ w * (y + 1) = grind arith in
    let whole : i + 1 ≡ (y + 1) * w + 0 = omega (arith, at, last, split, turned) in
    let ends : (i + 1) % w ≡ 0 = ap (λ n. n % w) whole ∙ mod-mul-add (y + 1) w 0 (omega (arith, inside)) in
    low_zero (get_or s.bytes i 0) (pad s.width) k (omega (arith, last, past, low)) (is.padded i within ends)

-- bit k of byte i
bit_once : (s t : Bitmap) (i k : ℕ) → IsBitmap s → IsBitmap t → s.width ≡ t.width → s.height ≡ t.height
    → ((x y : ℕ) → x < s.width → y < s.height → dot_of s x y ≡ dot_of t x y) → i < length s.bytes → i < length t.bytes → k < 8
    → bit_at (get_or s.bytes i 0) k ≡ bit_at (get_or t.bytes i 0) k
bit_once s t i k is also wide high dots within inside low =
    let w : ℕ = stride s.width in
    let least = is.width_least in
    let some : 0 < w = omega arith in
    let y : ℕ = i / w in
    let j : ℕ = i % w in
    let column : j < w = mod_low i w some in
    let whole : i ≡ w * y + j = parts i w in
    let turned : w * s.height ≡ s.height * w = grind arith in
    let count = is.count in
    let row : y < s.height = div_below i w s.height some (omega (arith, within, count, turned)) in
    let there : i ≡ stride t.width * y + j = subst (λ v. i ≡ stride v * y + j) wide whole in
    elim (cases_lt (8 * j + (7 - k)) s.width) [
      | inl dot ↦
          same_bit (bit_at (get_or s.bytes i 0) k) (bit_at (get_or t.bytes i 0) k) (bit_at-lt _ k) (bit_at-lt _ k)
          (sym (dot_bit s i y j k low whole) ∙ dots (8 * j + (7 - k)) y dot row ∙ dot_bit t i y j k low there)
      | inr past ↦
          let past_too : t.width ≤ 8 * j + (7 - k) = omega (arith, past, wide) in
          let column_too : j < stride t.width = subst (λ v. j < stride v) wide column in
          pad_bit s i y j k is low whole within column past ∙ sym (pad_bit t i y j k also low there inside column_too past_too)
    ]
  where
    mod_low : (n d : ℕ) → 0 < d → n % d < d
    mod_low n d h = omega arith

    parts : (n d : ℕ) → n ≡ d * (n / d) + n % d
    parts n d = let turned : d * (n / d) ≡ n / d * d = grind arith in sym (div-add-mod' n d) ∙ ap (λ m. m + n % d) (sym turned)

pub one_bitmap : OneBitmap
one_bitmap s t is also small small_too wide high dots =
    let count = is.count in
    let count_too = also.count in
    let long : length s.bytes ≡ length t.bytes = count ∙ ap₂ (λ w h. stride w * h) wide high ∙ sym count_too in
    let bytes : s.bytes ≡ t.bytes = same_number_lists s.bytes t.bytes long (λ i within.
    same_from_bits_below 8 (get_or s.bytes i 0) (get_or t.bytes i 0) (byte_small s.bytes i small) (byte_small t.bytes i small_too)
    (λ k low. bit_once s t i k is also wide high dots within (omega (arith, within, long)) low)) in
    λ i. record { width = wide i; height = high i; bytes = bytes i }

-- ---- sheets

second_part : (P : ℕ → Type 0) (xs ys : List ℕ) → AllByRecursion P (xs ++ ys) → AllByRecursion P ys
second_part P [] ys h = h
second_part P (x ∷ xs) ys h = second_part P xs ys h.1

first_part : (P : ℕ → Type 0) (xs ys : List ℕ) → AllByRecursion P (xs ++ ys) → AllByRecursion P xs
first_part P [] ys h = tt
first_part P (x ∷ xs) ys h = (h.0, first_part P xs ys h.1)

-- the bytes of a sheet are among those that are written
sheet_bytes : (sheets : List Bitmap) (i : ℕ) (s : Bitmap) → AreBytes (pbm_of sheets) → slice_get sheets i ≡ Some s → AreBytes s.bytes
sheet_bytes [] i s h at = cc at
sheet_bytes (x ∷ sheets) zero s h at =
    let same : x ≡ s = cc at in
    subst (λ (b : Bitmap). AreBytes b.bytes) same (second_part (λ n. n < 256) (header_text x.width x.height) x.bytes
    (first_part (λ n. n < 256) (image x) (pbm_of sheets) h))
sheet_bytes (x ∷ sheets) (suc i) s h at = sheet_bytes sheets i s (second_part (λ n. n < 256) (image x) (pbm_of sheets) h) at

-- a sheet has one bitmap
one_sheet : (symbols : List Drawn) (g : Cells) (i : ℕ) (s t : Bitmap) → IsSheet symbols g i s → IsSheet symbols g i t → AreBytes s.bytes → AreBytes t.bytes → s
    ≡ t
one_sheet symbols g i s t is also small small_too =
    let wide = is.width ∙ sym also.width in
    let high = is.height ∙ sym also.height in
    one_bitmap s t is.bitmap also.bitmap small small_too wide high
    (λ x y left top. is.dots x y left top ∙ sym (also.dots x y (omega (arith, left, wide)) (omega (arith, top, high))))

all_sheets : (symbols : List Drawn) (g : Cells) (sheets others : List Bitmap) → AreSheets symbols g sheets → AreSheets symbols g others
    → AreBytes (pbm_of sheets) → AreBytes (pbm_of others) → sheets ≡ others
all_sheets symbols g sheets others are also small small_too =
    let long : length sheets ≡ length others = are.count ∙ sym also.count in
    same_lists sheets others long (λ i d within.
    let s : Bitmap = get_or sheets i d in
    let t : Bitmap = get_or others i d in
    let here = slice_get-get_or sheets i d within in
    let there = slice_get-get_or others i d (omega (arith, within, long)) in
    one_sheet symbols g i s t (are.each i s here) (also.each i t there) (sheet_bytes sheets i s small here) (sheet_bytes others i t small_too there))

pub one_printed : OnePrinted
one_printed labels g sheets others printed again small small_too =
    let same = same_all labels again.symbols printed.symbols again.drawn printed.drawn in
    let shown : AreSheets printed.symbols g others = subst (λ symbols. AreSheets symbols g others) same again.shown in
    all_sheets printed.symbols g sheets others printed.shown shown small small_too
