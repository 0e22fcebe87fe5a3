-- What is written is read again.
use Rattle.std.proofs.Common.{◌≡◌, ℕ, zero, suc, ◌+◌, ◌-◌, ◌*◌, ◌/◌, ◌%◌, ◌^◌, ◌<◌, ◌≤◌, ◌==◌, true, false, List, [], ◌∷◌, ◌++◌, length, Option, Some, None, Ok, refl, sym, ap, ap₂, ◌∙◌, inl, inr, arith, add-one, eq-eqb, get_or}
use Rattle.std.specs.Prelude.{if◌then◌else◌, slice_get}
use Rattle.std.specs.List.{AllByRecursion}
use Rattle.std.proofs.lemmas.List.FromFn.{get_or-map-range_with_len, length-map-range_with_len}
use Rattle.sheet_core.specs.Bitmaps.{Bitmap, IsBitmap, pad, stride}
use Rattle.sheet_core.specs.Laws.{PrintedIsRead}
use Rattle.sheet_core.specs.pbm.Images.{bitmap_of, image_of, images_by, pbm_of, unpadded, unpadded_at, with_first, with_others}
use Rattle.sheet_core.proofs.pbm.ImageFacts.{image_by}
use Rattle.std.specs.Fmt.{decimal}
use Rattle.std.proofs.lemmas.Bool.{cases_eq, ne_eqb}
use Rattle.std.proofs.lemmas.Bool.Decides.{nat_tests}
use Rattle.std.proofs.lemmas.Fmt.{decimal_by_steps, length-decimal-le}
use Rattle.std.proofs.lemmas.List.{append_assoc, append-nil, ext_get_or, length-append}
use Rattle.sheet_core.specs.declared.fault.PbmFault.TheVariants.{PbmHeader, PbmSize}
use Rattle.sheet_core.specs.declared.pbm.state.Size.{Size}
use Rattle.sheet_core.specs.declared.pbm.state.State.{State}
use Rattle.sheet_core.specs.declared.pbm.state.State.TheVariants.{Start, Blanks, Number, Comment}
use Rattle.sheet_core.specs.declared.pbm.state.Step.{Step}
use Rattle.sheet_core.specs.declared.pbm.state.Step.TheVariants.{Goes, Done, Refused}
use Rattle.sheet_core.specs.pbm.Headers.{is_white, is_size, grown, header_step, after_header_step, header_by, header_of, header_text}
use Rattle.element_core.specs.Elements.{is_digit}

digit_tests : (d : ℕ) → d < 10 → (is_white (48 + d) ≡ false) × ((48 + d == 35) ≡ false) × (is_digit (48 + d) ≡ true)
digit_tests d h = (grind (arith, nat_tests), grind (arith, nat_tests), grind (arith, nat_tests))

first_digit : (width : Option ℕ) (d : ℕ) → d < 10 → header_step (Blanks width true) (48 + d) ≡ Goes (Number width d)
first_digit width d h =
    let t = digit_tests d h in
    ap (λ b. if b then Goes (Blanks width true) else if 48 + d == 35 then Goes (Comment width) else if is_digit (48 + d) then Goes (Number width (48 + d - 48))
    else Refused PbmHeader) t.0
    ∙ ap (λ b. if b then Goes (Comment width) else if is_digit (48 + d) then Goes (Number width (48 + d - 48)) else Refused PbmHeader) t.1
    ∙ ap (λ b. if b then Goes (Number width (48 + d - 48)) else Refused PbmHeader) t.2
    ∙ ap (λ n. Goes (Number width n)) (let e : 48 + d - 48 ≡ d = omega arith in e)

next_digit : (width : Option ℕ) (n d : ℕ) → d < 10 → 10 * n + d < 65536 → header_step (Number width n) (48 + d) ≡ Goes (Number width (10 * n + d))
next_digit None n d h small =
    let t = (digit_tests d h).2 in
    ap (λ b. if b then Goes (Number None (grown n (48 + d))) else other) t
    ∙ ap (λ n. Goes (Number None n)) (let e : grown n (48 + d) ≡ 10 * n + d = omega arith in e)
  where
    other : Step
    other = if is_white (48 + d) then (if is_size n then Goes (Blanks (Some n) true) else Refused PbmSize) else if 48 + d == 35 then
        (if is_size n then Goes (Comment (Some n)) else Refused PbmSize) else Refused PbmHeader
next_digit (Some w) n d h small =
    let t = (digit_tests d h).2 in
    ap (λ b. if b then Goes (Number (Some w) (grown n (48 + d))) else if is_white (48 + d) then
    (if is_size n then Done (record { width = w; height = n }) else Refused PbmSize) else Refused PbmHeader) t
    ∙ ap (λ n. Goes (Number (Some w) n)) (let e : grown n (48 + d) ≡ 10 * n + d = omega arith in e)

-- a byte that goes on
go : (limit : ℕ) (s t : State) (b : ℕ) (more : List ℕ) → header_step s b ≡ Goes t → header_by (limit + 1) s (b ∷ more) ≡ header_by limit t more
go limit s t b more e = ap (λ n. header_by n s (b ∷ more)) (add-one limit) ∙ ap (λ x. after_header_step x (λ t. header_by limit t more) more) e

-- the digits of a number are read as the number
record Reads (n : ℕ) (ds : List ℕ) : Type 0 where
  read : n < 65536 → (width : Option ℕ) (limit : ℕ) (more : List ℕ) → header_by (limit + length ds) (Blanks width true) (ds ++ more)
      ≡ header_by limit (Number width n) more

one : (n : ℕ) → n < 10 → Reads n ((48 + n) ∷ [])
one n h = record { read = λ small width limit more. go limit (Blanks width true) (Number width n) (48 + n) more (first_digit width n h) }

more_digits : (n : ℕ) (ds : List ℕ) → 10 ≤ n → Reads (n / 10) ds → Reads n (ds ++ ((48 + n % 10) ∷ []))
more_digits n ds h r = record {
  read = λ small width limit more.
      let d : ℕ = 48 + n % 10 in
      let count : limit + length (ds ++ d ∷ []) ≡ (limit + 1) + length ds = let l = length-append ds (d ∷ []) in omega arith in
      ap₂ (λ k bytes. header_by k (Blanks width true) bytes) count (append_assoc ds (d ∷ []) more)
      ∙ r.read (omega arith) width (limit + 1) (d ∷ more)
      ∙ go limit (Number width (n / 10)) (Number width (10 * (n / 10) + n % 10)) d more (next_digit width (n / 10) (n % 10) (omega arith) (omega arith))
      ∙ ap (λ k. header_by limit (Number width k) more) (let e : 10 * (n / 10) + n % 10 ≡ n = omega arith in e);
}

number_read : (n : ℕ) → n < 65536 → (width : Option ℕ) (limit : ℕ) (more : List ℕ)
    → header_by (limit + length (decimal n)) (Blanks width true) (decimal n ++ more) ≡ header_by limit (Number width n) more
number_read n small = (decimal_by_steps Reads one more_digits n (omega arith)).read small

sized : (n : ℕ) → 1 ≤ n → n < 65536 → is_size n ≡ true
sized n a b = grind (arith, nat_tests)

pub header_read : (width height : ℕ) (rest : List ℕ) → 1 ≤ width → width < 65536 → 1 ≤ height → height < 65536
    → header_by 4096 Start (header_text width height ++ rest) ≡ (Ok (record { width = width; height = height }), rest)
header_read width height rest a b c d =
    let lw : length (decimal width) ≤ 5 = length-decimal-le 5 width (omega arith) (omega arith) (omega arith) in
    let lh : length (decimal height) ≤ 5 = length-decimal-le 5 height (omega arith) (omega arith) (omega arith) in
    let tail : List ℕ = 32 ∷ (decimal height ++ 10 ∷ rest) in
    let left : ℕ = 4093 - length (decimal width) in
    let left2 : ℕ = left - 1 - length (decimal height) in
    let bytes : (decimal width ++ 32 ∷ (decimal height ++ 10 ∷ [])) ++ rest ≡ decimal width ++ tail =
    append_assoc (decimal width) (32 ∷ (decimal height ++ 10 ∷ [])) rest ∙ ap (λ bs. decimal width ++ 32 ∷ bs) (append_assoc (decimal height) (10 ∷ []) rest) in
    ap (λ bs. header_by 4093 (Blanks None true) bs) bytes
    ∙ ap (λ n. header_by n (Blanks None true) (decimal width ++ tail)) (let e : 4093 ≡ left + length (decimal width) = omega arith in e)
    ∙ number_read width b None left tail
    ∙ ap (λ n. header_by n (Number None width) tail) (let e : left ≡ (left - 1) + 1 = omega arith in e)
    ∙ go (left - 1) (Number None width) (Blanks (Some width) true) 32 (decimal height ++ 10 ∷ rest)
    (ap (λ x. if x then Goes (Blanks (Some width) true) else Refused PbmSize) (sized width a b))
    ∙ ap (λ n. header_by n (Blanks (Some width) true) (decimal height ++ 10 ∷ rest)) (let e : left - 1 ≡ left2 + length (decimal height) = omega arith in e)
    ∙ number_read height d (Some width) left2 (10 ∷ rest)
    ∙ ap (λ n. header_by n (Number (Some width) height) (10 ∷ rest)) (let e : left2 ≡ suc (left2 - 1) = omega arith in e)
    ∙ ap (λ x. after_header_step (if x then Done (record { width = width; height = height }) else Refused PbmSize) (λ t. header_by (left2 - 1) t rest) rest)
    (sized height c d)

-- ---- images

-- rows without pad bits stay as they are
same_at : (s : Bitmap) → IsBitmap s → (i : ℕ) → i < length s.bytes → unpadded_at s.width s.bytes i ≡ get_or s.bytes i 0
same_at s h i low =
    elim (cases_eq ((i + 1) % stride s.width) 0) [
      | inl last ↦
          let none = h.padded i low last in
          ap (λ b. if b then get_or s.bytes i 0 - get_or s.bytes i 0 % 2 ^ pad s.width else get_or s.bytes i 0) (eq-eqb _ _ last) ∙ (omega arith)
      | inr other ↦ ap (λ b. if b then get_or s.bytes i 0 - get_or s.bytes i 0 % 2 ^ pad s.width else get_or s.bytes i 0) (ne_eqb _ _ other)
    ]

same_bytes : (s : Bitmap) → IsBitmap s → unpadded s.width s.bytes ≡ s.bytes
same_bytes s h =
    let n = length-map-range_with_len (unpadded_at s.width s.bytes) 0 (length s.bytes) in
    ext_get_or 0 (unpadded s.width s.bytes) s.bytes n (λ i k.
    let low : i < length s.bytes = omega arith in
    get_or-map-range_with_len (unpadded_at s.width s.bytes) 0 (length s.bytes) i i 0 low (omega arith) ∙ same_at s h i low)

pub images_read : (limit : ℕ) (sheets : List Bitmap) → AllByRecursion IsBitmap sheets → length sheets ≤ limit → images_by limit (pbm_of sheets)
    ≡ (Ok sheets, [])
images_read zero [] h few = refl
images_read (suc limit) [] h few = refl
images_read zero (s ∷ sheets) h few = absurd (omega arith)
images_read (suc limit) (s ∷ sheets) h few =
    let b = h.0 in
    let w1 = b.width_least in let w2 = b.width_most in let h1 = b.height_least in let h2 = b.height_most in
    let size : Size = record { width = s.width; height = s.height } in
    let head : List ℕ = header_text s.width s.height in
    let known : header_of head ≡ (Ok size, []) =
    ap header_of (sym (append-nil head)) ∙ header_read s.width s.height [] (omega arith) (omega arith) (omega arith) (omega arith) in
    let first : image_of (head ++ (s.bytes ++ pbm_of sheets)) ≡ (Ok (bitmap_of size s.bytes), pbm_of sheets) =
    image_by head s.bytes (pbm_of sheets) size known b.count in
    let same : bitmap_of size s.bytes ≡ s = ap (λ (bytes : List ℕ). made s.width s.height bytes) (same_bytes s b) in
    ap (images_by (suc limit)) (append_assoc head s.bytes (pbm_of sheets))
    ∙ ap (with_others (images_by limit)) first
    ∙ ap (with_first (bitmap_of size s.bytes)) (images_read limit sheets h.1 (omega arith))
    ∙ ap (λ x. (Ok (x ∷ sheets), [])) same
  where
    made : ℕ → ℕ → List ℕ → Bitmap
    made width height bytes = record { width = width; height = height; bytes = bytes }

all_of : {X : Type 0} (P : X → Type 0) (xs : List X) → ((i : ℕ) (x : X) → slice_get xs i ≡ Some x → P x) → AllByRecursion P xs
all_of P [] h = tt
all_of P (x ∷ xs) h = (h 0 x refl, all_of P xs (λ i y e. h (suc i) y e))

pub printed_is_read : PrintedIsRead
printed_is_read labels g sheets printed few = images_read 4096 sheets (all_of IsBitmap sheets (λ i s at. (printed.shown.each i s at).bitmap)) few
