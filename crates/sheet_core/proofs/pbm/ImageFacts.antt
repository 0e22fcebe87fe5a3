-- An image that is read: its header, and then its rows.
use Rattle.std.proofs.Common.{◌≡◌, ℕ, zero, suc, ◌*◌, ◌%◌, ◌^◌, ◌<◌, ◌≤◌, nat_le, IsTrue, List, [], ◌∷◌, ◌++◌, Option, Result, Ok, Err, length, take, drop, refl, sym, ap, ap₂, ◌∙◌, inl, inr, arith}
use Rattle.std.specs.Prelude.{IsErr, IsErrAnd, if◌then◌else◌}
use Rattle.std.specs.Io.KnownBytes.{Consumes}
use Rattle.std.proofs.KnownBytes.{Consumes-trans}
use Rattle.std.proofs.lemmas.Bool.{cases_lt, le-ltb, leb-true, lt-ltb, and_parts}
use Rattle.std.proofs.lemmas.List.{append-nil, drop_at, length-append, length-drop, take_all, take_at}
use Rattle.std.proofs.lemmas.List.FromFn.{get_or-map-range_with_len, length-map-range_with_len}
use Rattle.sheet_core.specs.declared.fault.PbmFault.{PbmFault}
use Rattle.sheet_core.specs.declared.fault.PbmFault.TheVariants.{NotP4, PbmHeader, Truncated, PbmSize, ReadFault, NoMemory}
use Rattle.sheet_core.specs.declared.pbm.state.Size.{Size}
use Rattle.sheet_core.specs.declared.pbm.state.State.{State}
use Rattle.sheet_core.specs.declared.pbm.state.State.TheVariants.{Start}
use Rattle.sheet_core.specs.declared.pbm.state.Step.{Step}
use Rattle.sheet_core.specs.declared.pbm.state.Step.TheVariants.{Goes, Done, Refused}
use Rattle.sheet_core.specs.Bitmaps.{Bitmap, IsBitmap, pad, stride}
use Rattle.sheet_core.specs.pbm.Headers.{after_header_step, header_by, header_of, header_step, is_size}
use Rattle.sheet_core.specs.pbm.Images.{IsOpen, ReadsBytes, bitmap_of, image_of, raster, unpadded, unpadded_at}
use Rattle.sheet_core.specs.inner.Images.{StopsBefore}
use Rattle.sheet_core.proofs.pbm.PadFacts.{cleared_at}

-- ---- bytes after a header

not_read : (f : PbmFault) (size : Size) → (let r : Result Size PbmFault = Err f in r ≡ Ok size) → ⊥
not_read f size e = cc

-- one step, whatever follows
step_more : (go wide : State → Result Size PbmFault × List ℕ) (bs rest more : List ℕ) (size : Size)
    → ((t : State) → go t ≡ (Ok size, rest) → wide t ≡ (Ok size, rest ++ more)) → (s : Step)
    → after_header_step s go bs ≡ (Ok size, rest) → after_header_step s wide (bs ++ more) ≡ (Ok size, rest ++ more)
step_more go wide bs rest more size hyp (Goes t) e = hyp t e
step_more go wide bs rest more size hyp (Done other) e =
    ap₂ (λ r bs. (r, bs ++ more)) (ap (λ (p : Result Size PbmFault × List ℕ). p.0) e) (ap (λ (p : Result Size PbmFault × List ℕ). p.1) e)
step_more go wide bs rest more size hyp (Refused f) e = absurd (not_read f size (ap (λ (p : Result Size PbmFault × List ℕ). p.0) e))

by_more : (limit : ℕ) (s : State) (bytes rest more : List ℕ) (size : Size) → header_by limit s bytes ≡ (Ok size, rest) → header_by limit s (bytes ++ more)
    ≡ (Ok size, rest ++ more)
by_more limit s [] rest more size e = absurd (not_read Truncated size (ap (λ (p : Result Size PbmFault × List ℕ). p.0) e))
by_more zero s (b ∷ bytes) rest more size e = absurd (not_read PbmHeader size (ap (λ (p : Result Size PbmFault × List ℕ). p.0) e))
by_more (suc limit) s (b ∷ bytes) rest more size e =
    step_more (λ t. header_by limit t bytes) (λ t. header_by limit t (bytes ++ more)) bytes rest more size (λ t h. by_more limit t bytes rest more size h)
    (header_step s b) e

pub header_more : (bytes more : List ℕ) (size : Size) → header_of bytes ≡ (Ok size, []) → header_of (bytes ++ more) ≡ (Ok size, more)
header_more bytes more size e = by_more 4096 Start bytes [] more size e

-- ---- an image by its header and its rows

abbrev pub count : Size → ℕ
count size = stride size.width * size.height

-- all rows of an image, and what follows them
pub whole_raster : (size : Size) (rows more : List ℕ) → length rows ≡ stride size.width * size.height
    → raster (Ok size, rows ++ more) ≡ (Ok (bitmap_of size rows), more)
whole_raster size rows more long =
    ap (λ t. if t then (Err Truncated, []) else (Ok (bitmap_of size (take (count size) (rows ++ more))), drop (count size) (rows ++ more)))
    (le-ltb (length (rows ++ more)) (count size) (let l = length-append rows more in omega arith))
    ∙ ap₂ (λ t d. (Ok (bitmap_of size t), d)) (take_at rows more (count size) long) (drop_at rows more (count size) long)

pub image_by : (head rows more : List ℕ) (size : Size) → header_of head ≡ (Ok size, []) → length rows ≡ stride size.width * size.height
    → image_of (head ++ (rows ++ more)) ≡ (Ok (bitmap_of size rows), more)
image_by head rows more size h long = ap raster (header_more head (rows ++ more) size h) ∙ whole_raster size rows more long

-- some rows of it
pub short_raster : (size : Size) (rows : List ℕ) → length rows < stride size.width * size.height → raster (Ok size, rows) ≡ (Err Truncated, [])
short_raster size rows few =
    ap (λ t. if t then (Err Truncated, []) else (Ok (bitmap_of size (take (count size) rows)), drop (count size) rows))
    (lt-ltb (length rows) (count size) few)

pub image_short : (head rows : List ℕ) (size : Size) → header_of head ≡ (Ok size, []) → length rows < stride size.width * size.height → image_of (head ++ rows)
    ≡ (Err Truncated, [])
image_short head rows size h few = ap raster (header_more head rows size h) ∙ short_raster size rows few

pub image_open : (head rows : List ℕ) (size : Size) → header_of head ≡ (Ok size, []) → length rows ≤ stride size.width * size.height
    → IsOpen (image_of (head ++ rows))
image_open head rows size h few =
    elim (cases_lt (length rows) (count size)) [
      | inl short ↦ inl (image_short head rows size h short)
      | inr full ↦
          let all = image_by head rows [] size h (omega arith) in
          inr (bitmap_of size rows, ap (λ bs. image_of (head ++ bs)) (sym (append-nil rows)) ∙ all)
    ]

-- what an image that begins with this byte is
abbrev pub image_told : ℕ → List ℕ → Result Bitmap PbmFault × List ℕ
image_told first bytes = image_of (first ∷ bytes)

abbrev head_told : ℕ → List ℕ → Result Size PbmFault × List ℕ
head_told first bytes = header_of (first ∷ bytes)

pub image_read : (old mid new : Option (List ℕ)) (first : ℕ) (size : Size) (rows : List ℕ) → ReadsBytes (head_told first) old mid (Ok size)
    → Consumes mid new rows → length rows ≡ stride size.width * size.height
    → ReadsBytes (image_told first) old new (Ok (bitmap_of size rows))
image_read old mid new first size rows h c long = record {
  bytes = h.bytes ++ rows;
  consumed = Consumes-trans old mid new h.bytes rows h.consumed c;
  tells = ap (λ bs. image_of (first ∷ (h.bytes ++ bs))) (sym (append-nil rows)) ∙ image_by (first ∷ h.bytes) rows [] size h.tells long;
}

pub image_stopped : (old mid new : Option (List ℕ)) (first : ℕ) (size : Size) (f : PbmFault) → ReadsBytes (head_told first) old mid (Ok size)
    → StopsBefore (stride size.width * size.height) mid new f
    → ReadsBytes (image_told first) old new (Err f)
image_stopped old mid new first size Truncated h s = record {
  bytes = h.bytes ++ s.0;
  consumed = Consumes-trans old mid new h.bytes s.0 h.consumed s.1;
  tells = (image_short (first ∷ h.bytes) s.0 size h.tells s.2, s.3);
}
image_stopped old mid new first size ReadFault h s = record {
  bytes = h.bytes ++ s.0;
  consumed = Consumes-trans old mid new h.bytes s.0 h.consumed s.1;
  tells = image_open (first ∷ h.bytes) s.0 size h.tells s.2;
}
image_stopped old mid new first size NoMemory h s = record {
  bytes = h.bytes ++ s.0;
  consumed = Consumes-trans old mid new h.bytes s.0 h.consumed s.1;
  tells = image_open (first ∷ h.bytes) s.0 size h.tells s.2;
}
image_stopped old mid new first size NotP4 h s = absurd s
image_stopped old mid new first size PbmHeader h s = absurd s
image_stopped old mid new first size PbmSize h s = absurd s

-- rows of a size, without pad bits, are a bitmap
pub bitmap_of_rows : (size : Size) (rows : List ℕ) → IsTrue (is_size size.width) → IsTrue (is_size size.height) → length rows ≡ stride size.width * size.height
    → IsBitmap (record { width = size.width; height = size.height; bytes = unpadded size.width rows })
bitmap_of_rows size rows w h long =
    let ws = and_parts (nat_le 1 size.width) (nat_le size.width 65535) w in
    let hs = and_parts (nat_le 1 size.height) (nat_le size.height 65535) h in
    let n = length-map-range_with_len (unpadded_at size.width rows) 0 (length rows) in
    record {
      width_least = leb-true 1 size.width ws.0;
      width_most = leb-true size.width 65535 ws.1;
      height_least = leb-true 1 size.height hs.0;
      height_most = leb-true size.height 65535 hs.1;
      count = n ∙ long;
      padded = λ i low last.
          let below : i < length rows = omega arith in
          ap (λ v. v % 2 ^ pad size.width) (get_or-map-range_with_len (unpadded_at size.width rows) 0 (length rows) i i 0 below (omega arith))
          ∙ cleared_at size.width rows i below last;
    }

-- what `?` hands on
pub err_is : {A E : Type 0} (r : Result A E) (f : E) → IsErr r → IsErrAnd r (λ y. y ≡ f) → r ≡ Err f
err_is (Ok x) f h k = absurd k
err_is (Err y) f h k = ap (λ e. Err e) k

-- ---- bytes after an image

pub raster_more : (h : Result Size PbmFault × List ℕ) (s : Bitmap) (rest more : List ℕ) → raster h ≡ (Ok s, rest)
    → (size : Size) × (bytes : List ℕ) × (h ≡ (Ok size, bytes)) × (stride size.width * size.height ≤ length bytes)
    × (s ≡ bitmap_of size (take (stride size.width * size.height) bytes)) × (rest ≡ drop (stride size.width * size.height) bytes)
raster_more (Err f, bytes) s rest more e = absurd (no_bitmap f s (ap (λ (p : Result Bitmap PbmFault × List ℕ). p.0) e))
  where
    no_bitmap : (f : PbmFault) (s : Bitmap) → (let r : Result Bitmap PbmFault = Err f in r ≡ Ok s) → ⊥
    no_bitmap f s e = cc
raster_more (Ok size, bytes) s rest more e =
    elim (cases_lt (length bytes) (count size)) [
      | inl short ↦
          absurd (no_bitmap s (ap (λ (p : Result Bitmap PbmFault × List ℕ). p.0)
          (sym (ap (λ t. if t then (Err Truncated, []) else (Ok (bitmap_of size (take (count size) bytes)), drop (count size) bytes))
          (lt-ltb (length bytes) (count size) short)) ∙ e)))
      | inr enough ↦
          let all : (let r : Result Bitmap PbmFault × List ℕ = (Ok (bitmap_of size (take (count size) bytes)), drop (count size) bytes) in r ≡ (Ok s, rest)) =
          sym (ap (λ t. if t then (Err Truncated, []) else (Ok (bitmap_of size (take (count size) bytes)), drop (count size) bytes))
          (le-ltb (length bytes) (count size) enough)) ∙ e in
          let one = ap (λ (p : Result Bitmap PbmFault × List ℕ). p.0) all in
          (size, bytes, refl, enough, sym (same_ok _ _ one), sym (ap (λ (p : Result Bitmap PbmFault × List ℕ). p.1) all))
    ]
  where
    no_bitmap : (s : Bitmap) → (let r : Result Bitmap PbmFault = Err Truncated in r ≡ Ok s) → ⊥
    no_bitmap s e = cc

    same_ok : (a b : Bitmap) → (let r : Result Bitmap PbmFault = Ok a in r ≡ Ok b) → a ≡ b
    same_ok a b e = cc

-- an image is the same whatever follows it
pub image_wider : (bytes more : List ℕ) (s : Bitmap) → image_of bytes ≡ (Ok s, []) → image_of (bytes ++ more) ≡ (Ok s, more)
image_wider bytes more s e =
    let h = raster_more (header_of bytes) s [] more e in
    let size : Size = h.0 in
    let rows : List ℕ = h.1 in
    let n : ℕ = count size in
    let none : length (drop n rows) ≡ 0 = ap length (sym h.5) in
    let long : length rows ≡ n = let d = length-drop n rows in let enough = h.3 in omega arith in
    let all : take n rows ≡ rows = take_all n rows (omega arith) in
    ap raster (by_more 4096 Start bytes rows more size h.2)
    ∙ ap (λ t. if t then (Err Truncated, []) else (Ok (bitmap_of size (take n (rows ++ more))), drop n (rows ++ more)))
    (le-ltb (length (rows ++ more)) n (let l = length-append rows more in omega arith))
    ∙ ap₂ (λ t d. (Ok (bitmap_of size t), d)) (take_at rows more n long) (drop_at rows more n long)
    ∙ ap (λ b. (Ok b, more)) (sym (h.4 ∙ ap (bitmap_of size) all))
