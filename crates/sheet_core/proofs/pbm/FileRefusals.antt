-- What is refused as a file is what the grammar refuses.
use Rattle.std.proofs.Common.{◌≡◌, ◌⊎◌, ℕ, zero, suc, ◌*◌, ◌<◌, List, [], ◌∷◌, ◌++◌, length, take, drop, Result, Ok, Err, refl, sym, ap, subst, ◌∙◌, inl, inr, arith}
use Rattle.std.specs.Prelude.{if◌then◌else◌}
use Rattle.std.specs.List.{AllZip, concat}
use Rattle.std.proofs.lemmas.Bool.{cases_lt, le-ltb, lt-ltb}
use Rattle.std.proofs.lemmas.List.{append-nil, append_assoc}
use Rattle.sheet_core.specs.declared.fault.PbmFault.{PbmFault}
use Rattle.sheet_core.specs.declared.fault.PbmFault.TheVariants.{NotP4, PbmHeader, Truncated, PbmSize, ReadFault, NoMemory}
use Rattle.sheet_core.specs.declared.pbm.state.Size.{Size}
use Rattle.sheet_core.specs.Bitmaps.{Bitmap, stride}
use Rattle.sheet_core.specs.Laws.{FilesAreRefused}
use Rattle.sheet_core.specs.pbm.Grammar.{IsImage}
use Rattle.sheet_core.specs.pbm.Headers.{header_of}
use Rattle.sheet_core.specs.pbm.Images.{bitmap_of, image_of, images_by, raster, with_first, with_others}
use Rattle.sheet_core.specs.pbm.Refusals.{EndsInRows, RefusesHeader, RefusesImage}
use Rattle.sheet_core.proofs.pbm.FilePieces.{OneImage, image_first, one_image}
use Rattle.sheet_core.proofs.pbm.GrammarFacts.{grammar_read}
use Rattle.sheet_core.proofs.pbm.HeaderFronts.{header_front}
use Rattle.sheet_core.proofs.pbm.HeaderRefusals.{headers_are_refused, refuses}
use Rattle.sheet_core.proofs.pbm.ImageFacts.{image_short}

-- ---- one image

same_sheet_fault : (f g : PbmFault) (xs ys : List ℕ) → (let r : Result Bitmap PbmFault × List ℕ = (Err f, xs) in r ≡ (Err g, ys)) → (f ≡ g) × (xs ≡ ys)
same_sheet_fault f g xs ys e = (same f g (ap (λ (p : Result Bitmap PbmFault × List ℕ). p.0) e), ap (λ (p : Result Bitmap PbmFault × List ℕ). p.1) e)
  where
    same : (f g : PbmFault) → (let r : Result Bitmap PbmFault = Err f in r ≡ Err g) → f ≡ g
    same f g e = cc

sheet_or_fault : (s : Bitmap) (f : PbmFault) (xs ys : List ℕ) → (let r : Result Bitmap PbmFault × List ℕ = (Ok s, xs) in r ≡ (Err f, ys)) → ⊥
sheet_or_fault s f xs ys e = no s f (ap (λ (p : Result Bitmap PbmFault × List ℕ). p.0) e)
  where
    no : (s : Bitmap) (f : PbmFault) → (let r : Result Bitmap PbmFault = Ok s in r ≡ Err f) → ⊥
    no s f e = cc

of_header : (f : PbmFault) (bytes : List ℕ) → RefusesHeader f bytes → RefusesImage f bytes
of_header NotP4 bytes h = h
of_header PbmHeader bytes h = h
of_header Truncated bytes h = inl h
of_header PbmSize bytes h = h
of_header ReadFault bytes h = h
of_header NoMemory bytes h = h

image_told : (f : PbmFault) (bytes : List ℕ) (h : Result Size PbmFault × List ℕ) → header_of bytes ≡ h → raster h ≡ (Err f, []) → RefusesImage f bytes
image_told f bytes (Err g, rest) is e =
    let p = same_sheet_fault g f rest [] e in
    of_header f bytes ((headers_are_refused f bytes).0 (is ∙ ap (λ x. (Err x, rest)) p.0 ∙ ap (λ bs. (Err f, bs)) p.1))
image_told f bytes (Ok size, rest) is e =
    let n : ℕ = stride size.width * size.height in
    elim (cases_lt (length rest) n) [
      | inl few ↦
          let p = same_sheet_fault Truncated f [] [] (sym (ap (λ t. if t then (Err Truncated, []) else (Ok (bitmap_of size (take n rest)), drop n rest))
          (lt-ltb (length rest) n few)) ∙ e) in
          let front = header_front size bytes rest is in
          subst (λ x. RefusesImage x bytes) p.0 (inr (record
          { size = size; header = front.header; rows = rest; header_is = front.is; short = front.short; few = few; joined = front.joined }))
      | inr enough ↦
          absurd (sheet_or_fault (bitmap_of size (take n rest)) f (drop n rest) []
          (sym (ap (λ t. if t then (Err Truncated, []) else (Ok (bitmap_of size (take n rest)), drop n rest)) (le-ltb (length rest) n enough)) ∙ e))
    ]

rows_refused : (bytes : List ℕ) → EndsInRows bytes → image_of bytes ≡ (Err Truncated, [])
rows_refused bytes h =
    let known : header_of h.header ≡ (Ok h.size, []) = ap header_of (sym (append-nil h.header)) ∙ grammar_read h.header [] h.size h.header_is h.short in
    ap image_of h.joined ∙ image_short h.header h.rows h.size known h.few

image_refused : (f : PbmFault) (bytes : List ℕ) → RefusesImage f bytes → image_of bytes ≡ (Err f, [])
image_refused NotP4 bytes h = ap raster (refuses NotP4 bytes h)
image_refused PbmHeader bytes h = ap raster (refuses PbmHeader bytes h)
image_refused PbmSize bytes h = ap raster (refuses PbmSize bytes h)
image_refused Truncated bytes (inl h) = ap raster (refuses Truncated bytes h)
image_refused Truncated bytes (inr h) = rows_refused bytes h
image_refused ReadFault bytes h = absurd h
image_refused NoMemory bytes h = absurd h

-- ---- a file of this many images at most

record RefusesWithin (limit : ℕ) (f : PbmFault) (bytes : List ℕ) : Type 0 where
  images : List (List ℕ)
  sheets : List Bitmap
  last : List ℕ
  images_are : AllZip IsImage images sheets
  some : 0 < length last
  refused : ((length sheets < limit) × RefusesImage f last) ⊎ ((length sheets ≡ limit) × (f ≡ PbmSize) × (length last ≡ 1))
  joined : bytes ≡ concat images ++ last

same_fault : (f g : PbmFault) (xs ys : List ℕ) → (let r : Result (List Bitmap) PbmFault × List ℕ = (Err f, xs) in r ≡ (Err g, ys)) → (f ≡ g) × (xs ≡ ys)
same_fault f g xs ys e = (same f g (ap (λ (p : Result (List Bitmap) PbmFault × List ℕ). p.0) e), ap (λ (p : Result (List Bitmap) PbmFault × List ℕ). p.1) e)
  where
    same : (f g : PbmFault) → (let r : Result (List Bitmap) PbmFault = Err f in r ≡ Err g) → f ≡ g
    same f g e = cc

sheets_or_fault : (ss : List Bitmap) (f : PbmFault) (xs ys : List ℕ) → (let r : Result (List Bitmap) PbmFault × List ℕ = (Ok ss, xs) in r ≡ (Err f, ys)) → ⊥
sheets_or_fault ss f xs ys e = no ss f (ap (λ (p : Result (List Bitmap) PbmFault × List ℕ). p.0) e)
  where
    no : (ss : List Bitmap) (f : PbmFault) → (let r : Result (List Bitmap) PbmFault = Ok ss in r ≡ Err f) → ⊥
    no ss f e = cc

-- the fault of the others is that of the file
of_others : (s : Bitmap) (r : Result (List Bitmap) PbmFault × List ℕ) (f : PbmFault) → with_first s r ≡ (Err f, []) → r ≡ (Err f, [])
of_others s (Ok ss, rest) f e = absurd (sheets_or_fault (s ∷ ss) f rest [] e)
of_others s (Err g, rest) f e = e

after_first : (limit : ℕ) (f : PbmFault) (bytes rest : List ℕ) (s : Bitmap) → OneImage bytes rest s → RefusesWithin limit f rest
    → RefusesWithin (suc limit) f bytes
after_first limit f bytes rest s one h = record {
  images = one.image ∷ h.images;
  sheets = s ∷ h.sheets;
  last = h.last;
  images_are = (one.is, h.images_are);
  some = h.some;
  refused = elim h.refused [
    | inl r ↦ inl (let k = r.0 in omega arith, r.1)
    | inr r ↦ inr (let k = r.0 in omega arith, r.1, r.2)
  ];
  joined = one.joined ∙ ap (λ bs. one.image ++ bs) h.joined ∙ sym (append_assoc one.image (concat h.images) h.last);
}

with_image : (limit b : ℕ) (bytes : List ℕ) (f : PbmFault) (r : Result Bitmap PbmFault × List ℕ) → image_of (b ∷ bytes) ≡ r
    → ((rest : List ℕ) → images_by limit rest ≡ (Err f, []) → RefusesWithin limit f rest) → with_others (images_by limit) r ≡ (Err f, [])
    → RefusesWithin (suc limit) f (b ∷ bytes)
with_image limit b bytes f (Err g, rest) is hyp e =
    let p = same_fault g f rest [] e in
    record {
      images = [];
      sheets = [];
      last = b ∷ bytes;
      images_are = tt;
      some = omega arith;
      refused = inl (omega arith, image_told f (b ∷ bytes) (header_of (b ∷ bytes)) refl (is ∙ ap (λ x. (Err x, rest)) p.0 ∙ ap (λ bs. (Err f, bs)) p.1));
      joined = refl;
    }
with_image limit b bytes f (Ok s, rest) is hyp e = after_first limit f (b ∷ bytes) rest s (one_image (b ∷ bytes) rest s is)
    (hyp rest (of_others s (images_by limit rest) f e))

told : (limit : ℕ) (f : PbmFault) (bytes : List ℕ) → images_by limit bytes ≡ (Err f, []) → RefusesWithin limit f bytes
told limit f [] e = absurd (sheets_or_fault [] f [] [] e)
told zero f (b ∷ bytes) e =
    let p = same_fault PbmSize f bytes [] e in
    record {
      images = [];
      sheets = [];
      last = b ∷ bytes;
      images_are = tt;
      some = omega arith;
      refused =
          inr (refl, sym p.0, ap (λ (bs : List ℕ). length (b ∷ bs)) p.1);
      joined = refl;
    }
told (suc limit) f (b ∷ bytes) e = with_image limit b bytes f (image_of (b ∷ bytes)) refl (λ rest k. told limit f rest k) e

last_refused : (limit : ℕ) (f : PbmFault) (last : List ℕ) → 0 < length last → (((length {A = Bitmap} []) < limit) × RefusesImage f last)
    ⊎ (((length {A = Bitmap} []) ≡ limit) × (f ≡ PbmSize) × (length last ≡ 1))
    → images_by limit last ≡ (Err f, [])
last_refused limit f [] some h = absurd (omega arith)
last_refused zero f (b ∷ []) some (inr h) = ap (λ x. (Err x, [])) (sym h.1)
last_refused zero f (b ∷ c ∷ bytes) some (inr h) = absurd (let k = h.2 in omega arith)
last_refused zero f (b ∷ bytes) some (inl h) = absurd (let k = h.0 in omega arith)
last_refused (suc limit) f (b ∷ bytes) some (inl h) = ap (with_others (images_by limit)) (image_refused f (b ∷ bytes) h.1)
last_refused (suc limit) f (b ∷ bytes) some (inr h) = absurd (let k = h.0 in omega arith)

refused : (limit : ℕ) (f : PbmFault) (images : List (List ℕ)) (sheets : List Bitmap) (last : List ℕ) → AllZip IsImage images sheets → 0 < length last
    → ((length sheets < limit) × RefusesImage f last) ⊎ ((length sheets ≡ limit) × (f ≡ PbmSize) × (length last ≡ 1)) → images_by limit (concat images ++ last)
    ≡ (Err f, [])
refused limit f [] [] last are some h = last_refused limit f last some h
refused limit f [] (s ∷ sheets) last are some h = absurd are
refused limit f (i ∷ images) [] last are some h = absurd are
refused zero f (i ∷ images) (s ∷ sheets) last are some (inl h) = absurd (let k = h.0 in omega arith)
refused zero f (i ∷ images) (s ∷ sheets) last are some (inr h) = absurd (let k = h.0 in omega arith)
refused (suc limit) f (i ∷ images) (s ∷ sheets) last are some h =
    ap (images_by (suc limit)) (append_assoc i (concat images) last)
    ∙ image_first limit i (concat images ++ last) s are.0
    ∙ ap (with_first s) (refused limit f images sheets last are.1 some (elim h [
      | inl r ↦ inl (let k = r.0 in omega arith, r.1)
      | inr r ↦ inr (let k = r.0 in omega arith, r.1, r.2)
    ]))

pub files_are_refused : FilesAreRefused
files_are_refused = λ f bytes. (
  λ e. let h = told 4096 f bytes e in record {
    images = h.images;
    sheets = h.sheets;
    last = h.last;
    images_are = h.images_are;
    some = h.some;
    refused =
        h.refused;
    joined = h.joined;
  },
  λ h. ap (images_by 4096) h.joined ∙ refused 4096 f h.images h.sheets h.last h.images_are h.some h.refused,
)
