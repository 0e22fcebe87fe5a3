-- Headers and files that are read are those by their pieces.
use Rattle.std.proofs.Common.{◌≡◌, ℕ, zero, suc, ◌+◌, ◌*◌, ◌≤◌, List, [], ◌∷◌, ◌++◌, length, take, Result, Ok, Err, refl, sym, ap, subst, ◌∙◌, arith}
use Rattle.std.specs.List.{AllZip, concat}
use Rattle.std.proofs.lemmas.List.{append-nil, append_assoc, length-take-le, take-append-drop}
use Rattle.sheet_core.specs.declared.fault.PbmFault.{PbmFault}
use Rattle.sheet_core.specs.declared.fault.PbmFault.TheVariants.{PbmSize}
use Rattle.sheet_core.specs.declared.pbm.state.Size.{Size}
use Rattle.sheet_core.specs.Bitmaps.{Bitmap, stride}
use Rattle.sheet_core.specs.Laws.{FilesAreRead, HeadersAreRead, OneListOfSheets}
use Rattle.sheet_core.specs.pbm.Grammar.{IsHeader, IsImage}
use Rattle.sheet_core.specs.pbm.Headers.{header_of}
use Rattle.sheet_core.specs.pbm.Images.{bitmap_of, image_of, images_by, with_first, with_others}
use Rattle.sheet_core.proofs.pbm.GrammarFacts.{grammar_read}
use Rattle.sheet_core.proofs.pbm.HeaderFronts.{header_front}
use Rattle.sheet_core.proofs.pbm.ImageFacts.{image_by, raster_more}

pub headers_are_read : HeadersAreRead
headers_are_read bytes size = (
  λ read.
      let f = header_front size (bytes ++ []) [] (read []) in
      let same : f.header ≡ bytes = sym (append-nil f.header) ∙ sym f.joined ∙ append-nil bytes in
      (subst (λ bs. IsHeader bs size) same f.is, subst (λ bs. length bs ≤ 4096) same f.short),
  λ h rest. grammar_read bytes rest size h.0 h.1,
)

-- an image that is read
pub record OneImage (bytes rest : List ℕ) (s : Bitmap) : Type 0 where
  pub image : List ℕ
  pub joined : bytes ≡ image ++ rest
  pub is : IsImage image s

pub one_image : (bytes rest : List ℕ) (s : Bitmap) → image_of bytes ≡ (Ok s, rest) → OneImage bytes rest s
one_image bytes rest s e =
    let h = raster_more (header_of bytes) s rest [] e in
    let size : Size = h.0 in
    let tail : List ℕ = h.1 in
    let n : ℕ = stride size.width * size.height in
    let f = header_front size bytes tail h.2 in
    let split : tail ≡ take n tail ++ rest = sym (take-append-drop n tail) ∙ ap (λ bs. take n tail ++ bs) (sym h.5) in
    record {
      image = f.header ++ take n tail;
      joined = f.joined ∙ ap (λ bs. f.header ++ bs) split ∙ sym (append_assoc f.header (take n tail) rest);
      is = record {
        size = size;
        header = f.header;
        rows = take n tail;
        header_is = f.is;
        short = f.short;
        count = length-take-le n tail h.3;
        joined = refl;
        shown = h.4;
      };
    }

no_sheets : (f : PbmFault) (sheets : List Bitmap) → (let r : Result (List Bitmap) PbmFault = Err f in r ≡ Ok sheets) → ⊥
no_sheets f sheets e = cc

read_sheets : (a b : List Bitmap) → (let r : Result (List Bitmap) PbmFault = Ok a in r ≡ Ok b) → a ≡ b
read_sheets a b e = cc

-- the images of a file that is read
record Images (bytes : List ℕ) (limit : ℕ) (sheets : List Bitmap) : Type 0 where
  images : List (List ℕ)
  joined : bytes ≡ concat images
  each : AllZip IsImage images sheets
  few : length sheets ≤ limit

with_rest : (limit : ℕ) (bytes rest : List ℕ) (s : Bitmap) (sheets : List Bitmap) (others : Result (List Bitmap) PbmFault × List ℕ)
    → OneImage bytes rest s → ((ss : List Bitmap) → others ≡ (Ok ss, []) → Images rest limit ss) → with_first s others ≡ (Ok sheets, [])
    → Images bytes (limit + 1) sheets
with_rest limit bytes rest s sheets (Err f, tail) one hyp e = absurd (no_sheets f sheets (ap (λ (p : Result (List Bitmap) PbmFault × List ℕ). p.0) e))
with_rest limit bytes rest s sheets (Ok ss, tail) one hyp e =
    let same : s ∷ ss ≡ sheets = read_sheets (s ∷ ss) sheets (ap (λ (p : Result (List Bitmap) PbmFault × List ℕ). p.0) e) in
    let none : tail ≡ [] = ap (λ (p : Result (List Bitmap) PbmFault × List ℕ). p.1) e in
    let more = hyp ss (ap (λ bs. (Ok ss, bs)) none) in
    subst (Images bytes (limit + 1)) same (record {
      images = one.image ∷ more.images;
      joined = one.joined ∙ ap (λ bs. one.image ++ bs) more.joined;
      each = (one.is, more.each);
      few = (let few = more.few in omega arith);
    })

with_image : (limit : ℕ) (bytes : List ℕ) (sheets : List Bitmap) (first : Result Bitmap PbmFault × List ℕ)
    → ((rest : List ℕ) (s : Bitmap) → first ≡ (Ok s, rest) → OneImage bytes rest s)
    → ((rest : List ℕ) (ss : List Bitmap) → images_by limit rest ≡ (Ok ss, []) → Images rest limit ss)
    → with_others (images_by limit) first ≡ (Ok sheets, []) → Images bytes (limit + 1) sheets
with_image limit bytes sheets (Err f, rest) one hyp e = absurd (no_sheets f sheets (ap (λ (p : Result (List Bitmap) PbmFault × List ℕ). p.0) e))
with_image limit bytes sheets (Ok s, rest) one hyp e = with_rest limit bytes rest s sheets (images_by limit rest) (one rest s refl) (λ ss h. hyp rest ss h) e

images_are : (limit : ℕ) (bytes : List ℕ) (sheets : List Bitmap) → images_by limit bytes ≡ (Ok sheets, []) → Images bytes limit sheets
images_are limit [] sheets e =
    let same : [] ≡ sheets = read_sheets [] sheets (ap (λ (p : Result (List Bitmap) PbmFault × List ℕ). p.0) (nothing limit ∙ e)) in
    subst (Images [] limit) same (record { images = []; joined = refl; each = tt; few = omega arith })
  where
    nothing : (limit : ℕ) → (Ok [], []) ≡ images_by limit []
    nothing zero = refl
    nothing (suc limit) = refl
images_are zero (b ∷ bytes) sheets e = absurd (no_sheets PbmSize sheets (ap (λ (p : Result (List Bitmap) PbmFault × List ℕ). p.0) e))
images_are (suc limit) (b ∷ bytes) sheets e =
    subst (λ n. Images (b ∷ bytes) n sheets) (let n : limit + 1 ≡ suc limit = omega arith in n)
    (with_image limit (b ∷ bytes) sheets (image_of (b ∷ bytes)) (λ rest s h. one_image (b ∷ bytes) rest s h) (λ rest ss h. images_are limit rest ss h) e)

-- an image by its pieces is read before others
pub image_first : (limit : ℕ) (i others : List ℕ) (s : Bitmap) → IsImage i s → images_by (suc limit) (i ++ others) ≡ with_first s (images_by limit others)
image_first limit i others s m =
    let known : header_of m.header ≡ (Ok m.size, []) = ap header_of (sym (append-nil m.header)) ∙ grammar_read m.header [] m.size m.header_is m.short in
    let first : image_of (m.header ++ (m.rows ++ others)) ≡ (Ok (bitmap_of m.size m.rows), others) = image_by m.header m.rows others m.size known m.count in
    let bytes : i ++ others ≡ m.header ++ (m.rows ++ others) = ap (λ bs. bs ++ others) m.joined ∙ append_assoc m.header m.rows others in
    let begins : m.header ++ (m.rows ++ others) ≡ 80 ∷ tail_of m.header_is (m.rows ++ others) = ap (λ bs. bs ++ (m.rows ++ others)) m.header_is.joined in
    ap (images_by (suc limit)) (bytes ∙ begins)
    ∙ ap (λ bs. with_others (images_by limit) (image_of bs)) (sym begins)
    ∙ ap (with_others (images_by limit)) first
    ∙ ap (λ x. with_first x (images_by limit others)) (sym m.shown)
  where
    tail_of : {header : List ℕ} {size : Size} → IsHeader header size → List ℕ → List ℕ
    tail_of h rest = (52 ∷ (concat h.before ++ (h.width ++ (concat h.between ++ (h.height ++ h.last ∷ []))))) ++ rest

-- a file by its pieces is read
pieces_read : (limit : ℕ) (images : List (List ℕ)) (sheets : List Bitmap) → AllZip IsImage images sheets → length sheets ≤ limit
    → images_by limit (concat images) ≡ (Ok sheets, [])
pieces_read zero [] [] h few = refl
pieces_read (suc limit) [] [] h few = refl
pieces_read limit [] (s ∷ sheets) h few = absurd h
pieces_read limit (i ∷ images) [] h few = absurd h
pieces_read zero (i ∷ images) (s ∷ sheets) h few = absurd (omega arith)
pieces_read (suc limit) (i ∷ images) (s ∷ sheets) h few = image_first limit i (concat images) s h.0
    ∙ ap (with_first s) (pieces_read limit images sheets h.1 (omega arith))

pub files_are_read : FilesAreRead
files_are_read bytes sheets = (
  λ e. let i = images_are 4096 bytes sheets e in (record { images = i.images; joined = i.joined; each = i.each }, i.few),
  λ h. ap (images_by 4096) h.0.joined ∙ pieces_read 4096 h.0.images sheets h.0.each h.1,
)

pub one_reading : OneListOfSheets
one_reading bytes sheets others few less a b =
    read_sheets sheets others (ap (λ (p : Result (List Bitmap) PbmFault × List ℕ). p.0)
    (sym ((files_are_read bytes sheets).1 (a, few)) ∙ (files_are_read bytes others).1 (b, less)))
