-- A file that is read image by image, and one that is written so.
use Rattle.std.proofs.Common.{◌≡◌, ℕ, zero, suc, ◌+◌, ◌-◌, ◌<◌, Bool, true, false, List, [], ◌∷◌, ◌++◌, Option, Result, Ok, Err, get_or, length, take, refl, sym, ap, subst, ◌∙◌, inl, inr, arith}
use Rattle.std.specs.Prelude.{OnErr, is_err}
use Rattle.std.specs.Io.KnownBytes.{Appends, Consumes, Keeps}
use Rattle.std.proofs.KnownBytes.{Appends-trans, Consumes-kept, Consumes-nil, Consumes-trans}
use Rattle.std.proofs.lemmas.List.{append-nil, append_assoc}
use Rattle.digits_core.specs.Bytes.{TookFront}
use Rattle.sheet_core.specs.declared.fault.PbmFault.{PbmFault}
use Rattle.sheet_core.specs.declared.fault.PbmFault.TheVariants.{NotP4, PbmHeader, Truncated, PbmSize, ReadFault, NoMemory}
use Rattle.sheet_core.specs.Bitmaps.{Bitmap}
use Rattle.sheet_core.specs.pbm.Images.{IsOpen, ReadsBytes, BytesTell, image_of, image, images_by, images_of, pbm_of, with_first, with_others}
pub use Rattle.sheet_core.specs.pbm.Rows.{Had, before_others}
use Rattle.sheet_core.proofs.pbm.ImageFacts.{image_told}

pub before_first : (sheets : List Bitmap) (s : Bitmap) (r : Result (List Bitmap) PbmFault × List ℕ) → before_others sheets (with_first s r)
    ≡ before_others (sheets ++ s ∷ []) r
before_first sheets s (Ok others, rest) = ap (λ xs. (Ok xs, rest)) (sym (append_assoc sheets (s ∷ []) others))
before_first sheets s (Err f, rest) = refl

pub had_none : (old : Option (List ℕ)) (sheets : List Bitmap) → sheets ≡ [] → Had old old 0 sheets
had_none old sheets e = subst (Had old old 0) (sym e) (record { before = []; consumed = Consumes-nil old; same = λ more. sym (none (images_by 4096 more)) })
  where
    none : (r : Result (List Bitmap) PbmFault × List ℕ) → before_others [] r ≡ r
    none (Ok others, rest) = refl
    none (Err f, rest) = refl

-- no bytes are no images
pub no_images : (limit : ℕ) → images_by limit [] ≡ (Ok [], [])
no_images zero = refl
no_images (suc limit) = refl

-- all that was read between images
pub all_read : (old now : Option (List ℕ)) (k : ℕ) (sheets : List Bitmap) (h : Had old now k sheets) → images_of h.before ≡ (Ok sheets, [])
all_read old now k sheets h =
    ap images_of (sym (append-nil h.before)) ∙ h.same [] ∙ ap (before_others sheets) (no_images (4096 - k)) ∙ ap (λ xs. (Ok xs, [])) (append-nil sheets)

-- all that was read within an image
pub within : (old now mid new : Option (List ℕ)) (k : ℕ) (sheets : List Bitmap) (first : ℕ) (bytes : List ℕ) (h : Had old now k sheets) → k < 4096
    → images_of (h.before ++ first ∷ bytes) ≡ before_others sheets (with_others (images_by (4096 - (k + 1))) (image_of (first ∷ bytes)))
within old now mid new k sheets first bytes h low =
    h.same (first ∷ bytes) ∙ ap (λ n. before_others sheets (images_by n (first ∷ bytes))) (let e : 4096 - k ≡ suc (4096 - (k + 1)) = omega arith in e)

pub took : (old now mid new : Option (List ℕ)) (k : ℕ) (sheets : List Bitmap) (first : ℕ) (bytes : List ℕ) (h : Had old now k sheets)
    → Consumes now mid (first ∷ []) → Consumes mid new bytes
    → Consumes old new (h.before ++ first ∷ bytes)
took old now mid new k sheets first bytes h c d = Consumes-trans old now new h.before (first ∷ bytes) h.consumed
    (Consumes-trans now mid new (first ∷ []) bytes c d)

pub ended : (old now later : Option (List ℕ)) (k : ℕ) (sheets : List Bitmap) → Had old now k sheets → Consumes now later []
    → ReadsBytes images_of old later (Ok sheets)
ended old now later k sheets h c = record {
  bytes = h.before;
  consumed = subst (Consumes old later) (append-nil h.before) (Consumes-trans old now later h.before [] h.consumed c);
  tells = all_read old now k sheets h;
}

pub broken : (old now later : Option (List ℕ)) (k : ℕ) (sheets : List Bitmap) → Had old now k sheets → Keeps now later
    → ReadsBytes images_of old later (Err ReadFault)
broken old now later k sheets h c = record {
  bytes = h.before;
  consumed = Consumes-kept old now later h.before h.consumed c;
  tells = inr (sheets, all_read old now k sheets h);
}

pub too_many : (old now later : Option (List ℕ)) (sheets : List Bitmap) (b : ℕ) → Had old now 4096 sheets → Consumes now later (b ∷ [])
    → ReadsBytes images_of old later (Err PbmSize)
too_many old now later sheets b h c = record {
  bytes = h.before ++ b ∷ [];
  consumed = Consumes-trans old now later h.before (b ∷ []) h.consumed c;
  tells = h.same (b ∷ []);
}

-- one more image, whatever follows it
pub had_more : (old now mid new : Option (List ℕ)) (k : ℕ) (sheets more : List Bitmap) (first : ℕ) (s : Bitmap) → Had old now k sheets → k < 4096
    → Consumes now mid (first ∷ []) → ReadsBytes (image_told first) mid new (Ok s)
    → ((bytes rest : List ℕ) → image_of bytes ≡ (Ok s, []) → image_of (bytes ++ rest) ≡ (Ok s, rest)) → more ≡ sheets ++ s ∷ [] → Had old new (k + 1) more
had_more old now mid new k sheets more first s h low c r wider e = subst (Had old new (k + 1)) (sym e) (record {
  before = h.before ++ first ∷ r.bytes;
  consumed = took old now mid new k sheets first r.bytes h c r.consumed;
  same = λ rest.
      ap images_of (append_assoc h.before (first ∷ r.bytes) rest)
      ∙ within old now mid new k sheets first (r.bytes ++ rest) h low
      ∙ ap (λ x. before_others sheets (with_others (images_by (4096 - (k + 1))) x)) (wider (first ∷ r.bytes) rest r.tells)
      ∙ before_first sheets s (images_by (4096 - (k + 1)) rest);
})

-- an image that is not read refuses the file
pub image_refused : (old now mid new : Option (List ℕ)) (k : ℕ) (sheets : List Bitmap) (first : ℕ) (f : PbmFault) → Had old now k sheets → k < 4096
    → Consumes now mid (first ∷ []) → ReadsBytes (image_told first) mid new (Err f)
    → ReadsBytes images_of old new (Err f)
image_refused old now mid new k sheets first f h low c r = record {
  bytes = h.before ++ first ∷ r.bytes;
  consumed = took old now mid new k sheets first r.bytes h c r.consumed;
  tells = by f r.tells;
}
  where
    limit : ℕ
    limit = 4096 - (k + 1)

    all : (x : Result Bitmap PbmFault × List ℕ) → image_of (first ∷ r.bytes) ≡ x → images_of (h.before ++ first ∷ r.bytes)
        ≡ before_others sheets (with_others (images_by limit) x)
    all x e = within old now mid new k sheets first r.bytes h low ∙ ap (λ x. before_others sheets (with_others (images_by limit) x)) e

    open_too : IsOpen (image_of (first ∷ r.bytes)) → IsOpen (images_of (h.before ++ first ∷ r.bytes))
    open_too (inl e) = inl (all (Err Truncated, []) e)
    open_too (inr p) = inr (sheets ++ p.0 ∷ [], all (Ok p.0, []) p.1 ∙ ap (λ x. before_others sheets (with_first p.0 x)) (no_images limit))

    by : (f : PbmFault) → BytesTell (image_told first r.bytes) new (Err f) → BytesTell (images_of (h.before ++ first ∷ r.bytes)) new (Err f)
    by NotP4 e = all (Err NotP4, []) e
    by PbmHeader e = all (Err PbmHeader, []) e
    by PbmSize e = all (Err PbmSize, []) e
    by Truncated e = (all (Err Truncated, []) e.0, e.1)
    by ReadFault e = open_too e
    by NoMemory e = open_too e

-- want of memory for a sheet that was read
pub not_kept : (old now : Option (List ℕ)) (k : ℕ) (sheets : List Bitmap) → Had old now k sheets → ReadsBytes images_of old now (Err NoMemory)
not_kept old now k sheets h = record { bytes = h.before; consumed = h.consumed; tells = inr (sheets, all_read old now k sheets h) }

-- ---- written

pub took_more : (a b : Option (List ℕ)) (xs ys : List ℕ) → TookFront a b xs → TookFront a b (xs ++ ys)
took_more a b xs ys h = (h.0, h.1 ++ ys, ap (λ bs. bs ++ ys) h.2 ∙ append_assoc h.0 h.1 ys, h.3)

pub took_after : (a b c : Option (List ℕ)) (xs ys : List ℕ) → Appends a b xs → TookFront b c ys → TookFront a c (xs ++ ys)
took_after a b c xs ys h k = (xs ++ k.0, k.1, ap (λ bs. xs ++ bs) k.2 ∙ sym (append_assoc xs k.0 k.1), Appends-trans a b c xs k.0 h k.3)

pub still : (b : Bool) → (b ≡ true → ⊥) → b ≡ false
still true h = absurd (h refl)
still false h = refl

pub on_err : {A E : Type 0} (r : Result A E) (P Q : Type 0) → (P → Q) → OnErr r P → OnErr r Q
on_err (Ok x) P Q f h = tt
on_err (Err e) P Q f h = f h

-- one more sheet of those that are written
pub image_more : (sheets : List Bitmap) (i : ℕ) (s : Bitmap) → i < length sheets → s ≡ get_or sheets i s → (rest : List ℕ)
    × (pbm_of sheets ≡ pbm_of (take i sheets) ++ (image s ++ rest))
image_more [] i s low e = absurd (omega arith)
image_more (t ∷ sheets) zero s low e = (pbm_of sheets, ap (λ x. image x ++ pbm_of sheets) (sym e))
image_more (t ∷ sheets) (suc i) s low e =
    let more = image_more sheets i s (omega arith) e in
    (more.0, ap (λ bs. image t ++ bs) more.1 ∙ sym (append_assoc (image t) (pbm_of (take i sheets)) (image s ++ more.0)))

pub err_at : {A E : Type 0} (r : Result A E) (P : Type 0) → true ≡ is_err r → OnErr r P → P
err_at (Ok x) P e h = absurd cc
err_at (Err y) P e h = h
