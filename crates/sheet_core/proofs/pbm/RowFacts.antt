-- Images that are read row by row (for `pbm/rows.rt`).
use Rattle.std.proofs.Common.{◌≡◌, ℕ, ◌+◌, ◌-◌, ◌*◌, ◌<◌, ◌≤◌, Bool, true, List, [], ◌∷◌, ◌++◌, Option, Result, Ok, Err, append_assoc, length, take, drop, refl, sym, ap, subst, ◌∙◌, inl, inr, arith}
use Rattle.std.specs.Borrow.{MutBor}
use Rattle.std.specs.Io.KnownBytes.{Consumes, IsAtEnd, Keeps}
use Rattle.std.proofs.KnownBytes.{Consumes-kept, Consumes-nil, Consumes-trans}
use Rattle.std.proofs.lemmas.Bool.{cases_lt}
use Rattle.std.proofs.lemmas.List.{append-nil, length-append, length-drop, length-take-le, take-append-drop}
use Rattle.sheet_core.specs.declared.fault.PbmFault.{PbmFault}
use Rattle.sheet_core.specs.declared.fault.PbmFault.TheVariants.{NotP4, PbmHeader, Truncated, PbmSize, ReadFault, NoMemory}
use Rattle.sheet_core.specs.declared.pbm.rows.ImageRows.{ImageRows}
use Rattle.sheet_core.specs.declared.pbm.state.Size.{Size}
use Rattle.sheet_core.specs.Bitmaps.{Bitmap, stride}
use Rattle.sheet_core.specs.inner.Held.{ReadsBehind}
use Rattle.sheet_core.specs.inner.Images.{FailsFor}
use Rattle.sheet_core.specs.pbm.Images.{BytesTell, IsOpen, ReadsBytes, bitmap_of, image_of, images_by, images_of, raster, with_first, with_others}
use Rattle.sheet_core.specs.pbm.Headers.{header_of}
use Rattle.sheet_core.specs.pbm.Rows.{AreRefused, EndsImage, GoesOnBy, Had, HadPart, HasFailedFor, HasRows, HasSheets, before_others, byte_count}
use Rattle.sheet_core.proofs.pbm.FileFacts.{all_read, before_first, broken, image_refused, no_images, not_kept, too_many, took, within}
use Rattle.sheet_core.proofs.pbm.HeaderFacts.{told}
use Rattle.sheet_core.proofs.pbm.ImageFacts.{header_more, image_open, image_told, short_raster, whole_raster}

-- ---- the bytes of a file

-- the header of an image was read
pub part_begins : (old now mid new : Option (List ℕ)) (k : ℕ) (sheets : List Bitmap) (first : ℕ) (size : Size) → Had old now k sheets → k < 4096
    → Consumes now mid (first ∷ []) → ReadsBytes (told first) mid new (Ok size)
    → HadPart old new (k + 1) sheets size []
part_begins old now mid new k sheets first size h low c r = record {
  before = h.before ++ first ∷ r.bytes;
  consumed = took old now mid new k sheets first r.bytes h c r.consumed;
  same = λ more.
      ap images_of (append_assoc h.before (first ∷ r.bytes) more)
      ∙ within old now mid new k sheets first (r.bytes ++ more) h low
      ∙ ap (λ x. before_others sheets (with_others (images_by (4096 - (k + 1))) x)) (ap raster (header_more (first ∷ r.bytes) more size r.tells));
}

-- a header that is refused refuses its image
pub head_refused : (mid new : Option (List ℕ)) (first : ℕ) (f : PbmFault) → ReadsBytes (told first) mid new (Err f) → ReadsBytes (image_told first) mid new (Err f)
head_refused mid new first f r = record { bytes = r.bytes; consumed = r.consumed; tells = by f r.tells }
  where
    open_too : IsOpen (header_of (first ∷ r.bytes)) → IsOpen (image_of (first ∷ r.bytes))
    open_too (inl e) = inl (ap raster e)
    open_too (inr p) = subst (λ bs. IsOpen (image_of bs)) (append-nil (first ∷ r.bytes)) (image_open (first ∷ r.bytes) [] p.0 p.1 (omega arith))

    by : (f : PbmFault) → BytesTell (told first r.bytes) new (Err f) → BytesTell (image_told first r.bytes) new (Err f)
    by NotP4 e = ap raster e
    by PbmHeader e = ap raster e
    by PbmSize e = ap raster e
    by Truncated e = (ap raster e.0, e.1)
    by ReadFault e = open_too e
    by NoMemory e = open_too e

module _ (old now : Option (List ℕ)) (k : ℕ) (sheets : List Bitmap) (size : Size) (part : List ℕ) (h : HadPart old now k sheets size part) where
  -- more of its rows were read
  pub part_more : (new : Option (List ℕ)) (more : List ℕ) → Consumes now new more → HadPart old new k sheets size (part ++ more)
  part_more new more c = record {
    before = h.before ++ more;
    consumed = Consumes-trans old now new h.before more h.consumed c;
    same = λ rest.
        ap images_of (append_assoc h.before more rest) ∙ h.same (more ++ rest)
        ∙ ap (λ xs. before_others sheets (with_others (images_by (4096 - k)) (raster (Ok size, xs)))) (sym (append_assoc part more rest));
  }

  -- all of them were
  pub part_ends : length part ≡ byte_count size → Had old now k (sheets ++ bitmap_of size part ∷ [])
  part_ends long = record {
    before = h.before;
    consumed = h.consumed;
    same = λ more.
        h.same more ∙ ap (λ x. before_others sheets (with_others (images_by (4096 - k)) x)) (whole_raster size part more long)
        ∙ before_first sheets (bitmap_of size part) (images_by (4096 - k) more);
  }

  -- the file if nothing follows
  file_now : images_of h.before ≡ before_others sheets (with_others (images_by (4096 - k)) (raster (Ok size, part ++ [])))
  file_now = ap images_of (sym (append-nil h.before)) ∙ h.same []

  -- it ends here, too soon
  pub part_cut : length part < byte_count size → images_of h.before ≡ (Err Truncated, [])
  part_cut few =
      file_now ∙ ap (λ x. before_others sheets (with_others (images_by (4096 - k)) x))
      (ap (λ xs. raster (Ok size, xs)) (append-nil part) ∙ short_raster size part few)

  -- nothing of it is refused yet
  pub part_open : length part ≤ byte_count size → IsOpen (images_of h.before)
  part_open few =
      elim (cases_lt (length part) (byte_count size)) [
        | inl short ↦ inl (part_cut short)
        | inr full ↦
            let s : Bitmap = bitmap_of size part in
            inr (
              sheets ++ s ∷ [],
              file_now
                  ∙ ap (λ x. before_others sheets (with_others (images_by (4096 - k)) x)) (whole_raster size part [] (omega (arith, few, full)))
                  ∙ ap (λ x. before_others sheets (with_first s x)) (no_images (4096 - k)),
            )
      ]

-- ---- what is held of an image

-- what has failed by a header
has_failed : (f : PbmFault) (was now lent : Bool) → (let read : Result Size PbmFault = Err f in FailsFor was now read) → was ≡ lent → HasFailedFor f lent now
has_failed NotP4 was now lent fails is = fails ∙ is
has_failed PbmHeader was now lent fails is = fails ∙ is
has_failed Truncated was now lent fails is = fails ∙ is
has_failed PbmSize was now lent fails is = fails ∙ is
has_failed ReadFault was now lent fails is = fails
has_failed NoMemory was now lent fails is = fails ∙ is

no_item : (xs : List ℕ) → length xs ≡ 0 → xs ≡ []
no_item [] e = refl
no_item (x ∷ xs) e = absurd (omega (arith, e))

module _ {S : Type 0} (left : S → Option (List ℕ)) (failed : S → Bool) where
  module _ (lent : MutBor S) (r new : ImageRows S) (sheets : List Bitmap) (h : HasSheets left failed lent r sheets)
      (name : new.source.ghost_name ≡ r.source.ghost_name) where
    -- a read between images has failed
    pub sheets_broken : Keeps (left r.source.now) (left new.source.now) → failed new.source.now ≡ true → AreRefused left failed lent new ReadFault
    sheets_broken kept fails = record { same = name ∙ h.same; refuses = broken _ _ _ r.begun sheets h.had kept; fails = fails }

    -- the source has ended
    pub sheets_end : Consumes (left r.source.now) (left new.source.now) [] → failed new.source.now ≡ failed r.source.now → new.begun ≡ r.begun
        → length new.held + new.left ≡ length r.held + r.left → HasSheets left failed lent new sheets
    sheets_end came works begun none =
        let had = h.had in
        record {
          same = name ∙ h.same;
          works = works ∙ h.works;
          had = rw begun record {
            before = had.before;
            consumed = subst (Consumes (left lent.now) (left new.source.now)) (append-nil had.before) (Consumes-trans _ _ _ had.before [] had.consumed came);
            same = had.same;
          };
          count = begun ∙ h.count;
          none = none ∙ h.none;
        }

    -- there is an image too many
    pub sheets_many : (first : ℕ) → r.begun ≡ 4096 → Consumes (left r.source.now) (left new.source.now) (first ∷ [])
        → failed new.source.now ≡ failed r.source.now → AreRefused left failed lent new PbmSize
    sheets_many first many came works = record {
      same = name ∙ h.same;
      refuses = too_many _ _ _ sheets first (subst (λ k. Had (left lent.now) (left r.source.now) k sheets) many h.had) came;
      fails = works ∙ h.works;
    }

    -- a header is refused
    pub sheets_fault : (mid : Option (List ℕ)) (was : Bool) (first : ℕ) (f : PbmFault) → r.begun < 4096 → Consumes (left r.source.now) mid (first ∷ [])
        → ReadsBytes (told first) mid (left new.source.now) (Err f) → (let read : Result Size PbmFault = Err f in FailsFor was (failed new.source.now) read)
        → was ≡ failed r.source.now → AreRefused left failed lent new f
    sheets_fault mid was first f low came reads fails works = record {
      same = name ∙ h.same;
      refuses = image_refused _ _ mid _ r.begun sheets first f h.had low came (head_refused mid _ first f reads);
      fails = has_failed f was (failed new.source.now) (failed lent.now) fails (works ∙ h.works);
    }

    -- an image has begun
    pub sheets_next : (mid : Option (List ℕ)) (first : ℕ) (size : Size) → r.begun < 4096 → Consumes (left r.source.now) mid (first ∷ [])
        → ReadsBytes (told first) mid (left new.source.now) (Ok size) → failed new.source.now ≡ failed r.source.now → new.begun ≡ r.begun + 1 → new.size ≡ size
        → new.left ≡ byte_count size → new.held ≡ r.held → HasRows left failed lent new sheets []
    sheets_next mid first size low came reads works begun is all held =
        let none : new.held ≡ [] = held ∙ no_item r.held (omega (arith, h.none)) in
        record {
          same = name ∙ h.same;
          works = works ∙ h.works;
          had = rw (begun, is, none) (part_begins _ _ mid _ r.begun sheets first size h.had low came reads);
          count = omega (arith, begun, h.count);
          rest = omega (arith, all, ap byte_count is, ap length none);
        }

  module _ (lent : MutBor S) (r new : ImageRows S) (sheets : List Bitmap) (passed : List ℕ) (h : HasRows left failed lent r sheets passed)
      (name : new.source.ghost_name ≡ r.source.ghost_name) where
    few_read : length (passed ++ r.held) ≤ byte_count r.size
    few_read = omega (arith, length-append passed r.held, h.rest)

    -- a read has failed
    pub rows_broken : Keeps (left r.source.now) (left new.source.now) → failed new.source.now ≡ true → AreRefused left failed lent new ReadFault
    rows_broken kept fails =
        let had = h.had in
        record {
          same = name ∙ h.same;
          refuses = record {
            bytes = had.before;
            consumed = Consumes-kept _ _ _ had.before had.consumed kept;
            tells = part_open _ _ r.begun sheets r.size (passed ++ r.held) had few_read;
          };
          fails = fails;
        }

    -- the source has ended within the image
    pub rows_cut : (count most : ℕ) (held : List ℕ) → ReadsBehind (left r.source.now) (left new.source.now) r.held count most held → count ≡ 0 → 0 < most
        → most ≡ r.left → failed new.source.now ≡ failed r.source.now → AreRefused left failed lent new Truncated
    rows_cut count most held reads zero some is works =
        let had = h.had in
        let none : reads.more ≡ [] = no_item reads.more (reads.long ∙ zero) in
        record {
          same = name ∙ h.same;
          refuses = record {
            bytes = had.before;
            consumed = subst (Consumes (left lent.now) (left new.source.now)) (ap (λ xs. had.before ++ xs) none ∙ append-nil had.before)
                (Consumes-trans _ _ _ had.before reads.more had.consumed reads.came);
            tells = (
              part_cut _ _ r.begun sheets r.size (passed ++ r.held) had (omega (arith, length-append passed r.held, h.rest, some, is)),
              reads.ended zero some,
            );
          };
          fails = works ∙ h.works;
        }

    -- more of it is held
    pub rows_more : (count most : ℕ) → ReadsBehind (left r.source.now) (left new.source.now) r.held count most new.held → failed new.source.now ≡ failed r.source.now
        → new.begun ≡ r.begun → new.size ≡ r.size → new.left + count ≡ r.left → HasRows left failed lent new sheets (passed ++ [])
    rows_more count most reads works begun size less =
        let now = part_more _ _ r.begun sheets r.size (passed ++ r.held) h.had (left new.source.now) reads.more reads.came in
        let all : (passed ++ r.held) ++ reads.more ≡ (passed ++ []) ++ new.held =
        append_assoc passed r.held reads.more ∙ ap (λ xs. passed ++ xs) (sym reads.held) ∙ ap (λ xs. xs ++ new.held) (sym (append-nil passed)) in
        record {
          same = name ∙ h.same;
          works = works ∙ h.works;
          had = rw (begun, size, ← all) now;
          count = begun ∙ h.count;
          rest = omega (arith, h.rest, ap byte_count size, less, reads.long, ap length reads.held, length-append r.held reads.more, ap length (append-nil passed));
        }

  -- more of an image is held
  pub goes_fill : (count : ℕ) (r new : ImageRows S) → (name : new.source.ghost_name ≡ r.source.ghost_name)
      → ReadsBehind (left r.source.now) (left new.source.now) r.held count r.left new.held → failed new.source.now ≡ failed r.source.now
      → new.begun ≡ r.begun → new.size ≡ r.size → new.left + count ≡ r.left → GoesOnBy left failed 0 r (Ok tt) new
  goes_fill count r new name reads works begun size less = (
    [],
    refl,
    record {
      size = size;
      begun = begun;
      less = omega (arith, less, reads.long, ap length reads.held, length-append r.held reads.more);
      read = reads.more;
      held = sym reads.held;
      on = λ lent sheets passed h. rows_more lent r new sheets passed h name count r.left reads works begun size less;
    },
  )

  -- nothing is passed
  pub goes_none : (r : ImageRows S) → GoesOnBy left failed 0 r (Ok tt) r
  goes_none r = (
    [],
    refl,
    record {
      size = refl;
      begun = refl;
      less = omega arith;
      read = [];
      held = append-nil r.held;
      on = λ lent sheets passed h. subst (HasRows left failed lent r sheets) (sym (append-nil passed)) h;
    },
  )

  -- some is passed, and then more
  pub goes_on : (a b all : ℕ) (r mid new : ImageRows S) (result : Result (Unit {0}) PbmFault) → all ≡ a + b → GoesOnBy left failed a r (Ok tt) mid
      → GoesOnBy left failed b mid result new → GoesOnBy left failed all r result new
  goes_on a b all r mid new (Ok u) sum first then =
      let (xs, x, p) = first in
      let (ys, y, q) = then in (
        xs ++ ys,
        length-append xs ys ∙ omega (arith, x, y, sum),
        record {
          size = q.size ∙ p.size;
          begun = q.begun ∙ p.begun;
          less = omega (arith, p.less, q.less, length-append xs ys);
          read = p.read ++ q.read;
          held = sym (append_assoc r.held p.read q.read) ∙ ap (λ zs. zs ++ q.read) p.held ∙ append_assoc xs mid.held q.read ∙ ap (λ zs. xs ++ zs) q.held
              ∙ sym (append_assoc xs ys new.held);
          on = λ lent sheets passed h. subst (HasRows left failed lent new sheets) (append_assoc passed xs ys)
              (q.on lent sheets (passed ++ xs) (p.on lent sheets passed h));
        },
      )
  goes_on a b all r mid new (Err f) sum first then = λ lent sheets passed h. then lent sheets (passed ++ first.0) (first.2.on lent sheets passed h)

  -- what is held is passed from its front
  pub gives_up : (count : ℕ) (r new : ImageRows S) → count ≤ length r.held → new.source ≡ r.source → new.begun ≡ r.begun → new.size ≡ r.size → new.left ≡ r.left
      → new.held ≡ drop count r.held → GoesOnBy left failed count r (Ok tt) new
  gives_up count r new few source begun size same held =
      let parts = take-append-drop count r.held in
      let front = length-take-le count r.held few in
      let after = ap length held ∙ length-drop count r.held in
      let split : r.held ≡ take count r.held ++ new.held = sym parts ∙ ap (λ xs. take count r.held ++ xs) (sym held) in (
        take count r.held,
        front,
        record {
          size = size;
          begun = begun;
          less = omega (arith, after, few, same, front);
          read = [];
          held = append-nil r.held ∙ split;
          on = λ lent sheets passed h.
              let all : passed ++ r.held ≡ (passed ++ take count r.held) ++ new.held =
              ap (λ xs. passed ++ xs) split ∙ sym (append_assoc passed (take count r.held) new.held) in
              record {
                same = ap (λ s. s.ghost_name) source ∙ h.same;
                works = ap (λ s. failed s.now) source ∙ h.works;
                had = rw (source, begun, size, ← all) h.had;
                count = begun ∙ h.count;
                rest = omega (arith, h.rest, after, few, front, same, ap byte_count size, length-append passed (take count r.held));
              };
        },
      )

  -- all that was left is passed
  pub rows_end : (count : ℕ) (r new : ImageRows S) (result : Result (Unit {0}) PbmFault) → count ≡ length r.held + r.left → GoesOnBy left failed count r result new
      → EndsImage left failed r result new
  rows_end count r new (Err f) is goes = goes
  rows_end count r new (Ok u) is goes =
      let (bytes, long, p) = goes in
      let none : length new.held + new.left ≡ 0 = omega (arith, p.less, long, is) in
      let empty : new.held ≡ [] = no_item new.held (omega (arith, none)) in (
        bytes,
        record {
          begun = p.begun;
          read = p.read;
          held = p.held ∙ ap (λ xs. bytes ++ xs) empty ∙ append-nil bytes;
          on = λ lent sheets passed h.
              let now = p.on lent sheets passed h in
              let whole : length (passed ++ bytes) ≡ byte_count r.size = omega (arith, length-append passed bytes, long, is, h.rest) in
              let all : HadPart (left lent.now) (left new.source.now) new.begun sheets r.size (passed ++ bytes) =
              rw (← p.size) (subst (HadPart (left lent.now) (left new.source.now) new.begun sheets new.size)
              (ap (λ xs. (passed ++ bytes) ++ xs) empty ∙ append-nil (passed ++ bytes)) now.had) in
              record {
                same = now.same;
                works = now.works;
                had = part_ends _ _ new.begun sheets r.size (passed ++ bytes) all whole;
                count = now.count ∙ sym (length-append sheets (bitmap_of r.size (passed ++ bytes) ∷ []));
                none = none;
              };
        },
      )

  -- ---- what a reader has read, for what a command tells

  -- whole images
  pub sheets_read : (lent : MutBor S) (r : ImageRows S) (sheets : List Bitmap) → HasSheets left failed lent r sheets
      → ReadsBytes images_of (left lent.now) (left r.source.now) (Ok sheets)
  sheets_read lent r sheets h = record { bytes = h.had.before; consumed = h.had.consumed; tells = all_read _ _ r.begun sheets h.had }

  -- no more is read, since memory is refused
  pub sheets_stop : (lent : MutBor S) (r : ImageRows S) (sheets : List Bitmap) → HasSheets left failed lent r sheets
      → ReadsBytes images_of (left lent.now) (left r.source.now) (Err NoMemory)
  sheets_stop lent r sheets h = not_kept _ _ r.begun sheets h.had

  pub rows_stop : (lent : MutBor S) (r : ImageRows S) (sheets : List Bitmap) (passed : List ℕ) → HasRows left failed lent r sheets passed
      → ReadsBytes images_of (left lent.now) (left r.source.now) (Err NoMemory)
  rows_stop lent r sheets passed h = record {
    bytes = h.had.before;
    consumed = h.had.consumed;
    tells = part_open _ _ r.begun sheets r.size (passed ++ r.held) h.had (omega (arith, length-append passed r.held, h.rest));
  }
