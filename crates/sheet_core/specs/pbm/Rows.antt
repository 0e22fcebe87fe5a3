-- Images that are read row by row (`pbm/rows.rt`): what was read of a source so far, and how the reading goes on.
use Rattle.std.specs.Prelude.{◌≡◌, ◌≤◌, ◌<◌, ◌+◌, ◌-◌, ◌*◌, ◌++◌, ◌∷◌, ℕ, Bool, true, List, [], Option, Some, None, Result, Ok, Err, length}
use Rattle.std.specs.Borrow.{MutBor}
use Rattle.std.specs.Io.KnownBytes.{Consumes, IsAtEnd}
use Rattle.scan_core.specs.Row.{IsRow, dots_of}
use Rattle.sheet_core.specs.declared.fault.PbmFault.{PbmFault}
use Rattle.sheet_core.specs.declared.fault.PbmFault.TheVariants.{NotP4, PbmHeader, Truncated, PbmSize, ReadFault, NoMemory}
use Rattle.sheet_core.specs.declared.pbm.rows.ImageRows.{ImageRows}
use Rattle.sheet_core.specs.declared.pbm.state.Size.{Size}
use Rattle.sheet_core.specs.Bitmaps.{Bitmap, dots_in, stride}
use Rattle.sheet_core.specs.pbm.Headers.{is_size}
use Rattle.sheet_core.specs.pbm.Images.{ReadsBytes, bitmap_of, images_by, images_of, raster, with_others}

-- sheets before others
abbrev pub before_others : List Bitmap → Result (List Bitmap) PbmFault × List ℕ → Result (List Bitmap) PbmFault × List ℕ
before_others sheets (Ok others, rest) = (Ok (sheets ++ others), rest)
before_others sheets (Err f, rest) = (Err f, rest)

-- where a reader is between images: these were read, and the file goes on from here
pub record Had (old now : Option (List ℕ)) (k : ℕ) (sheets : List Bitmap) : Type 0 where
  pub before : List ℕ
  pub consumed : Consumes old now before
  pub same : (more : List ℕ) → images_of (before ++ more) ≡ before_others sheets (images_by (4096 - k) more)

-- and within an image: of the rows of another these bytes were read
pub record HadPart (old now : Option (List ℕ)) (k : ℕ) (sheets : List Bitmap) (size : Size) (part : List ℕ) : Type 0 where
  pub before : List ℕ
  pub consumed : Consumes old now before
  pub same : (more : List ℕ) → images_of (before ++ more) ≡ before_others sheets (with_others (images_by (4096 - k)) (raster (Ok size, part ++ more)))

-- how many bytes the rows of an image have
abbrev pub byte_count : Size → ℕ
byte_count size = stride size.width * size.height

-- of a source that was lent these sheets were read, and nothing behind them
pub record HasSheets {S : Type 0} (left : S → Option (List ℕ)) (failed : S → Bool) (lent : MutBor S) (r : ImageRows S) (sheets : List Bitmap) : Type 0 where
  pub same : r.source.ghost_name ≡ lent.ghost_name
  pub works : failed r.source.now ≡ failed lent.now
  pub had : Had (left lent.now) (left r.source.now) r.begun sheets
  pub count : r.begun ≡ length sheets
  pub none : length r.held + r.left ≡ 0

-- and behind them the beginning of an image: these bytes of its rows were passed, others are held
pub record HasRows {S : Type 0} (left : S → Option (List ℕ)) (failed : S → Bool) (lent : MutBor S) (r : ImageRows S) (sheets : List Bitmap) (passed : List ℕ)
    : Type 0 where
  pub same : r.source.ghost_name ≡ lent.ghost_name
  pub works : failed r.source.now ≡ failed lent.now
  pub had : HadPart (left lent.now) (left r.source.now) r.begun sheets r.size (passed ++ r.held)
  pub count : r.begun ≡ length sheets + 1
  pub rest : length passed + (length r.held + r.left) ≡ byte_count r.size

-- a reader has failed if `ReadFault` says so, and by nothing else
abbrev pub HasFailedFor : PbmFault → Bool → Bool → Type 0
HasFailedFor ReadFault was now = now ≡ true
HasFailedFor NotP4 was now = now ≡ was
HasFailedFor PbmHeader was now = now ≡ was
HasFailedFor Truncated was now = now ≡ was
HasFailedFor PbmSize was now = now ≡ was
HasFailedFor NoMemory was now = now ≡ was

-- the images of a source that was lent are refused for this
pub record AreRefused {S : Type 0} (left : S → Option (List ℕ)) (failed : S → Bool) (lent : MutBor S) (r : ImageRows S) (fault : PbmFault) : Type 0 where
  pub same : r.source.ghost_name ≡ lent.ghost_name
  pub refuses : ReadsBytes images_of (left lent.now) (left r.source.now) (Err fault)
  pub fails : HasFailedFor fault (failed lent.now) (failed r.source.now)

-- the next image has begun, or there is none, or the images are refused
abbrev pub BeginsImage : {S : Type 0} → (S → Option (List ℕ)) → (S → Bool) → MutBor S → List Bitmap → Result (Option Size) PbmFault → ImageRows S → Type 0
BeginsImage left failed lent sheets (Ok None) r = HasSheets left failed lent r sheets × IsAtEnd (left r.source.now)
BeginsImage left failed lent sheets (Ok (Some size)) r = HasRows left failed lent r sheets []
BeginsImage left failed lent sheets (Err fault) r = AreRefused left failed lent r fault

-- what becomes of a reader that has read whole images, whatever they are
abbrev pub BeginsNext : {S : Type 0} → (S → Option (List ℕ)) → (S → Bool) → ImageRows S → Result (Option Size) PbmFault → ImageRows S → Type 0
BeginsNext {S} left failed old result new = (lent : MutBor S) (sheets : List Bitmap) → HasSheets left failed lent old sheets
    → BeginsImage left failed lent sheets result new

-- a reader of rows passes these bytes of an image, whatever it has read; what was held and then what else was read are these bytes and what is held now
pub record PassesBytes {S : Type 0} (left : S → Option (List ℕ)) (failed : S → Bool) (old new : ImageRows S) (bytes : List ℕ) : Type 0 where
  pub size : new.size ≡ old.size
  pub begun : new.begun ≡ old.begun
  pub less : length bytes + (length new.held + new.left) ≡ length old.held + old.left
  pub read : List ℕ
  pub held : old.held ++ read ≡ bytes ++ new.held
  pub on : (lent : MutBor S) (sheets : List Bitmap) (passed : List ℕ) → HasRows left failed lent old sheets passed
      → HasRows left failed lent new sheets (passed ++ bytes)

-- what becomes of a reader within an image that is refused, whatever it has read
abbrev pub IsStopped : {S : Type 0} → (S → Option (List ℕ)) → (S → Bool) → ImageRows S → PbmFault → ImageRows S → Type 0
IsStopped {S} left failed old fault new = (lent : MutBor S) (sheets : List Bitmap) (passed : List ℕ) → HasRows left failed lent old sheets passed
    → AreRefused left failed lent new fault

-- this many bytes more of the image are passed
abbrev pub GoesOnBy : {S : Type 0} → (S → Option (List ℕ)) → (S → Bool) → ℕ → ImageRows S → Result (Unit {0}) PbmFault → ImageRows S → Type 0
GoesOnBy left failed count old (Ok u) new = (bytes : List ℕ) × (length bytes ≡ count) × PassesBytes left failed old new bytes
GoesOnBy left failed count old (Err fault) new = IsStopped left failed old fault new

-- all bytes that were left of the image are passed
pub record PassesImage {S : Type 0} (left : S → Option (List ℕ)) (failed : S → Bool) (old new : ImageRows S) (bytes : List ℕ) : Type 0 where
  pub begun : new.begun ≡ old.begun
  pub read : List ℕ
  pub held : old.held ++ read ≡ bytes
  pub on : (lent : MutBor S) (sheets : List Bitmap) (passed : List ℕ) → HasRows left failed lent old sheets passed
      → HasSheets left failed lent new (sheets ++ bitmap_of old.size (passed ++ bytes) ∷ [])

-- what becomes of a reader that passes the rest of an image
abbrev pub EndsImage : {S : Type 0} → (S → Option (List ℕ)) → (S → Bool) → ImageRows S → Result (Unit {0}) PbmFault → ImageRows S → Type 0
EndsImage left failed old (Ok u) new = (bytes : List ℕ) × PassesImage left failed old new bytes
EndsImage left failed old (Err fault) new = IsStopped left failed old fault new

-- the bytes of a source that was lent are the sheets that were read
abbrev pub ReadSheets : {S : Type 0} → (S → Option (List ℕ)) → (S → Bool) → ImageRows S → Type 0
ReadSheets {S} left failed r = (lent : MutBor S) (sheets : List Bitmap) → HasSheets left failed lent r sheets
    → ReadsBytes images_of (left lent.now) (left r.source.now) (Ok sheets)

-- and wherever the reading stands, no byte is refused, if memory is
abbrev pub MayStop : {S : Type 0} → (S → Option (List ℕ)) → (S → Bool) → ImageRows S → Type 0
MayStop {S} left failed r = (lent : MutBor S) (sheets : List Bitmap)
    → (HasSheets left failed lent r sheets → ReadsBytes images_of (left lent.now) (left r.source.now) (Err NoMemory))
    × ((passed : List ℕ) → HasRows left failed lent r sheets passed → ReadsBytes images_of (left lent.now) (left r.source.now) (Err NoMemory))

-- however the image goes on, this row has these dots of row y, if the rows above it were passed
abbrev pub ShowsDots : Size → List ℕ → ℕ → ℕ → List ℕ → Type 0
ShowsDots size held x count runs = (passed rest : List ℕ) (y : ℕ) → length passed ≡ stride size.width * y
    → dots_of runs ≡ dots_in (bitmap_of size (passed ++ (held ++ rest))) x y count
