-- PBM files: how they are written, and how bytes are read, image by image (netpbm, pbm(5)). Written sheets read back as
-- the same sheets, and the reader accepts exactly what the grammar allows.
use Rattle.std.specs.Prelude.{◌≡◌, ◌⊎◌, ℕ, zero, suc, ◌+◌, ◌-◌, ◌*◌, ◌%◌, ◌^◌, ◌==◌, nat_lt, List, [], ◌∷◌, ◌++◌, Option, length, map, take, drop, slice_index, Result, Ok, Err, if◌then◌else◌}
use Rattle.std.specs.List.{flat_map, range_with_len}
use Rattle.std.specs.Io.KnownBytes.{Consumes, IsAtEnd}
use Rattle.sheet_core.specs.declared.fault.PbmFault.{PbmFault}
use Rattle.sheet_core.specs.declared.fault.PbmFault.TheVariants.{NotP4, PbmHeader, Truncated, PbmSize, ReadFault, NoMemory}
use Rattle.sheet_core.specs.declared.pbm.state.Size.{Size}
use Rattle.sheet_core.specs.Bitmaps.{Bitmap, pad, stride}
use Rattle.sheet_core.specs.pbm.Headers.{header_of, header_text}

-- ---- written

-- a sheet as an image
abbrev pub image : Bitmap → List ℕ
image s = header_text s.width s.height ++ s.bytes

-- sheets as a file
abbrev pub pbm_of : List Bitmap → List ℕ
pbm_of sheets = flat_map image sheets

-- ---- read

-- byte i of rows of this width, with its padding bits set to 0
abbrev pub unpadded_at : ℕ → List ℕ → ℕ → ℕ
unpadded_at width bytes i =
    if (i + 1) % stride width == 0 then slice_index bytes i - slice_index bytes i % 2 ^ pad width else slice_index bytes i

-- the rows with their padding bits set to 0
abbrev pub unpadded : ℕ → List ℕ → List ℕ
unpadded width bytes = map (unpadded_at width bytes) (range_with_len 0 (length bytes))

-- the sheet of this size with these rows
abbrev pub bitmap_of : Size → List ℕ → Bitmap
bitmap_of size bytes = record { width = size.width; height = size.height; bytes = unpadded size.width bytes }

-- the image after its header, and the bytes after it or after the byte where it is refused
abbrev pub raster : Result Size PbmFault × List ℕ → Result Bitmap PbmFault × List ℕ
raster (Err fault, rest) = (Err fault, rest)
raster (Ok size, rest) =
    if nat_lt (length rest) (stride size.width * size.height) then (Err Truncated, [])
    else (Ok (bitmap_of size (take (stride size.width * size.height) rest)), drop (stride size.width * size.height) rest)

-- the same for an image with its header
abbrev pub image_of : List ℕ → Result Bitmap PbmFault × List ℕ
image_of bytes = raster (header_of bytes)

-- a sheet in front of others
abbrev pub with_first : Bitmap → Result (List Bitmap) PbmFault × List ℕ → Result (List Bitmap) PbmFault × List ℕ
with_first s (Ok sheets, rest) = (Ok (s ∷ sheets), rest)
with_first s (Err fault, rest) = (Err fault, rest)

-- the first image, then the others
abbrev pub with_others : (List ℕ → Result (List Bitmap) PbmFault × List ℕ) → Result Bitmap PbmFault × List ℕ → Result (List Bitmap) PbmFault × List ℕ
with_others others (Ok s, rest) = with_first s (others rest)
with_others others (Err fault, rest) = (Err fault, rest)

-- at most n images or the first error, and the bytes after the deciding one
abbrev pub images_by : ℕ → List ℕ → Result (List Bitmap) PbmFault × List ℕ
images_by limit [] = (Ok [], [])
images_by zero (b ∷ bytes) = (Err PbmSize, bytes)
images_by (suc limit) (b ∷ bytes) = with_others (images_by limit) (image_of (b ∷ bytes))

-- the same for a file of at most 4,096 images
abbrev pub images_of : List ℕ → Result (List Bitmap) PbmFault × List ℕ
images_of bytes = images_by 4096 bytes

-- ---- what was read

-- no byte is refused: the bytes are a whole file, or the beginning of one
abbrev pub IsOpen : {A : Type 0} → Result A PbmFault × List ℕ → Type 0
IsOpen {A} r = (r ≡ (Err Truncated, [])) ⊎ ((x : A) × (r ≡ (Ok x, [])))

-- the bytes are all that was read for this answer: none after the deciding one, and none is refused if reading stopped
-- for another reason
abbrev pub BytesTell : {A : Type 0} → Result A PbmFault × List ℕ → Option (List ℕ) → Result A PbmFault → Type 0
BytesTell r left (Ok x) = r ≡ (Ok x, [])
BytesTell r left (Err Truncated) = (r ≡ (Err Truncated, [])) × IsAtEnd left
BytesTell r left (Err ReadFault) = IsOpen r
BytesTell r left (Err NoMemory) = IsOpen r
BytesTell r left (Err NotP4) = r ≡ (Err NotP4, [])
BytesTell r left (Err PbmHeader) = r ≡ (Err PbmHeader, [])
BytesTell r left (Err PbmSize) = r ≡ (Err PbmSize, [])

-- the reader gave bytes that determine this answer
pub record ReadsBytes {A : Type 0} (told : List ℕ → Result A PbmFault × List ℕ) (old new : Option (List ℕ)) (answer : Result A PbmFault) : Type 0 where
  pub bytes : List ℕ
  pub consumed : Consumes old new bytes
  pub tells : BytesTell (told bytes) new answer
