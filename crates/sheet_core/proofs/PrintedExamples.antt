-- A printed label and small files, by computing.
use Rattle.std.proofs.Common.{◌≡◌, ℕ, List, [], ◌∷◌, ◌++◌, Ok, Err, refl}
use Rattle.std.specs.Prelude.{codes}
use Rattle.ean_code.specs.Symbols.{widths_of}
use Rattle.ean_code.specs.declared.kind.Kind.TheVariants.{Ean13}
use Rattle.scan_core.specs.Bits.{dots_at}
use Rattle.sheet_core.specs.declared.fault.PbmFault.TheVariants.{NotP4, PbmHeader, PbmSize, Truncated}
use Rattle.sheet_core.specs.Bitmaps.{Bitmap}
use Rattle.sheet_core.specs.Drawing.{bar_dots}
use Rattle.sheet_core.specs.pbm.Images.{images_of}

-- 9501101530003 at one dot a module in a cell of 113 dots
printed : dots_at (0x00 ∷ 0x15 ∷ 0x8A ∷ 0x76 ∷ 0x66 ∷ 0x53 ∷ 0x99 ∷ 0x54 ∷ 0xE8 ∷ 0x5C ∷ 0xB9 ∷ 0x72 ∷ 0x85 ∷ 0x40 ∷ 0x00 ∷ []) 0 113
    ≡ bar_dots (record { dots = 1; width = 113; height = 3; columns = 1; rows = 1 })
    (record { modules = widths_of Ean13 (9 ∷ 5 ∷ 0 ∷ 1 ∷ 1 ∷ 0 ∷ 1 ∷ 5 ∷ 3 ∷ 0 ∷ 0 ∷ 0 ∷ 3 ∷ []); quiet_left = 11; quiet_right = 7 })
printed = refl

abbrev sheet : Bitmap
sheet = record { width = 10; height = 2; bytes = 0xAA ∷ 0x80 ∷ 0x55 ∷ 0x40 ∷ [] }

abbrev header : List ℕ
header = codes "P4" ++ 10 ∷ codes "# a" ++ 10 ∷ codes "10 2" ++ 10 ∷ []

read : images_of (header ++ 0xAA ∷ 0x80 ∷ 0x55 ∷ 0x40 ∷ []) ≡ (Ok (sheet ∷ []), [])
read = refl

pad_bits_set : images_of (header ++ 0xAA ∷ 0xBF ∷ 0x55 ∷ 0x40 ∷ []) ≡ (Ok (sheet ∷ []), [])
pad_bits_set = refl

short : images_of (header ++ 0xAA ∷ 0x80 ∷ 0x55 ∷ []) ≡ (Err Truncated, [])
short = refl

plain : images_of (codes "P1" ++ 10 ∷ codes "10 2") ≡ (Err NotP4, 10 ∷ codes "10 2")
plain = refl

no_columns : images_of (codes "P4" ++ 10 ∷ codes "0 2") ≡ (Err PbmSize, codes "2")
no_columns = refl

letter : images_of (codes "P4" ++ 10 ∷ codes "x") ≡ (Err PbmHeader, [])
letter = refl

empty : images_of [] ≡ (Ok [], [])
empty = refl
