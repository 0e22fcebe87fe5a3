-- Why bytes are not images, by the grammar (netpbm, pbm(5)): the bytes end with the deciding one.
use Rattle.std.specs.Prelude.{◌≡◌, ◌≢◌, ◌⊎◌, ℕ, ◌*◌, ◌<◌, ◌≤◌, ◌==◌, ◌||◌, Bool, false, IsTrue, List, [], ◌∷◌, ◌++◌, Option, Some, None, length}
use Rattle.std.specs.List.{AllByRecursion, AllZip, concat}
use Rattle.sheet_core.specs.declared.fault.PbmFault.{PbmFault}
use Rattle.sheet_core.specs.declared.fault.PbmFault.TheVariants.{NotP4, PbmHeader, Truncated, PbmSize}
use Rattle.sheet_core.specs.declared.pbm.state.Size.{Size}
use Rattle.sheet_core.specs.Bitmaps.{Bitmap, stride}
use Rattle.sheet_core.specs.pbm.Grammar.{AreBlanks, IsBlank, IsHeader, IsImage, IsNumber, IsNumeral}
use Rattle.sheet_core.specs.pbm.Headers.{is_line_end, is_white}

-- ---- beginnings of a header

-- what comes before the blanks in front of a number: `P4` or, once the width is known, `P4`, blanks and the width
abbrev pub IsLead : Option ℕ → List ℕ → Type 0
IsLead None lead = lead ≡ 80 ∷ 52 ∷ []
IsLead (Some width) lead =
    (blanks : List (List ℕ)) × (digits : List ℕ) × AreBlanks blanks × IsNumber digits width × (lead ≡ 80 ∷ 52 ∷ (concat blanks ++ digits))

-- nothing, or a comment that has not ended
abbrev pub IsOpenComment : List ℕ → Type 0
IsOpenComment [] = Unit {0}
IsOpenComment (b ∷ text) = (b ≡ 35) × AllByRecursion (λ c. is_line_end c ≡ false) text

-- the beginning of a header, up to the blanks before a number or into a comment among them
pub record EndsInBlanks (width : Option ℕ) (bytes : List ℕ) : Type 0 where
  pub lead : List ℕ
  pub blanks : List (List ℕ)
  pub comment : List ℕ
  pub lead_is : IsLead width lead
  pub each : AllByRecursion IsBlank blanks
  pub comment_is : IsOpenComment comment
  pub joined : bytes ≡ lead ++ (concat blanks ++ comment)

-- the beginning of a header, into a number whose digits so far have the value n
pub record EndsInNumber (width : Option ℕ) (n : ℕ) (bytes : List ℕ) : Type 0 where
  pub lead : List ℕ
  pub blanks : List (List ℕ)
  pub digits : List ℕ
  pub lead_is : IsLead width lead
  pub blanks_are : AreBlanks blanks
  pub digits_are : IsNumeral digits n
  pub joined : bytes ≡ lead ++ (concat blanks ++ digits)

-- a beginning of a header: nothing, `P`, or `P4` and more up to blanks or a number
abbrev pub IsBeginning : List ℕ → Type 0
IsBeginning bytes =
    (bytes ≡ [])
    ⊎ ((bytes ≡ 80 ∷ [])
    ⊎ (((width : Option ℕ) × EndsInBlanks width bytes)
    ⊎ ((width : Option ℕ) × (n : ℕ) × EndsInNumber width n bytes)))

-- ---- refusals of a header

-- the first byte is not `P`, or the second is not `4`
abbrev pub IsNoMagic : List ℕ → Type 0
IsNoMagic bytes = ((b : ℕ) × (bytes ≡ b ∷ []) × (b ≢ 80)) ⊎ ((b : ℕ) × (bytes ≡ 80 ∷ b ∷ []) × (b ≢ 52))

-- whether a byte ends a number: white space, and after the width the # of a comment too
abbrev pub ends_number : Option ℕ → ℕ → Bool
ends_number None b = is_white b || (b == 35)
ends_number (Some width) b = is_white b

-- the last byte ends a number that is 0 or above 65,535
pub record EndsWrongNumber (bytes : List ℕ) : Type 0 where
  pub width : Option ℕ
  pub n : ℕ
  pub front : List ℕ
  pub last : ℕ
  pub number : EndsInNumber width n front
  pub wrong : (n ≡ 0) ⊎ (65535 < n)
  pub ends : IsTrue (ends_number width last)
  pub joined : bytes ≡ front ++ last ∷ []

-- neither a beginning of a header nor a header, and no wrong number ends with the last byte
pub record IsStray (bytes : List ℕ) : Type 0 where
  pub no_beginning : IsBeginning bytes → ⊥
  pub no_header : (size : Size) → IsHeader bytes size → ⊥
  pub no_number : EndsWrongNumber bytes → ⊥

-- after `P4` a byte that is not allowed there, or byte 4,097 of a header
pub record IsWrongHeader (bytes : List ℕ) : Type 0 where
  pub front : List ℕ
  pub last : ℕ
  pub beginning : IsBeginning front
  pub magic : 2 ≤ length front
  pub short : length front ≤ 4096
  pub wrong : (length front ≡ 4096) ⊎ IsStray (front ++ last ∷ [])
  pub joined : bytes ≡ front ++ last ∷ []

-- the bytes are refused as a header for this reason; a header that ends too early is a beginning of one
abbrev pub RefusesHeader : PbmFault → List ℕ → Type 0
RefusesHeader NotP4 bytes = IsNoMagic bytes
RefusesHeader PbmHeader bytes = IsWrongHeader bytes
RefusesHeader PbmSize bytes = EndsWrongNumber bytes × (length bytes ≤ 4096)
RefusesHeader Truncated bytes = IsBeginning bytes × (length bytes ≤ 4096)
RefusesHeader _ bytes = ⊥

-- ---- refusals of a file

-- a header with fewer rows than it announces
pub record EndsInRows (bytes : List ℕ) : Type 0 where
  pub size : Size
  pub header : List ℕ
  pub rows : List ℕ
  pub header_is : IsHeader header size
  pub short : length header ≤ 4096
  pub few : length rows < stride size.width * size.height
  pub joined : bytes ≡ header ++ rows

-- the bytes are refused as an image for this reason
abbrev pub RefusesImage : PbmFault → List ℕ → Type 0
RefusesImage Truncated bytes = RefusesHeader Truncated bytes ⊎ EndsInRows bytes
RefusesImage fault bytes = RefusesHeader fault bytes

-- images, then one of at least one byte that is refused; or a byte after 4,096 images
pub record RefusesFile (fault : PbmFault) (bytes : List ℕ) : Type 0 where
  pub images : List (List ℕ)
  pub sheets : List Bitmap
  pub last : List ℕ
  pub images_are : AllZip IsImage images sheets
  pub some : 0 < length last
  pub refused : ((length sheets < 4096) × RefusesImage fault last) ⊎ ((length sheets ≡ 4096) × (fault ≡ PbmSize) × (length last ≡ 1))
  pub joined : bytes ≡ concat images ++ last
