-- The grammar of a header and of a file of images (netpbm, pbm(5)).
use Rattle.std.specs.Prelude.{◌≡◌, ◌⊎◌, ℕ, ◌+◌, ◌-◌, ◌*◌, ◌<◌, ◌≤◌, false, true, IsTrue, List, [], ◌∷◌, ◌++◌, length}
use Rattle.std.specs.List.{AllByRecursion, AllZip, concat}
use Rattle.sheet_core.specs.declared.pbm.state.Size.{Size}
use Rattle.sheet_core.specs.Bitmaps.{Bitmap, stride}
use Rattle.element_core.specs.Elements.{is_digit}
use Rattle.sheet_core.specs.pbm.Headers.{is_line_end, is_white}
use Rattle.sheet_core.specs.pbm.Images.{bitmap_of}

-- a comment after its #, up to and including the end of its line
pub record IsComment (bytes : List ℕ) : Type 0 where
  pub text : List ℕ
  pub end : ℕ
  pub joined : bytes ≡ text ++ end ∷ []
  pub inside : AllByRecursion (λ b. is_line_end b ≡ false) text
  pub ends : is_line_end end ≡ true

-- a white-space byte or a comment
abbrev pub IsBlank : List ℕ → Type 0
IsBlank [] = ⊥
IsBlank (b ∷ bytes) = (IsTrue (is_white b) × (bytes ≡ [])) ⊎ ((b ≡ 35) × IsComment bytes)

-- one or more blanks
pub record AreBlanks (blanks : List (List ℕ)) : Type 0 where
  pub some : 0 < length blanks
  pub each : AllByRecursion IsBlank blanks

-- the number of digits that follow those of n
abbrev pub number_from : ℕ → List ℕ → ℕ
number_from n [] = n
number_from n (b ∷ digits) = number_from (10 * n + (b - 48)) digits

-- one or more digits have this value; leading zeros are allowed
pub record IsNumeral (digits : List ℕ) (n : ℕ) : Type 0 where
  pub some : 0 < length digits
  pub each : AllByRecursion (λ b. IsTrue (is_digit b)) digits
  pub value : n ≡ number_from 0 digits

-- the digits have the value of a width or a height
pub record IsNumber (digits : List ℕ) (n : ℕ) : Type 0 where
  pub numeral : IsNumeral digits n
  pub least : 1 ≤ n
  pub most : n ≤ 65535

-- `P4`, blanks, the width, blanks, the height and one white-space byte
pub record IsHeader (bytes : List ℕ) (size : Size) : Type 0 where
  pub before : List (List ℕ)
  pub between : List (List ℕ)
  pub width : List ℕ
  pub height : List ℕ
  pub last : ℕ
  pub before_is : AreBlanks before
  pub between_is : AreBlanks between
  pub width_is : IsNumber width size.width
  pub height_is : IsNumber height size.height
  pub last_is : IsTrue (is_white last)
  pub joined : bytes ≡ 80 ∷ 52 ∷ (concat before ++ (width ++ (concat between ++ (height ++ last ∷ []))))

-- a header of at most 4,096 bytes and the rows of the image; padding bits are ignored
pub record IsImage (bytes : List ℕ) (s : Bitmap) : Type 0 where
  pub size : Size
  pub header : List ℕ
  pub rows : List ℕ
  pub header_is : IsHeader header size
  pub short : length header ≤ 4096
  pub count : length rows ≡ stride size.width * size.height
  pub joined : bytes ≡ header ++ rows
  pub shown : s ≡ bitmap_of size rows

-- images one after another, with nothing between them
pub record IsPbm (bytes : List ℕ) (sheets : List Bitmap) : Type 0 where
  pub images : List (List ℕ)
  pub joined : bytes ≡ concat images
  pub each : AllZip IsImage images sheets
