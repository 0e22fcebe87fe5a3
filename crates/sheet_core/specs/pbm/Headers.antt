-- Reading the header of a PBM image (netpbm, pbm(5)) byte by byte, up to its end or the first byte that is not allowed.
-- It accepts exactly what the grammar allows.
use Rattle.std.specs.Prelude.{ℕ, zero, suc, ◌+◌, ◌-◌, ◌*◌, ◌==◌, ◌&&◌, ◌||◌, nat_le, min, Bool, true, false, List, [], ◌∷◌, ◌++◌, Option, Some, None, Result, Ok, Err, if◌then◌else◌}
use Rattle.std.specs.Fmt.{decimal}
use Rattle.sheet_core.specs.declared.fault.PbmFault.{PbmFault}
use Rattle.sheet_core.specs.declared.fault.PbmFault.TheVariants.{NotP4, PbmHeader, Truncated, PbmSize}
use Rattle.sheet_core.specs.declared.pbm.state.Size.{Size}
use Rattle.sheet_core.specs.declared.pbm.state.State.{State}
use Rattle.sheet_core.specs.declared.pbm.state.State.TheVariants.{Start, Magic, Blanks, Comment, Number}
use Rattle.sheet_core.specs.declared.pbm.state.Step.{Step}
use Rattle.sheet_core.specs.declared.pbm.state.Step.TheVariants.{Goes, Done, Refused}
use Rattle.element_core.specs.Elements.{is_digit}

-- space, TAB, LF and CR
abbrev pub is_white : ℕ → Bool
is_white b = (b == 32) || ((b == 9) || ((b == 10) || (b == 13)))

-- LF and CR
abbrev pub is_line_end : ℕ → Bool
is_line_end b = (b == 10) || (b == 13)

-- the limits of a width and of a height
abbrev pub is_size : ℕ → Bool
is_size n = nat_le 1 n && nat_le n 65535

-- a number with one more digit; from 65,536 on it stays 65,536
abbrev pub grown : ℕ → ℕ → ℕ
grown n b = min (10 * n + (b - 48)) 65536

-- the effect of a byte after a digit of the width or, once the width is known, of the height; only the width may be
-- followed directly by a comment
abbrev pub number_step : Option ℕ → ℕ → ℕ → Step
number_step None n b =
    if is_digit b then Goes (Number None (grown n b))
    else if is_white b then (if is_size n then Goes (Blanks (Some n) true) else Refused PbmSize)
    else if b == 35 then (if is_size n then Goes (Comment (Some n)) else Refused PbmSize)
    else Refused PbmHeader
number_step (Some width) n b =
    if is_digit b then Goes (Number (Some width) (grown n b))
    else if is_white b then (if is_size n then Done (record { width = width; height = n }) else Refused PbmSize)
    else Refused PbmHeader

-- the effect of a byte in this state of the header
abbrev pub header_step : State → ℕ → Step
header_step Start b = if b == 80 then Goes Magic else Refused NotP4
header_step Magic b = if b == 52 then Goes (Blanks None false) else Refused NotP4
header_step (Blanks width some) b =
    if is_white b then Goes (Blanks width true)
    else if b == 35 then Goes (Comment width)
    else if some && is_digit b then Goes (Number width (b - 48))
    else Refused PbmHeader
header_step (Comment width) b = if is_line_end b then Goes (Blanks width true) else Goes (Comment width)
header_step (Number width n) b = number_step width n b

-- the size or the error, and the bytes after the deciding one
abbrev pub after_header_step : Step → (State → Result Size PbmFault × List ℕ) → List ℕ → Result Size PbmFault × List ℕ
after_header_step (Goes s) go rest = go s
after_header_step (Done size) go rest = (Ok size, rest)
after_header_step (Refused fault) go rest = (Err fault, rest)

-- the same for a header that may have n more bytes
abbrev pub header_by : ℕ → State → List ℕ → Result Size PbmFault × List ℕ
header_by limit s [] = (Err Truncated, [])
header_by zero s (b ∷ bytes) = (Err PbmHeader, bytes)
header_by (suc limit) s (b ∷ bytes) = after_header_step (header_step s b) (λ t. header_by limit t bytes) bytes

-- the same for a header of at most 4,096 bytes, at its beginning
abbrev pub header_of : List ℕ → Result Size PbmFault × List ℕ
header_of bytes = header_by 4096 Start bytes

-- a header as it is written
abbrev pub header_text : ℕ → ℕ → List ℕ
header_text width height = 80 ∷ 52 ∷ 10 ∷ (decimal width ++ 32 ∷ (decimal height ++ 10 ∷ []))
