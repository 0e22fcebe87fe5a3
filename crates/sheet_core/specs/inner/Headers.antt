-- Words for types, private contracts and proofs, beside `Headers`.
use Rattle.std.specs.Prelude.{ℕ, ◌&&◌, nat_le, Bool, true, false, Option, Some, None}
use Rattle.sheet_core.specs.declared.fault.PbmFault.TheVariants.{NotP4, PbmHeader, Truncated, PbmSize, ReadFault, NoMemory}
use Rattle.sheet_core.specs.declared.pbm.state.State.{State}
use Rattle.sheet_core.specs.declared.pbm.state.State.TheVariants.{Start, Magic, Blanks, Comment, Number}
use Rattle.sheet_core.specs.declared.pbm.state.Step.{Step}
use Rattle.sheet_core.specs.declared.pbm.state.Step.TheVariants.{Goes, Done, Refused}
use Rattle.sheet_core.specs.pbm.Headers.{is_size}

-- a width that is known is within the limits
abbrev pub may_be_width : Option ℕ → Bool
may_be_width None = true
may_be_width (Some width) = is_size width

-- the invariant of the states of a header
abbrev pub is_reached : State → Bool
is_reached Start = true
is_reached Magic = true
is_reached (Blanks width some) = may_be_width width
is_reached (Comment width) = may_be_width width
is_reached (Number width n) = may_be_width width && nat_le n 65536

-- the same for the effect of a byte: the header goes on, ends with a size, or is refused for what it is
abbrev pub is_reached_by : Step → Bool
is_reached_by (Goes s) = is_reached s
is_reached_by (Done size) = is_size size.width && is_size size.height
is_reached_by (Refused NotP4) = true
is_reached_by (Refused PbmHeader) = true
is_reached_by (Refused PbmSize) = true
is_reached_by (Refused Truncated) = false
is_reached_by (Refused ReadFault) = false
is_reached_by (Refused NoMemory) = false
