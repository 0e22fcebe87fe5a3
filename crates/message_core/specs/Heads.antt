-- How a message begins.
use Rattle.std.specs.Prelude.{◌==◌, ◌&&◌, ◌||◌, not, ℕ, Bool, false, List, [], ◌∷◌, Option, Some, None, length, nat_le, slice_index, take, if◌then◌else◌}
use Rattle.std.specs.Char.{is_ascii_digit}
use Rattle.std.specs.List.{list_all}
use Rattle.message_core.specs.Links.{begins_link}
use Rattle.message_core.specs.Symbologies.{symbology_named}
use Rattle.message_core.specs.declared.head.Head.{Head}
use Rattle.message_core.specs.declared.head.Head.TheVariants as head
use Rattle.message_core.specs.declared.symbology.Symbology.{Symbology}

-- with `]`, as a symbology identifier does
abbrev pub begins_bracketed : List ℕ → Bool
begins_bracketed [] = false
begins_bracketed (b ∷ text) = b == 93

-- with the separator, or with `^` in its place
abbrev pub begins_separated : List ℕ → Bool
begins_separated [] = false
begins_separated (b ∷ text) = (b == 29) || (b == 94)

-- with eight digits
abbrev pub begins_with_eight : List ℕ → Bool
begins_with_eight text = nat_le 8 (length text) && list_all is_ascii_digit (take 8 text)

-- with eight digits, except exactly eight that begin with 0: these may be an EAN-8 or a UPC-E
abbrev pub is_bare : List ℕ → Bool
is_bare text = begins_with_eight text && not ((length text == 8) && (slice_index text 0 == 48))

-- a field that begins as a message does and as no widths do: a width has digits alone, and five at most
abbrev pub is_message : List ℕ → Bool
is_message text = begins_bracketed text || (begins_separated text || (begins_with_eight text || begins_link text))

-- the head of a message with an identifier
abbrev pub symbology_head : Option Symbology → Option Head
symbology_head (Some symbology) = Some (head.Symbology symbology)
symbology_head None = None

-- how a message begins, if it begins as one that is taken
abbrev pub head_of : List ℕ → Option Head
head_of text =
    if begins_bracketed text then symbology_head (symbology_named (take 3 text))
    else if begins_separated text then Some head.Separator
    else if is_bare text then Some head.Digits
    else if begins_link text then Some head.Link
    else None
