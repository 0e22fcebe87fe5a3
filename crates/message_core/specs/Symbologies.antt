-- Symbology identifiers (ISO/IEC 15424; GS1 General Specifications, section 5.1.3).
use Rattle.std.specs.Prelude.{ℕ, List, Option, Some, None, codes, if◌then◌else◌}
use Rattle.std.specs.Str.{bytes_eq}
use Rattle.message_core.specs.declared.symbology.Symbology.{Symbology}
use Rattle.message_core.specs.declared.symbology.Symbology.TheVariants as symbology

-- the identifier of a symbology
abbrev pub identifier_of : Symbology → List ℕ
identifier_of symbology.EanUpc = codes "]E0"
identifier_of symbology.Ean8 = codes "]E4"
identifier_of symbology.Itf14 = codes "]I1"
identifier_of symbology.Gs1128 = codes "]C1"
identifier_of symbology.DataBar = codes "]e0"
identifier_of symbology.DataMatrix = codes "]d2"
identifier_of symbology.QrCode = codes "]Q3"
identifier_of symbology.DotCode = codes "]J1"
identifier_of symbology.LinkDataMatrix = codes "]d1"
identifier_of symbology.LinkQrCode = codes "]Q1"

-- the symbology of this identifier
abbrev pub symbology_named : List ℕ → Option Symbology
symbology_named identifier =
    if bytes_eq identifier (identifier_of symbology.EanUpc) then Some symbology.EanUpc
    else if bytes_eq identifier (identifier_of symbology.Ean8) then Some symbology.Ean8
    else if bytes_eq identifier (identifier_of symbology.Itf14) then Some symbology.Itf14
    else if bytes_eq identifier (identifier_of symbology.Gs1128) then Some symbology.Gs1128
    else if bytes_eq identifier (identifier_of symbology.DataBar) then Some symbology.DataBar
    else if bytes_eq identifier (identifier_of symbology.DataMatrix) then Some symbology.DataMatrix
    else if bytes_eq identifier (identifier_of symbology.QrCode) then Some symbology.QrCode
    else if bytes_eq identifier (identifier_of symbology.DotCode) then Some symbology.DotCode
    else if bytes_eq identifier (identifier_of symbology.LinkDataMatrix) then Some symbology.LinkDataMatrix
    else if bytes_eq identifier (identifier_of symbology.LinkQrCode) then Some symbology.LinkQrCode
    else None
