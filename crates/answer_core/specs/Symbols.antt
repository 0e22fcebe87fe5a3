-- Which symbol was read, and its identifier (GS1 General Specifications, section 5.1.3).
use Rattle.std.specs.Prelude.{ℕ, Bool, false, ◌==◌, ◌&&◌, List, [], ◌∷◌, Option, Some, None, drop, length, slice_index_or, take, if◌then◌else◌}
use Rattle.message_core.specs.Symbologies.{identifier_of, symbology_named}
use Rattle.message_core.specs.declared.head.Head.{Head}
use Rattle.message_core.specs.declared.head.Head.TheVariants as head
use Rattle.message_core.specs.declared.symbology.Symbology.{Symbology}
use Rattle.message_core.specs.declared.symbology.Symbology.TheVariants as symbology
use Rattle.scan_core.specs.declared.carrier.Carrier.{Carrier}
use Rattle.scan_core.specs.declared.carrier.Carrier.TheVariants as carrier
use Rattle.answer_core.specs.declared.symbol.SymbolKind.{SymbolKind}
use Rattle.answer_core.specs.declared.symbol.SymbolKind.TheVariants.{Unknown, Ean13, UpcA, UpcE, Ean8, Itf14, Gs1128, DataBar, DataMatrix, QrCode, DotCode}

-- the number of a kind of symbol
abbrev pub symbol_number : SymbolKind → ℕ
symbol_number Unknown = 0
symbol_number Ean13 = 1
symbol_number UpcA = 2
symbol_number UpcE = 3
symbol_number Ean8 = 4
symbol_number Itf14 = 5
symbol_number Gs1128 = 6
symbol_number DataBar = 7
symbol_number DataMatrix = 8
symbol_number QrCode = 9
symbol_number DotCode = 10

-- an element string that begins with a GTIN of 12 digits: two zeros stand behind its AI
abbrev pub begins_zeros : List ℕ → Bool
begins_zeros (a ∷ b ∷ c ∷ d ∷ text) = (c == 48) && (d == 48)
begins_zeros _ = false

-- the symbol that was read in a row, of this element string: an EAN-13 of a GTIN of 12 digits is a UPC-A
abbrev pub carrier_symbol : Carrier → List ℕ → SymbolKind
carrier_symbol carrier.Ean13 text = if begins_zeros text then UpcA else Ean13
carrier_symbol carrier.Ean8 text = Ean8
carrier_symbol carrier.UpcE text = UpcE
carrier_symbol carrier.Itf14 text = Itf14
carrier_symbol carrier.Gs1128 text = Gs1128

-- the symbol of the digits behind `]E0`: 8 are a UPC-E's; 12, and 13 that begin with 0, are taken for a UPC-A's
abbrev pub ean_upc_symbol : List ℕ → SymbolKind
ean_upc_symbol digits =
    if length digits == 8 then UpcE
    else if length digits == 12 then UpcA
    else if slice_index_or digits 0 0 == 48 then UpcA else Ean13

-- the symbol that a scanner read, as the head of its message and the digits behind it say
abbrev pub sent_symbol : Option Head → List ℕ → SymbolKind
sent_symbol (Some (head.Symbology symbology.EanUpc)) text = ean_upc_symbol (drop 3 text)
sent_symbol (Some (head.Symbology symbology.Ean8)) text = Ean8
sent_symbol (Some (head.Symbology symbology.Itf14)) text = Itf14
sent_symbol (Some (head.Symbology symbology.Gs1128)) text = Gs1128
sent_symbol (Some (head.Symbology symbology.DataBar)) text = DataBar
sent_symbol (Some (head.Symbology symbology.DataMatrix)) text = DataMatrix
sent_symbol (Some (head.Symbology symbology.LinkDataMatrix)) text = DataMatrix
sent_symbol (Some (head.Symbology symbology.QrCode)) text = QrCode
sent_symbol (Some (head.Symbology symbology.LinkQrCode)) text = QrCode
sent_symbol (Some (head.Symbology symbology.DotCode)) text = DotCode
sent_symbol _ text = Unknown

-- three bytes and a 0; zeros for any others
abbrev pub as_four : List ℕ → List ℕ
as_four (a ∷ b ∷ c ∷ []) = a ∷ b ∷ c ∷ 0 ∷ []
as_four _ = 0 ∷ 0 ∷ 0 ∷ 0 ∷ []

-- the symbol of an identifier and the element string behind it: behind `]E0` an EAN-13, or a UPC-A if the GTIN has 12 digits
abbrev pub symbol_by : Option Symbology → List ℕ → SymbolKind
symbol_by (Some symbology.EanUpc) text = carrier_symbol carrier.Ean13 text
symbol_by (Some s) text = sent_symbol (Some (head.Symbology s)) text
symbol_by None text = Unknown

abbrev pub identified_symbol : List ℕ → List ℕ → SymbolKind
identified_symbol identifier text = symbol_by (symbology_named (take 3 identifier)) text

-- the identifier that a scanner sent, with a 0 behind it; zeros if it sent none
abbrev pub sent_identifier : Option Head → List ℕ
sent_identifier (Some (head.Symbology s)) = as_four (identifier_of s)
sent_identifier _ = 0 ∷ 0 ∷ 0 ∷ 0 ∷ []
