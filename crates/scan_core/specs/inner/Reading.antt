-- What types, private contracts and proofs name beside `Reading`.
use Rattle.std.specs.Prelude.{◌≡◌, ℕ, List, ◌++◌, Result, Ok, Err, codes, nat_lt, if◌then◌else◌}
use Rattle.digits_core.specs.Digits.{ascii_of}
use Rattle.element_core.specs.Terms.{Terms}
use Rattle.element_core.specs.Elements.{IsElements, FirstFault, Listing}
use Rattle.element_core.specs.declared.fault.ElementFault.{ElementFault}
use Rattle.code128_code.specs.Texts.{symbol_text}
use Rattle.scan_core.specs.declared.fault.RowFault.{RowFault}
use Rattle.scan_core.specs.declared.fault.RowFault.TheVariants.{SymbolCheckDigit, Elements}
use Rattle.scan_core.specs.declared.stage.Stage.{Stage}
use Rattle.scan_core.specs.declared.carrier.Carrier.{Carrier}
use Rattle.scan_core.specs.declared.found.Found.{Found}
use Rattle.scan_core.specs.declared.found.Found.TheVariants as found
use Rattle.scan_core.specs.Reading.{ReadSymbol}
use Rattle.scan_core.specs.Reading.ReadSymbol.{Number, BadCheckDigit, Characters}
use Rattle.code128_code.specs.declared.symbol_values.Values.{Values}
use Rattle.scan_core.specs.Answers.{row_text}
use Rattle.scan_core.specs.inner.Stages.{number_of}

-- the later one of two stages
abbrev pub later : Stage → Stage → Stage
later first second = if nat_lt (number_of first) (number_of second) then second else first

-- the text of a number: AI 01 and its fourteen digits
abbrev pub number_text : List ℕ → Result (List ℕ) RowFault
number_text gtin = Ok (codes "01" ++ ascii_of gtin)

-- the text that the values of a Code 128 symbol say, or their fault
abbrev pub text_in : Values → Result (List ℕ) RowFault
text_in values = row_text (symbol_text values.start values.values.items values.check)

-- what a symbol spells, by what it was found to be
abbrev pub symbol_content : ReadSymbol → Result (List ℕ) RowFault
symbol_content (Number gtin) = number_text gtin
symbol_content BadCheckDigit = Err SymbolCheckDigit
symbol_content (Characters values) = text_in values

-- what is found in a row that shows this symbol of the carrier
abbrev pub found_of : Carrier → ReadSymbol → Found
found_of carrier (Number gtin) = found.Number carrier gtin
found_of carrier BadCheckDigit = found.Refused SymbolCheckDigit
found_of carrier (Characters values) = found.Characters carrier values

-- under this reference year these are the elements of what is spelled, or this is the fault
abbrev pub IsReadAs : Terms → Result (List ℕ) RowFault → Result Listing RowFault → Type 0
IsReadAs year (Ok text) (Ok listing) = (listing.year ≡ year) × IsElements year text listing.list
IsReadAs year (Ok text) (Err fault) = (first : ElementFault) × FirstFault year text first × (fault ≡ Elements first)
IsReadAs year (Err fault) read = read ≡ Err fault
