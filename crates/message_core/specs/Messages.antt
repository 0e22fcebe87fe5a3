-- What messages of scanners say, and their lines.
use Rattle.std.specs.Prelude.{◌≡◌, ◌==◌, ◌++◌, ℕ, Bool, true, false, List, [], ◌∷◌, Option, Some, None, Result, Ok, Err, codes, drop, length, if◌then◌else◌}
use Rattle.std.specs.Str.{IsTrimAsciiEnd}
use Rattle.digits_core.specs.Digits.{digits_of, padded}
use Rattle.digits_core.specs.Gtins.{gtin_fault}
use Rattle.digits_core.specs.declared.fault.DigitFault.{DigitFault}
use Rattle.digits_core.specs.declared.fault.DigitFault.TheVariants.{Length}
use Rattle.element_core.specs.Elements.{Entry, FirstFault, IsElements, gtin_entry}
use Rattle.element_core.specs.Lines.{elements_text}
use Rattle.element_core.specs.Terms.{Terms}
use Rattle.element_core.specs.declared.form.Form.{Form}
use Rattle.message_core.specs.Faults.{message_fault_text}
use Rattle.message_core.specs.Heads.{head_of}
use Rattle.message_core.specs.Links.{link_said}
use Rattle.message_core.specs.Spellings.{spelled, without_separator}
use Rattle.message_core.specs.Symbologies.{identifier_of}
use Rattle.message_core.specs.Upce.{IsUpceSaid}
use Rattle.message_core.specs.declared.fault.MessageFault.{MessageFault}
use Rattle.message_core.specs.declared.fault.MessageFault.TheVariants.{Digits, Elements, Kind}
use Rattle.message_core.specs.declared.head.Head.{Head}
use Rattle.message_core.specs.declared.head.Head.TheVariants as head
use Rattle.message_core.specs.declared.symbology.Symbology.{Symbology}
use Rattle.message_core.specs.declared.symbology.Symbology.TheVariants as symbology
pub use Rattle.message_core.specs.Faults.{heard}

-- elements, or why there are none
abbrev pub Outcome : Type 0
Outcome = Result (List Entry) MessageFault

-- the digits of a GTIN, by their fault: the element of AI 01, or why they are none
abbrev pub gtin_said_by : List ℕ → Option DigitFault → Outcome
gtin_said_by digits None = Ok (gtin_entry (padded (digits_of digits)) ∷ [])
gtin_said_by digits (Some fault) = Err (Digits fault)

abbrev pub gtin_said : List ℕ → Outcome
gtin_said digits = gtin_said_by digits (gtin_fault digits)

-- the same of a symbol that has this many digits
abbrev pub sized_said : ℕ → List ℕ → Outcome
sized_said size digits = if length digits == size then gtin_said digits else Err (Digits Length)

-- the same of an EAN-13, a UPC-A or a UPC-E: 13 or 12 digits, or the eight of a UPC-E, which stand for others
abbrev pub IsEanUpcBy : Bool → List ℕ → Outcome → Type 0
IsEanUpcBy true digits told = IsUpceSaid digits told
IsEanUpcBy false digits told = told ≡ (if length digits == 14 then Err (Digits Length) else gtin_said digits)

abbrev pub IsEanUpcSaid : List ℕ → Outcome → Type 0
IsEanUpcSaid digits told = IsEanUpcBy (length digits == 8) digits told

-- an element string: its elements, or its first fault
abbrev pub IsStringSaid : Terms → List ℕ → Outcome → Type 0
IsStringSaid year text (Ok list) = IsElements year (spelled (without_separator text)) list
IsStringSaid year text (Err (Elements fault)) = FirstFault year (spelled (without_separator text)) fault
IsStringSaid year text (Err fault) = ⊥

-- a symbol of a symbology
abbrev pub IsSymbolSaid : Symbology → Terms → List ℕ → Outcome → Type 0
IsSymbolSaid symbology.EanUpc year said told = IsEanUpcSaid said told
IsSymbolSaid symbology.Ean8 year said told = told ≡ sized_said 8 said
IsSymbolSaid symbology.Itf14 year said told = told ≡ sized_said 14 said
IsSymbolSaid symbology.LinkDataMatrix year said told = told ≡ link_said year said
IsSymbolSaid symbology.LinkQrCode year said told = told ≡ link_said year said
IsSymbolSaid _ year said told = IsStringSaid year said told

-- a message by its head
abbrev pub IsHeadSaid : Terms → List ℕ → Option Head → Outcome → Type 0
IsHeadSaid year text (Some (head.Symbology s)) told = IsSymbolSaid s year (drop 3 text) told
IsHeadSaid year text (Some head.Separator) told = IsStringSaid year text told
IsHeadSaid year text (Some head.Digits) told = told ≡ gtin_said text
IsHeadSaid year text (Some head.Link) told = told ≡ link_said year text
IsHeadSaid year text None told = told ≡ Err Kind

-- what a message says; blanks at its end are skipped
abbrev pub IsMessage : Terms → List ℕ → Option Head → Outcome → Type 0
IsMessage year text head told = (said : List ℕ) × IsTrimAsciiEnd text said × (head ≡ head_of said) × IsHeadSaid year said head told

-- the identifier that was sent; `-` stands for none
abbrev pub word_by : Option Head → List ℕ
word_by (Some (head.Symbology s)) = identifier_of s
word_by _ = codes "-"

-- the line of what is said: the identifier and the elements in a form, or the refusal
abbrev pub message_text : Option Head → Form → Outcome → List ℕ
message_text head form (Ok list) = word_by head ++ (32 ∷ elements_text form list)
message_text head form (Err fault) = message_fault_text fault

abbrev pub IsMessageLine : Form → Terms → List ℕ → List ℕ → Type 0
IsMessageLine form year text line = (head : Option Head) × (told : Outcome) × IsMessage year text head told × (line ≡ message_text head form told)
