-- Element strings: which texts they are, and the first fault of a text that is none
-- (GS1 General Specifications, section 7.8).
-- A text says one list of elements or has one first fault. A canonical text reads back as its elements.
use Rattle.std.specs.Prelude.{◌≡◌, ◌⊎◌, ℕ, ◌+◌, ◌-◌, ◌%◌, ◌<◌, ◌≤◌, Bool, true, false, ◌&&◌, ◌||◌, not, List, [], ◌∷◌, ◌++◌, length, take, drop, Option, Some, None, IsTrue, MatchOption, Contains, nat_le, nat_lt, ◌==◌, if◌then◌else◌, is_some, flat_map, map, slice_index_or, codes}
use Rattle.std.specs.Int.{is_in_range}
use Rattle.std.specs.List.{list_all, join_with_byte}
use Rattle.element_core.specs.declared.fault.ElementFault.{ElementFault}
use Rattle.element_core.specs.declared.fault.ElementFault.TheVariants.{Empty, UnknownAi, ValueLength, ValueCharacter, ValueCheckDigit, ValueDate, MissingSeparator, TooLong}
use Rattle.element_core.specs.declared.part.Part.{Part}
use Rattle.element_core.specs.declared.part.PartFormat.{PartFormat}
use Rattle.element_core.specs.declared.part.PartFormat.TheVariants.{Numeric, Alphanumeric, Component, Base64Url, Capitals, YesNo, Winding, Sex, Zero, Hyphen, Importer}
use Rattle.digits_core.specs.Digits.{AreDigits, IsChecked, ascii_of}
use Rattle.element_core.specs.Checks.{is_checked_by}
use Rattle.element_core.specs.Rules.{follows}
use Rattle.element_core.specs.Terms.{Terms, every_ai, profile, rows_by, row_by_terms}
use Rattle.element_core.specs.Times.{day_named_by, is_named, names_time, second_day_named_by, time_named_by}
use Rattle.element_core.specs.Table.{Row, first_rows, row_at, least_of, greatest_of, predefined_length, is_dated, is_7003_or_8008}

-- ---- values

-- an ASCII digit
abbrev pub is_digit : ℕ → Bool
is_digit b = is_in_range 48 57 b

-- the 82 characters: ! and ", from % to ?, A to Z, _ and a to z (GS1 General Specifications, section 7.11)
abbrev pub is_character : ℕ → Bool
is_character b = is_in_range 33 34 b || is_in_range 37 63 b || is_in_range 65 90 b || (b == 95) || is_in_range 97 122 b

-- a digit or a capital letter
abbrev pub is_capital_or_digit : ℕ → Bool
is_capital_or_digit b = is_digit b || is_in_range 65 90 b

-- one of the 64 characters: - _ 0 to 9, A to Z and a to z
abbrev pub is_of_64 : ℕ → Bool
is_of_64 b = (b == 45) || (is_digit b || (is_in_range 65 90 b || ((b == 95) || is_in_range 97 122 b)))

-- whether a part of this format may have the byte
abbrev pub belongs : PartFormat → ℕ → Bool
belongs Numeric b = is_digit b
belongs Alphanumeric b = is_character b
belongs Component b = (b == 35) || ((b == 45) || ((b == 47) || is_capital_or_digit b))
belongs Base64Url b = (b == 61) || is_of_64 b
belongs Capitals b = is_capital_or_digit b
belongs YesNo b = is_in_range 48 49 b
belongs Winding b = is_in_range 48 49 b || (b == 57)
belongs Sex b = is_in_range 48 50 b || (b == 57)
belongs Zero b = b == 48
belongs Hyphen b = b == 45
belongs Importer b = is_of_64 b

-- whether the bytes beyond the least are whole steps
abbrev pub has_whole_steps : Part → List ℕ → Bool
has_whole_steps part bytes = nat_le part.step 1 || ((length bytes - part.least) % part.step == 0)

-- whether each byte belongs to the part, and the bytes are as its rule says
abbrev pub has_characters : Part → List ℕ → Bool
has_characters part bytes = list_all (belongs part.format) bytes && follows part.rule bytes

-- whether the characters that check others are right, if it has some
abbrev pub has_check_digit : Part → List ℕ → Bool
has_check_digit part bytes = is_checked_by part.check bytes

-- whether each part of a value passes a test; every part but the last has one length alone
abbrev pub each_part : (Part → List ℕ → Bool) → List Part → List ℕ → Bool
each_part test [] value = true
each_part test (p ∷ parts) value = test p (take p.greatest value) && each_part test parts (drop p.greatest value)

-- a value that these parts allow
pub record IsValue (year : ℕ) (parts : List Part) (value : List ℕ) : Type 0 where
  pub least : least_of parts ≤ length value
  pub greatest : length value ≤ greatest_of parts
  pub steps : IsTrue (each_part has_whole_steps parts value)
  pub characters : IsTrue (each_part has_characters parts value)
  pub check_digits : IsTrue (each_part has_check_digit parts value)
  pub dates : IsTrue (each_part (λ p. is_named year p.rule) parts value)

-- ---- elements

-- an AI and a value
pub record Entry : Type 0 where
  pub ai : List ℕ
  pub value : List ℕ

-- an element by its row of a table
pub record IsElement (table : List Row) (year : ℕ) (row : Row) (e : Entry) : Type 0 where
  pub listed : Contains table row
  pub ai : e.ai ≡ row.ai
  pub value : IsValue year row.parts e.value

-- ---- joined pieces

-- an element, and whether a separator stands after it
pub record Piece : Type 0 where
  pub element : Entry
  pub separated : Bool

-- the AI, the value and the separator, if it has one
abbrev pub piece_text : Piece → List ℕ
piece_text p = p.element.ai ++ p.element.value ++ (if p.separated then 29 ∷ [] else [])

-- the pieces, one after another
abbrev pub joined : List Piece → List ℕ
joined pieces = flat_map piece_text pieces

-- a piece before what is left of the text
pub record IsPiece (table : List Row) (year : ℕ) (p : Piece) (left : List ℕ) : Type 0 where
  pub row : Row
  pub element : IsElement table year row p.element
  -- it has a separator, or its length is predefined, or the text ends with it
  pub ends : IsTrue (row.predefined || (p.separated || (length left == 0)))
  -- a separator that stands directly after its value is its own
  pub own : IsTrue (p.separated || not (slice_index_or left 0 0 == 29))

-- each is a piece before what follows it
abbrev pub ArePieces : List Row → ℕ → List Piece → List ℕ → Type 0
ArePieces table year [] rest = Unit {0}
ArePieces table year (p ∷ pieces) rest = IsPiece table year p (joined pieces ++ rest) × ArePieces table year pieces rest

-- the text is joined pieces of these elements, and the rest
pub record ReadsElements (table : List Row) (year : ℕ) (text : List ℕ) (es : List Entry) (rest : List ℕ) : Type 0 where
  pub pieces : List Piece
  pub elements : es ≡ map (λ p. p.element) pieces
  pub pieces_are : ArePieces table year pieces rest
  pub text_is : text ≡ joined pieces ++ rest

-- the element string of this list, by a table
pub record IsElementsBy (table : List Row) (year : ℕ) (text : List ℕ) (es : List Entry) : Type 0 where
  pub some : 0 < length text
  pub fits : length text ≤ 192
  pub reads : ReadsElements table year text es []

-- the element string of this list
abbrev pub IsElements : Terms → List ℕ → List Entry → Type 0
IsElements terms text es = IsElementsBy (rows_by terms) terms.year text es

-- ---- faults

-- what stands up to the next separator, or to the end
abbrev pub field_of : List ℕ → List ℕ
field_of [] = []
field_of (b ∷ text) = if b == 29 then [] else b ∷ field_of text

-- the value that stands in a field
abbrev pub value_in : Row → List ℕ → List ℕ
value_in row field = if row.predefined then take (greatest_of row.parts) field else field

-- the first test that a value of these parts fails, its length first, where this is the fault of one that is too long
abbrev pub row_fault : ℕ → ℕ → ElementFault → List Part → List ℕ → Option ElementFault
row_fault year place too_long parts value =
    if nat_lt (length value) (least_of parts) then Some (ValueLength place)
    else if nat_lt (greatest_of parts) (length value) then Some too_long
    else if not (each_part has_whole_steps parts value) then Some (ValueLength place)
    else if not (each_part has_characters parts value) then Some (ValueCharacter place)
    else if not (each_part has_check_digit parts value) then Some (ValueCheckDigit place)
    else if not (each_part (λ p. is_named year p.rule) parts value) then Some (ValueDate place)
    else None

-- the fault at the beginning of a text, whose element stands at this place, by the row of its AI
abbrev pub fault_by : Terms → ℕ → List ℕ → Option Row → Option ElementFault
fault_by year place text None = Some (UnknownAi place)
fault_by year place text (Some row) = row_fault year.year place (MissingSeparator place) row.parts (value_in row (field_of (drop (length row.ai) text)))

-- elements, and then a fault
pub record StopsWith (year : Terms) (text : List ℕ) (f : ElementFault) : Type 0 where
  pub before : List Entry
  pub rest : List ℕ
  pub reads : ReadsElements (rows_by year) year.year text before rest
  pub some : 0 < length rest
  pub place : ℕ
  pub place_is : place + length rest ≡ length text
  pub fault : fault_by year place rest (row_by_terms year rest) ≡ Some f

-- a text of too many bytes, or of none
abbrev pub size_fault : List ℕ → Option ElementFault
size_fault text = if nat_lt 192 (length text) then Some TooLong else if length text == 0 then Some Empty else None

-- the first fault of a text: its size, or what stands after the elements that are read of it
abbrev pub FirstFault : Terms → List ℕ → ElementFault → Type 0
FirstFault year text f = MatchOption (size_fault text) (StopsWith year text f) (λ g. f ≡ g)

-- ---- the canonical text

-- a separator, if the first two digits of the AI don't say how long the value is
abbrev pub separator_for : Entry → List ℕ
separator_for e = if is_some (predefined_length e.ai) then [] else 29 ∷ []

-- a separator exactly after each element that is not predefined and not the last
abbrev pub canonical : List Entry → List ℕ
canonical [] = []
canonical (e ∷ []) = e.ai ++ e.value
canonical (e ∷ f ∷ es) = e.ai ++ e.value ++ separator_for e ++ canonical (f ∷ es)

-- the parts of a value, by the row of its AI
abbrev pub parts_by : Option Row → List Part
parts_by None = []
parts_by (Some row) = row.parts

-- the parts of a value with this AI
abbrev pub parts_at : List ℕ → List Part
parts_at ai = parts_by (row_at ai)

-- the element of a GTIN: AI 01 and its 14 digits
abbrev pub gtin_entry : List ℕ → Entry
gtin_entry gtin = record { ai = codes "01"; value = ascii_of gtin }

-- the day that a value names, by its parts: one with a day stands alone
abbrev pub day_by : ℕ → List ℕ → List Part → Option (ℕ × ℕ × ℕ)
day_by year value (p ∷ []) = day_named_by p.rule value year
day_by year value _ = None

-- the day of an element, if its AI is one of a day
abbrev pub entry_day : Terms → Entry → Option (ℕ × ℕ × ℕ)
entry_day year e = day_by year.year e.value (parts_at e.ai)

-- the second day that a value names, by its parts
abbrev pub second_day_by : ℕ → List ℕ → List Part → Option (ℕ × ℕ × ℕ)
second_day_by year value (p ∷ []) = second_day_named_by p.rule value year
second_day_by year value _ = None

-- the last day of an element, if its AI is one of a period and it names a second day
abbrev pub entry_until : Terms → Entry → Option (ℕ × ℕ × ℕ)
entry_until year e = second_day_by year.year e.value (parts_at e.ai)

-- the hours, the minutes and the seconds that a value names, by its parts
abbrev pub time_by : List ℕ → List Part → Option (List ℕ)
time_by value (p ∷ []) = time_named_by p.rule value
time_by value _ = None

-- whether a value of these parts and this many bytes names a time
abbrev pub is_timed : List Part → ℕ → Bool
is_timed (p ∷ []) count = names_time p.rule count
is_timed _ count = false

-- the hours, the minutes and the seconds of an element, if its AI is one of a time
abbrev pub entry_time : Entry → Option (List ℕ)
entry_time e = time_by e.value (parts_at e.ai)

-- "(", AI, ")", value of each
abbrev pub hri : List Entry → List ℕ
hri es = flat_map (λ e. (40 ∷ e.ai) ++ (41 ∷ e.value)) es

-- an element as a pair: its AI, "=" and its value
abbrev pub pair_text : Entry → List ℕ
pair_text e = e.ai ++ (61 ∷ e.value)

-- the pairs, with a tab between each two
abbrev pub pairs_text : List Entry → List ℕ
pairs_text es = join_with_byte 9 (map pair_text es)

-- ---- what callers see of a list of elements

-- a list of elements under its reference year
pub record Listing : Type 0 where
  pub year : Terms
  pub list : List Entry

-- one of the 82 characters, or #, which is one of the 39
abbrev pub is_value_byte : ℕ → Bool
is_value_byte b = is_character b || (b == 35)

-- a separator or a byte of a value
abbrev pub is_text_byte : ℕ → Bool
is_text_byte b = (b == 29) || is_value_byte b

-- a text that begins with two digits
abbrev pub begins_with_digits : List ℕ → Bool
begins_with_digits (a ∷ b ∷ text) = is_digit a && is_digit b
begins_with_digits _ = false

-- a text of separators and bytes of values alone, with two digits first
abbrev pub is_printable : List ℕ → Bool
is_printable text = list_all is_text_byte text && begins_with_digits text

-- ---- laws

-- a text is one list of elements, or has one first fault, and not both
abbrev pub OneListOrFault : Type 0
OneListOrFault = (year : Terms) (text : List ℕ) →
    ((es fs : List Entry) → IsElements year text es → IsElements year text fs → es ≡ fs)
    × ((f g : ElementFault) → FirstFault year text f → FirstFault year text g → f ≡ g)
    × ((es : List Entry) (f : ElementFault) → IsElements year text es → FirstFault year text f → ⊥)

-- the canonical text of a list is an element string of the same list, and no longer
abbrev pub CanonicalReads : Type 0
CanonicalReads = (year : Terms) (text : List ℕ) (es : List Entry) → IsElements year text es
    → IsElements year (canonical es) es × (length (canonical es) ≤ length text)

-- different lists of elements have different pairs: no AI has the byte "=", and no value a tab
abbrev pub PairsDiffer : Type 0
PairsDiffer = (year other : Terms) (text more : List ℕ) (es fs : List Entry) → IsElements year text es → IsElements other more fs
    → pairs_text es ≡ pairs_text fs → es ≡ fs

-- each text is a list of elements or has a first fault
abbrev pub EachText : Type 0
EachText = (year : Terms) (text : List ℕ) →
    ((es : List Entry) × IsElements year text es) ⊎ ((f : ElementFault) × FirstFault year text f)

-- an element has a day exactly if its AI is one of a day
abbrev pub DatedElements : Type 0
DatedElements = (year : Terms) (row : Row) (e : Entry) → IsElement (rows_by year) year.year row e
    → is_some (entry_day year e) ≡ is_dated row.parts

-- an element has a time exactly if its AI is one of a time
abbrev pub TimedElements : Type 0
TimedElements = (year : Terms) (row : Row) (e : Entry) → IsElement (rows_by year) year.year row e
    → is_some (entry_time e) ≡ is_timed row.parts (length e.value)

-- in the profile exactly if its AI is 7003 or 8008
abbrev pub TimedInProfile : Type 0
TimedInProfile = (year : ℕ) (row : Row) (e : Entry) → IsElement (rows_by (profile year)) year row e
    → is_some (entry_time e) ≡ is_7003_or_8008 row.ai

-- each text that was read by the table of the first edition is read as the same list
abbrev pub ReadAsBefore : Type 0
ReadAsBefore = (year : ℕ) (text : List ℕ) (es : List Entry) → IsElementsBy first_rows year text es → IsElements (profile year) text es

-- what is read by the profile is read as the same list by every AI
abbrev pub ProfileWithin : Type 0
ProfileWithin = (year : ℕ) (text : List ℕ) (es : List Entry) → IsElements (profile year) text es → IsElements (every_ai year) text es

-- the element of a GTIN is read back from its text, under each reference year
abbrev pub GtinReads : Type 0
GtinReads = (gtin : List ℕ) (year : Terms) → length gtin ≡ 14 → AreDigits gtin → IsChecked gtin
    → IsElements year (canonical (gtin_entry gtin ∷ [])) (gtin_entry gtin ∷ [])
