-- What the definitions of messages and of Digital Links say together.
use Rattle.std.specs.Prelude.{◌≡◌, ◌↔◌, ◌⊎◌, ◌≤◌, ◌<◌, ◌-◌, ◌+◌, ◌++◌, ℕ, Bool, false, true, List, [], ◌∷◌, Option, Some, Ok, Err, codes}
use Rattle.std.specs.List.{AllByRecursion}
use Rattle.digits_core.specs.Digits.{AreAsciiDigits, digits_of}
use Rattle.digits_core.specs.Upce.{IsUpceOf}
use Rattle.element_core.specs.Elements.{Entry, gtin_entry, pairs_text}
use Rattle.element_core.specs.declared.form.Form.{Form}
use Rattle.element_core.specs.declared.form.Form.TheVariants.{Pairs}
use Rattle.message_core.specs.Coding.{decoded, encoded}
use Rattle.message_core.specs.Keys.{is_key, place_by}
use Rattle.message_core.specs.Links.{key_part}
use Rattle.element_core.specs.Terms.{Terms}
use Rattle.message_core.specs.Faults.{message_fault_text}
use Rattle.message_core.specs.Messages.{IsMessage, IsMessageLine, Outcome, word_by}
use Rattle.message_core.specs.declared.fault.MessageFault.{MessageFault}
use Rattle.message_core.specs.declared.head.Head.{Head}

-- ---- messages

-- a message says one thing
abbrev pub OneMessage : Type 0
OneMessage = (year : Terms) (text : List ℕ) (head other : Option Head) (told more : Outcome) → IsMessage year text head told → IsMessage year text other more
    → (head ≡ other) × (told ≡ more)

-- and so it has one line
abbrev pub OneMessageLine : Type 0
OneMessageLine = (f : Form) (year : Terms) (text line other : List ℕ) → IsMessageLine f year text line → IsMessageLine f year text other → line ≡ other

-- a message says these elements behind this identifier, or `-`
abbrev pub MessageSays : Terms → List ℕ → List ℕ → List Entry → Type 0
MessageSays year text word es = (head : Option Head) × IsMessage year text head (Ok es) × (word ≡ word_by head)

-- a message is refused by this line
abbrev pub IsRefusedBy : Terms → List ℕ → List ℕ → Type 0
IsRefusedBy year text line = (head : Option Head) × (fault : MessageFault) × IsMessage year text head (Err fault) × (line ≡ message_fault_text fault)

-- messages with one line of pairs say the same elements behind the same word, or are refused alike
abbrev pub PairsSayElements : Type 0
PairsSayElements = (year : Terms) (text more line : List ℕ) → IsMessageLine Pairs year text line → IsMessageLine Pairs year more line
    → ((word : List ℕ) × (es : List Entry) × (line ≡ word ++ (32 ∷ pairs_text es)) × MessageSays year text word es × MessageSays year more word es)
    ⊎ (IsRefusedBy year text line × IsRefusedBy year more line)

-- behind `]E0` the digit 0, six digits and their check digit say the GTIN that they are a spelling of
abbrev pub UpceIsExpanded : Type 0
UpceIsExpanded = (year : Terms) (six gtin : List ℕ) (check : ℕ) → AreAsciiDigits six → (48 ≤ check) × (check < 58) → IsUpceOf (digits_of six) (check - 48) gtin
    → MessageSays year (codes "]E0" ++ (48 ∷ six) ++ check ∷ []) (codes "]E0") (gtin_entry gtin ∷ [])

-- ---- Digital Links

-- a text with percent codes says what was encoded, whichever bytes besides `%` and `+` were kept
abbrev pub CodesAreRead : Type 0
CodesAreRead = (plus : ℕ) (is_kept : ℕ → Bool) (bytes : List ℕ) → is_kept 37 ≡ false → is_kept 43 ≡ false → AllByRecursion (λ b. b < 256) bytes
    → decoded plus (encoded is_kept bytes) ≡ bytes

-- AIs and values as segments
abbrev pub spread : List Entry → List (List ℕ)
spread [] = []
spread (e ∷ es) = e.ai ∷ e.value ∷ spread es

-- qualifiers of a key, each at a place behind that of the one before
abbrev pub StandInOrder : List ℕ → ℕ → List Entry → Type 0
StandInOrder key least [] = Unit {0}
StandInOrder key least (e ∷ es) = (place : ℕ) × (place_by key e.ai ≡ Some place) × (least ≤ place) × StandInOrder key (place + 1) es

-- the segments are stems, and then this part: a key, its value and its qualifiers in their order
pub record IsLinkPath (all part : List (List ℕ)) : Type 0 where
  pub stems : List (List ℕ)
  pub key : List ℕ
  pub value : List ℕ
  pub qualifiers : List Entry
  pub listed : is_key key ≡ true
  pub order : StandInOrder key 0 qualifiers
  pub part_is : part ≡ key ∷ value ∷ spread qualifiers
  pub all_is : all ≡ stems ++ part

-- segments have one such part at most, whatever the stems are, and it is what is found
abbrev pub KeyPartIs : Type 0
KeyPartIs = (all part : List (List ℕ)) → (key_part all ≡ Some part) ↔ IsLinkPath all part
