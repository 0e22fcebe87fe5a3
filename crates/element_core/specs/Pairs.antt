-- Elements that are given as pairs.
use Rattle.std.specs.Prelude.{◌≡◌, ◌⊎◌, ◌↔◌, ℕ, ◌+◌, ◌<◌, ◌≤◌, ◌++◌, not, List, [], ◌∷◌, length, map, Option, Some, None, Contains, IsTrue, nat_lt, ◌==◌, if◌then◌else◌}
use Rattle.std.specs.List.{list_all}
use Rattle.element_core.specs.declared.fault.ElementFault.{ElementFault}
use Rattle.element_core.specs.declared.fault.ElementFault.TheVariants.{Empty, UnknownAi, ValueLength, TooLong}
use Rattle.element_core.specs.declared.pairs.Pair.{Pair}
use Rattle.element_core.specs.declared.part.Part.{Part}
use Rattle.element_core.specs.Table.{Row, least_of, greatest_of}
use Rattle.element_core.specs.Terms.{Terms, rows_by, row_by_terms}
use Rattle.element_core.specs.Elements.{Entry, IsElements, each_part, has_whole_steps, row_fault, fault_by, canonical}

-- the entry of a pair
abbrev pub entry_of : Pair → Entry
entry_of p = record { ai = p.ai.items; value = p.value.items }

-- the entries of pairs
abbrev pub entries_of : List Pair → List Entry
entries_of pairs = map entry_of pairs

-- the fault of an entry at an index, by the row that its AI begins with
abbrev pub entry_fault_by : Terms → ℕ → Entry → Option Row → Option ElementFault
entry_fault_by year i e None = Some (UnknownAi i)
entry_fault_by year i e (Some row) =
    if not (length e.ai == length row.ai) then Some (UnknownAi i) else row_fault year.year i (ValueLength i) row.parts e.value

-- the fault of an entry at an index
abbrev pub entry_fault : Terms → ℕ → Entry → Option ElementFault
entry_fault year i e = entry_fault_by year i e (row_by_terms year e.ai)

-- the first fault, or else the second
abbrev pub or_else : Option ElementFault → Option ElementFault → Option ElementFault
or_else (Some f) o = Some f
or_else None o = o

-- the fault of the first faulty entry, the first of them at index i
abbrev pub entries_fault : Terms → ℕ → List Entry → Option ElementFault
entries_fault year i [] = None
entries_fault year i (e ∷ es) = or_else (entry_fault year i e) (entries_fault year (i + 1) es)

-- the fault of a list: it is empty, or has a faulty entry, or its text is too long
abbrev pub list_fault : Terms → List Entry → Option ElementFault
list_fault year es =
    if length es == 0 then Some Empty
    else or_else (entries_fault year 0 es) (if nat_lt 192 (length (canonical es)) then Some TooLong else None)

-- ---- laws

-- pairs have no fault exactly if they are the elements of their canonical text
abbrev pub FaultlessPairs : Type 0
FaultlessPairs = (year : Terms) (es : List Entry) → (list_fault year es ≡ None) ↔ IsElements year (canonical es) es

-- the AI of the entry is exactly that of a row of the table
pub record HasRow (year : Terms) (e : Entry) (row : Row) : Type 0 where
  pub listed : Contains (rows_by year) row
  pub ai : e.ai ≡ row.ai

-- no row has the AI of a pair that is refused for it
abbrev pub UnknownPairs : Type 0
UnknownPairs = (year : Terms) (i : ℕ) (e : Entry) → ((row : Row) → HasRow year e row → ⊥) → entry_fault year i e ≡ Some (UnknownAi i)

-- a value that is too short, too long, or odd in length if that is to be even
abbrev pub IsOfWrongLength : List Part → List ℕ → Type 0
IsOfWrongLength parts value = (length value < least_of parts) ⊎ ((greatest_of parts < length value) ⊎ IsTrue (not (each_part has_whole_steps parts value)))

-- a value of a wrong length is refused for it
abbrev pub PairLengths : Type 0
PairLengths = (year : Terms) (i : ℕ) (row : Row) (e : Entry) → HasRow year e row → IsOfWrongLength row.parts e.value
    → entry_fault year i e ≡ Some (ValueLength i)

-- if it is neither too short nor too long a pair without a separator in its value has the fault of the text of AI and value
abbrev pub PairsAsTexts : Type 0
PairsAsTexts = (year : Terms) (i : ℕ) (row : Row) (e : Entry) → HasRow year e row
    → least_of row.parts ≤ length e.value → length e.value ≤ greatest_of row.parts
    → IsTrue (list_all (λ b. not (b == 29)) e.value)
    → entry_fault year i e ≡ fault_by year i (e.ai ++ e.value) (row_by_terms year (e.ai ++ e.value))
