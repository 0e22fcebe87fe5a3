-- Elements that contradict each other, or the standard's lists of codes (GS1 General Specifications, sections 4.13 and 4.14).
use Rattle.std.specs.Prelude.{ℕ, Bool, not, ◌+◌, ◌==◌, ◌&&◌, ◌++◌, List, [], ◌∷◌, Option, Some, None, bytes_eq, filter_map, replicate, take, if◌then◌else◌}
use Rattle.std.specs.List.{cons_option, list_any}
use Rattle.digits_core.specs.Buffers.{pasted}
use Rattle.element_core.specs.Elements.{Entry}
use Rattle.answer_core.specs.Associations.{AiAssociation, associations_from}
use Rattle.answer_core.specs.Codes.{coding_of, unknown_code}
use Rattle.answer_core.specs.Listed.{is_listed}
use Rattle.answer_core.specs.declared.code.Coding.{Coding}
use Rattle.answer_core.specs.declared.conflict.Conflict.{Conflict}
use Rattle.answer_core.specs.declared.conflict.ConflictKind.{ConflictKind}
use Rattle.answer_core.specs.declared.conflict.ConflictKind.TheVariants.{Needs, Excludes, Differs, Country, Currency, CompanyPrefix, TradeItem}

-- the number of a kind of conflict
abbrev pub conflict_number : ConflictKind → ℕ
conflict_number Needs = 1
conflict_number Excludes = 2
conflict_number Differs = 3
conflict_number Country = 4
conflict_number Currency = 5
conflict_number CompanyPrefix = 6
conflict_number TradeItem = 7

-- a conflict of the element of an index with that of another, 255 for none; at most 44 signs of a text stand before zeros
abbrev pub conflict : ConflictKind → ℕ → ℕ → List ℕ → Conflict
conflict kind element other text = record {
  kind = conflict_number kind;
  element = element;
  other = other;
  text = pasted (replicate 45 0) 0 (take 44 text);
}

-- the index, counted from here, of the first element for which this holds; 255 if there is none
abbrev pub index_of : (Entry → Bool) → ℕ → List Entry → ℕ
index_of is i [] = 255
index_of is i (e ∷ es) = if is e then i else index_of is (i + 1) es

-- ---- what the AIs of elements ask of others

-- an element of another AI, which is listed
abbrev pub is_other : List ℕ → List ℕ → Entry → Bool
is_other ai list e = not (bytes_eq e.ai ai) && is_listed e.ai list

-- what an association asks, by the index of the first element that it names
abbrev pub breach_by : AiAssociation → ℕ → ℕ → Option Conflict
breach_by a i j =
    if a.excludes then (if j == 255 then None else Some (conflict Excludes i j []))
    else if j == 255 then Some (conflict Needs i 255 a.others) else None

-- what an association asks of the element of an index and an AI, among these, and is not so
abbrev pub breach : List Entry → ℕ → List ℕ → AiAssociation → Option Conflict
breach es i ai a = if is_listed ai a.ais then breach_by a i (index_of (is_other ai a.others) 0 es) else None

-- ---- an AI that stands twice

abbrev pub stands_in : List ℕ → List Entry → Bool
stands_in ai es = list_any (λ e. bytes_eq e.ai ai) es

abbrev pub is_other_value : List ℕ → List ℕ → Entry → Bool
is_other_value ai value e = bytes_eq e.ai ai && not (bytes_eq e.value value)

abbrev pub differing_by : ℕ → ℕ → Option Conflict
differing_by i j = if j == 255 then None else Some (conflict Differs i j [])

-- an element before has the same AI and another value
abbrev pub differing : List Entry → ℕ → List ℕ → List ℕ → Option Conflict
differing before i ai value = differing_by i (index_of (is_other_value ai value) 0 before)

-- ---- a code that is in no list

abbrev pub miscoded_by : ConflictKind → ℕ → List ℕ → Option Conflict
miscoded_by kind i [] = None
miscoded_by kind i (b ∷ code) = Some (conflict kind i 255 (b ∷ code))

abbrev pub miscoded_as : ℕ → Option (ConflictKind × Coding) → List ℕ → Option Conflict
miscoded_as i None value = None
miscoded_as i (Some it) value = miscoded_by it.0 i (unknown_code it.1 value)

abbrev pub miscoded : ℕ → List ℕ → List ℕ → Option Conflict
miscoded i ai value = miscoded_as i (coding_of ai) value

-- ---- all of them

-- the requirements of an AI are reported for its first element
abbrev pub breaches : List Entry → ℕ → List ℕ → List Conflict
breaches es i ai = if stands_in ai (take i es) then [] else filter_map (breach es i ai) (associations_from ai)

-- the conflicts of the element of an index, among these
abbrev pub conflicts_of : List Entry → ℕ → Entry → List Conflict
conflicts_of es i e = breaches es i e.ai ++ cons_option (differing (take i es) i e.ai e.value) (cons_option (miscoded i e.ai e.value) [])

abbrev pub conflicts_from : List Entry → ℕ → List Entry → List Conflict
conflicts_from es i [] = []
conflicts_from es i (e ∷ more) = conflicts_of es i e ++ conflicts_from es (i + 1) more

-- the conflicts of elements, in the order of the elements
abbrev pub conflicts : List Entry → List Conflict
conflicts es = conflicts_from es 0 es
