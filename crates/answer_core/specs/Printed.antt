-- Element strings as they are printed: each AI in parentheses, before its value (GS1 General Specifications, section 4.14).
use Rattle.std.specs.Prelude.{◌==◌, ◌&&◌, ◌||◌, ◌+◌, not, nat_le, ℕ, zero, suc, Bool, true, false, List, [], ◌∷◌, drop, is_some, length, option_map, Option, Some, None, if◌then◌else◌}
use Rattle.std.specs.List.{list_all}
use Rattle.element_core.specs.Elements.{Entry, is_digit}
use Rattle.element_core.specs.Shown.{shown_elements}
use Rattle.answer_core.specs.Gaps.{without_gaps, trimmed}
use Rattle.answer_core.specs.declared.gap.GapPlace.TheVariants.{Value}
use Rattle.answer_core.specs.declared.printed.Marks.{Marks}

-- ---- AIs between signs

-- the digits before the closing sign, if nothing else stands there
abbrev pub closed : ℕ → List ℕ → Option (List ℕ)
closed closing [] = None
closed closing (b ∷ text) = if b == closing then Some [] else if is_digit b then option_map (λ digits. b ∷ digits) (closed closing text) else None

-- digits that are an AI of the table: the first element of a text that has these digits alone
abbrev pub is_first_ai : List ℕ → List Entry → Bool
is_first_ai digits [] = false
is_first_ai digits (e ∷ es) = length e.ai == length digits

abbrev pub is_known_ai : List ℕ → Bool
is_known_ai digits = is_first_ai digits (shown_elements digits)

-- digits that are taken for an AI: those of the table, or any two to four
abbrev pub is_taken_ai : Bool → List ℕ → Bool
is_taken_ai true digits = is_known_ai digits
is_taken_ai false digits = nat_le 2 (length digits) && nat_le (length digits) 4

abbrev pub taken_of : Marks → Option (List ℕ) → Option (List ℕ)
taken_of marks None = None
taken_of marks (Some digits) = if is_taken_ai marks.known digits then Some digits else None

-- the AI between the signs at the front of a text
abbrev pub mark_at : Marks → List ℕ → Option (List ℕ)
mark_at marks [] = None
mark_at marks (b ∷ text) = if b == marks.opening then taken_of marks (closed marks.closing text) else None

abbrev pub begins_marked : Marks → List ℕ → Bool
begins_marked marks text = is_some (mark_at marks text)

-- what stands before the first AI between signs
abbrev pub before_mark : Marks → List ℕ → List ℕ
before_mark marks [] = []
before_mark marks (b ∷ text) = if begins_marked marks (b ∷ text) then [] else b ∷ before_mark marks text

-- whether an AI stands between signs somewhere in a text
abbrev pub has_mark : Marks → List ℕ → Bool
has_mark marks [] = false
has_mark marks (b ∷ text) = begins_marked marks (b ∷ text) || has_mark marks text

-- ---- elements

-- a value without the gaps around it, and one of digits alone without those within it
abbrev pub printed_value : List ℕ → List ℕ
printed_value text = if list_all is_digit (without_gaps Value text) then without_gaps Value text else trimmed Value text

-- the element of an AI and what stands up to the next
abbrev pub printed_entry : List ℕ → List ℕ → Entry
printed_entry ai text = record { ai = ai; value = printed_value text }

-- the elements of a text: each AI between signs, and as its value what stands up to the next
abbrev pub printed_by : Marks → List ℕ → Option (List ℕ) → List Entry → List Entry
printed_by marks text None es = es
printed_by marks text (Some ai) es = printed_entry ai (before_mark marks (drop (length ai + 1) text)) ∷ es

abbrev pub printed : Marks → List ℕ → List Entry
printed marks [] = []
printed marks (b ∷ text) = printed_by marks text (mark_at marks (b ∷ text)) (printed marks text)

-- a value that is not empty and has none of the signs
abbrev pub is_plain_value : Marks → List ℕ → Bool
is_plain_value marks value =
    not (length value == 0) && (list_all (λ b. not (b == marks.opening)) value && list_all (λ b. not (b == marks.closing)) value)

abbrev pub has_plain_value : Marks → Entry → Bool
has_plain_value marks e = is_plain_value marks e.value

-- where the element of an index begins in the text of all of them with a separator between each two
abbrev pub start_of : List Entry → ℕ → ℕ
start_of [] i = 0
start_of (e ∷ es) zero = 0
start_of (e ∷ es) (suc i) = length e.ai + (length e.value + 1) + start_of es i
