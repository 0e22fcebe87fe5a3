-- Elements as data, as a line shows them.
use Rattle.std.specs.Prelude.{◌≡◌, ◌+◌, ◌-◌, ◌<◌, ◌≤◌, ◌==◌, ◌||◌, ◌++◌, ◌∷◌, [], ℕ, Bool, List, IsTrue, drop, filter, length, map, not, take, if◌then◌else◌}
use Rattle.std.specs.List.{list_any, slice_split}
use Rattle.element_core.specs.Elements.{Entry, IsElements, pairs_text}
use Rattle.element_core.specs.Terms.{Terms}
use Rattle.gs1_c.specs.Dates.{shown_pair}
use Rattle.gs1_c.specs.declared.next.ElementPlace.{ElementPlace}

-- a space, a tab or a line feed
abbrev pub is_between : ℕ → Bool
is_between b = (b == 32) || ((b == 9) || (b == 10))

-- whether a word has an `=`
abbrev pub shows_element : List ℕ → Bool
shows_element word = list_any (λ b. b == 61) word

-- the elements that a line shows as data: of each word with an `=`, what stands before the first one and behind it
abbrev pub line_elements : List ℕ → List Entry
line_elements line = map shown_pair (filter shows_element (slice_split is_between line))

-- the bytes of a line from an index up to another
abbrev pub bytes_from : ℕ → ℕ → List ℕ → List ℕ
bytes_from first last line = take (last - first) (drop first line)

-- the element at a place
abbrev pub element_in : List ℕ → ElementPlace → Entry
element_in line place = record { ai = bytes_from place.start place.equals line; value = bytes_from (place.equals + 1) place.end line }

-- the place is that of the first element of the line, and the others stand behind it
pub record IsFirstElement (line : List ℕ) (place : ElementPlace) : Type 0 where
  pub elements : line_elements line ≡ element_in line place ∷ line_elements (drop place.end line)
  pub ai : place.start ≤ place.equals
  pub value : place.equals < place.end
  pub within : place.end ≤ length line

-- elements that were put as pairs behind a word without `=` are shown again
abbrev pub ShownAgain : Type 0
ShownAgain = (terms : Terms) (text word : List ℕ) (es : List Entry) → IsElements terms text es → IsTrue (not (shows_element word))
    → line_elements (word ++ (32 ∷ pairs_text es)) ≡ es
