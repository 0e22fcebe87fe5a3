-- Where elements stand in a text, and what they name.
use Rattle.std.specs.Prelude.{◌≡◌, ◌&&◌, ◌||◌, ◌+◌, ◌-◌, ◌*◌, ◌≤◌, ℕ, Bool, List, [], ◌∷◌, Option, codes, drop, is_some, length, nat_le, not, take, if◌then◌else◌}
use Rattle.std.specs.List.{list_all}
use Rattle.std.specs.Str.{bytes_eq}
use Rattle.element_core.specs.Elements.{Entry, entry_day, entry_time, entry_until}
use Rattle.element_core.specs.Terms.{Terms}
use Rattle.answer_core.specs.Named.{bit, day_numbers, time_numbers}
use Rattle.answer_core.specs.Numbers.{decimals_of, number_at, number_index}
use Rattle.answer_core.specs.declared.place.Place.{Place}

-- the place names this day, this time and this last day of a period
pub record Names (day : Option (ℕ × ℕ × ℕ)) (time : Option (List ℕ)) (until : Option (ℕ × ℕ × ℕ)) (p : Place) : Type 0 where
  pub named : p.named ≡ bit (is_some day) + 2 * bit (is_some time) + 4 * bit (is_some until)
  pub day_is : p.day ≡ day_numbers day
  pub until_is : p.until ≡ day_numbers until
  pub time_is : p.time ≡ time_numbers time

-- the bytes of a text from an index up to another, or none if there is no such span
abbrev pub span : List ℕ → ℕ → ℕ → List ℕ
span text from to = if nat_le from to && nat_le to (length text) then take (to - from) (drop from text) else []

-- the element at a place of a text
abbrev pub entry_at : List ℕ → Place → Entry
entry_at text p = record { ai = span text p.ai p.value; value = span text p.value p.end }

-- an element is what the text has at this place
pub record IsAtPlace (text : List ℕ) (e : Entry) (p : Place) : Type 0 where
  pub first : p.ai ≤ p.value
  pub second : p.value ≤ p.end
  pub within : p.end ≤ length text
  pub is : e ≡ entry_at text p

-- an element stands at this place of the text, which says where its number is and which days and time it names
pub record IsPlaced (terms : Terms) (text : List ℕ) (e : Entry) (p : Place) : Type 0 where
  pub here : IsAtPlace text e p
  pub names : Names (entry_day terms e) (entry_time e) (entry_until terms e) p
  pub number : p.number ≡ number_index p.value (number_at e.ai)
  pub decimals : p.decimals ≡ decimals_of (number_at e.ai)
  pub reserved : p.reserved ≡ 0

-- ---- the GTIN of elements

-- an element of AI 01
abbrev pub is_gtin : Entry → Bool
is_gtin e = bytes_eq e.ai (codes "01")

-- each element of AI 01 has this value
abbrev pub have_value : List ℕ → List Entry → Bool
have_value value es = list_all (λ e. not (is_gtin e) || bytes_eq e.value value) es

-- the index of the first element of AI 01, counted from here; 255 if there is none, or another with another value
abbrev pub gtin_from : ℕ → List Entry → ℕ
gtin_from i [] = 255
gtin_from i (e ∷ es) = if is_gtin e then (if have_value e.value es then i else 255) else gtin_from (i + 1) es

abbrev pub gtin_index : List Entry → ℕ
gtin_index es = gtin_from 0 es
