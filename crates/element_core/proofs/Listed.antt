-- The elements that a text shows.
use Rattle.std.proofs.Common.{◌≡◌, ℕ, zero, suc, ◌+◌, ◌<◌, ◌≤◌, Bool, true, List, [], ◌∷◌, ◌++◌, length, drop, Some, None, refl, sym, ap, subst, ◌∙◌, arith, inl, inr, length-append, length-drop}
use Rattle.std.specs.List.{list_all}
use Rattle.std.proofs.lemmas.Bool.{and_parts, and_from}
use Rattle.std.proofs.lemmas.List.{nil_from_length}
use Rattle.std.proofs.lemmas.List.Elements.{All-from_recursion}
use Rattle.element_core.specs.Terms.{Terms}
use Rattle.element_core.specs.Table.{Row, every_row, row_at}
use Rattle.element_core.specs.inner.Table.{begins_with_digit}
use Rattle.element_core.specs.Elements.{Entry, IsElements, canonical, is_text_byte}
use Rattle.element_core.specs.inner.Elements.{AreElements}
use Rattle.element_core.specs.Fronts.{ReadsFromLeft}
use Rattle.element_core.specs.Shown.{shown_value, shown_rest, shown_entry, shown_by, shown_in, shown_elements}
use Rattle.element_core.specs.inner.Walks.{AreAscii}
use Rattle.element_core.proofs.TableLaws.{none_begins_nothing, each_begins_with_digit}
use Rattle.element_core.proofs.Look.{all_at, begins-split, row_is}
use Rattle.element_core.proofs.Shown.{IsShown, shows, shown-within}
use Rattle.element_core.proofs.Unique.{same_element}
use Rattle.element_core.proofs.PieceLemmas.{from_left}
use Rattle.element_core.proofs.Canonical.{rest_shorter, some_digit}
use Rattle.element_core.proofs.Letters.{ascii_by, element_letters}
use Rattle.element_core.proofs.PairLemmas.{seen}

-- what a text shows is no longer than it
pub shown_shorter : (row : Row) (text : List ℕ) → row_at text ≡ Some row
    → (length row.ai + length (shown_value row text) + length (shown_rest row text) ≤ length text) × (0 < length row.ai)
shown_shorter row text found =
    let r = row_is row text found in
    let tail = drop (length row.ai) text in
    let after = drop (length (shown_value row text)) tail in
    let some = some_digit row.ai (all_at (λ s. begins_with_digit s.ai) every_row row r.0 each_begins_with_digit) in
    let parts = ap length (begins-split row.ai text r.1) ∙ length-append row.ai tail in
    let within = shown-within row tail in
    let rest = rest_shorter after (shown_rest row text) refl in
    (omega (arith, length-drop (length (shown_value row text)) tail), some)

in_none : (n : ℕ) (text : List ℕ) → row_at text ≡ None → shown_in n text ≡ []
in_none zero text none = refl
in_none (suc n) text none = ap (shown_by (shown_in n) text) none

in_some : (n : ℕ) (text : List ℕ) (row : Row) → row_at text ≡ Some row → shown_in (suc n) text ≡ shown_entry row text ∷ shown_in n (shown_rest row text)
in_some n text row found = ap (shown_by (shown_in n) text) found

nothing_at : (text : List ℕ) → length text ≡ 0 → row_at text ≡ None
nothing_at text none = ap row_at (nil_from_length text none) ∙ none_begins_nothing

-- this many at most or more: where the text is no longer, the elements are the same
in_more : (n m : ℕ) (text : List ℕ) → length text ≤ n → length text ≤ m → shown_in n text ≡ shown_in m text
in_more zero m text p q = sym (in_none m text (nothing_at text (omega arith)))
in_more (suc n) zero text p q = in_none (suc n) text (nothing_at text (omega arith))
in_more (suc n) (suc m) text p q =
    elim (seen (row_at text)) [
      | inl none ↦ in_none (suc n) text none ∙ sym (in_none (suc m) text none)
      | inr found ↦
          let s = shown_shorter found.0 text found.1 in
          let short = s.0 in
          let some = s.1 in
          in_some n text found.0 found.1
          ∙ ap (λ (es : List Entry). shown_entry found.0 text ∷ es) (in_more n m (shown_rest found.0 text) (omega arith) (omega arith))
          ∙ sym (in_some m text found.0 found.1)
    ]

-- a text that begins with no AI shows nothing
pub shown_none : (text : List ℕ) → row_at text ≡ None → shown_elements text ≡ []
unfolding shown_elements
shown_none text none = in_none (length text) text none

-- one that begins with an AI shows the element there, and what the rest shows
pub shown_some : (text : List ℕ) (row : Row) → row_at text ≡ Some row → shown_elements text ≡ shown_entry row text ∷ shown_elements (shown_rest row text)
unfolding shown_elements
shown_some text row found =
    let s = shown_shorter row text found in
    let short = s.0 in
    let some = s.1 in
    let n = length text + length text in
    in_more (length text) (suc n) text (omega arith) (omega arith) ∙ in_some n text row found
    ∙ ap (λ (es : List Entry). shown_entry row text ∷ es) (in_more n (length (shown_rest row text)) (shown_rest row text) (omega arith) (omega arith))

-- the same, of what is shown under other names
pub shown_first : (text : List ℕ) (row : Row) (e : Entry) (rest : List ℕ) → row_at text ≡ Some row → IsShown row text e.ai e.value rest → shown_elements text
    ≡ e ∷ shown_elements rest
shown_first text row e rest found is =
    let first : shown_entry row text ≡ e = same_element (shown_entry row text) e (sym is.ai_is) (sym is.value_is) in
    let more : shown_elements (shown_rest row text) ≡ shown_elements rest = ap shown_elements (sym is.rest_is) in
    shown_some text row found ∙ cc

pub first_within : (text : List ℕ) (row : Row) (ai value rest : List ℕ) → row_at text ≡ Some row → IsShown row text ai value rest
    → (length ai + length value + length rest ≤ length text) × (0 < length ai)
first_within text row ai value rest found is =
    let s = shown_shorter row text found in
    let t = s.0 in
    let u = s.1 in
    (omega (arith, ap length is.ai_is, ap length is.value_is, ap length is.rest_is), omega (arith, ap length is.ai_is))

in_few : (n : ℕ) (text : List ℕ) → length (shown_in n text) ≤ n
in_few zero text = omega arith
in_few (suc n) text =
    elim (seen (row_at text)) [
      | inl none ↦ omega (arith, ap length (in_none (suc n) text none))
      | inr found ↦ omega (arith, ap length (in_some n text found.0 found.1), in_few n (shown_rest found.0 text))
    ]

-- a text shows no more elements than it has bytes
pub shown_few : (text : List ℕ) → length (shown_elements text) ≤ length text
unfolding shown_elements
shown_few text = in_few (length text) text

-- what is read of a text is what it shows
shown_read : (year : Terms) (text : List ℕ) (es : List Entry) → ReadsFromLeft year text es [] → shown_elements text ≡ es
shown_read year text [] r = shown_none text (ap row_at r ∙ none_begins_nothing)
shown_read year text (e ∷ es) r =
    let s = shows year e text r.0 r.1 in
    let is : IsShown s.row text e.ai e.value r.0 = record { ai_is = s.ai_is; value_is = s.value_is; rest_is = s.rest_is } in
    shown_first text s.row e r.0 s.row_is is ∙ ap (λ (fs : List Entry). e ∷ fs) (shown_read year r.0 es r.2)

-- an element string shows its elements
pub listed : (year : Terms) (text : List ℕ) (es : List Entry) → IsElements year text es → shown_elements text ≡ es
listed year text es is = shown_read year text es (from_left year text es [] is.reads)

-- a text that is read, and the canonical text of the elements that it shows
pub record IsListed (year : Terms) (text out : List ℕ) : Type 0 where
  pub reads : IsElements year text (shown_elements out)
  pub canonical_text : out ≡ canonical (shown_elements out)
  pub elements : IsElements year out (shown_elements out)

pub listed_as : (year : Terms) (text out : List ℕ) (es : List Entry) → IsElements year text es → out ≡ canonical es → IsElements year out es
    → IsListed year text out
listed_as year text out es reads out_is elements =
    let same : es ≡ shown_elements out = sym (listed year out es elements) in
    record {
      reads = subst (λ (fs : List Entry). IsElements year text fs) same reads;
      canonical_text = out_is ∙ ap canonical same;
      elements = subst (λ (fs : List Entry). IsElements year out fs) same elements;
    }

all_parts : (q : ℕ → Bool) (a b : List ℕ) → list_all q (a ++ b) ≡ true → (list_all q a ≡ true) × (list_all q b ≡ true)
all_parts q [] b h = (refl, h)
all_parts q (x ∷ a) b h =
    let p = and_parts (q x) (list_all q (a ++ b)) h in
    let more = all_parts q a b p.1 in
    (and_from (q x) (list_all q a) p.0 more.0, more.1)

-- the AIs and the values of elements are ASCII
pub elements_ascii : (year : Terms) (es : List Entry) → AreElements year es → AreAscii es
elements_ascii year [] are = tt
elements_ascii year (e ∷ es) are =
    let p = all_parts is_text_byte e.ai e.value (element_letters year e are.0) in (
      (All-from_recursion (λ b. b < 128) e.ai (ascii_by e.ai p.0), All-from_recursion (λ b. b < 128) e.value (ascii_by e.value p.1)),
      elements_ascii year es
          are.1,
    )
