-- How long the human-readable line is.
use Rattle.std.proofs.Common.{◌≡◌, ℕ, ◌+◌, ◌*◌, ◌/◌, ◌≤◌, List, [], ◌∷◌, ◌++◌, length, ap, arith, length-append}
use Rattle.element_core.specs.Terms.{Terms}
use Rattle.element_core.specs.Elements.{Entry, IsElements, canonical, hri, separator_for}
use Rattle.element_core.proofs.PieceLemmas.{from_left}
use Rattle.element_core.proofs.Canonical.{elements_are}
use Rattle.element_core.proofs.Growth.{few_elements}

-- two parentheses for each element, and no separators
pub hri_length : (es : List Entry) → length (hri es) ≤ length (canonical es) + 2 * length es
hri_length [] = omega arith
hri_length (e ∷ []) = omega (arith, length-append ((40 ∷ e.ai) ++ (41 ∷ e.value)) [], length-append (40 ∷ e.ai) (41 ∷ e.value), length-append e.ai e.value)
hri_length (e ∷ f ∷ es) =
    omega (
      arith,
      hri_length (f ∷ es),
      length-append ((40 ∷ e.ai) ++ (41 ∷ e.value)) (hri (f ∷ es)),
      length-append (40 ∷ e.ai) (41 ∷ e.value),
      length-append
          e.ai e.value,
      length-append (e.ai ++ e.value) (separator_for e),
      length-append (e.ai ++ e.value ++ separator_for e) (canonical (f ∷ es)),
    )

pub hri_fits : (year : Terms) (text : List ℕ) (es : List Entry) → IsElements year text es → text ≡ canonical es → length (hri es) ≤ 288
hri_fits year text es is text_is =
    let fits = is.fits in
    omega (arith, hri_length es, few_elements year es (elements_are year text es [] (from_left year text es [] is.reads)), ap length text_is)

-- an element has four bytes with its separator, so the parentheses take half of the text at most
pub hri_room : (year : Terms) (text : List ℕ) (es : List Entry) → IsElements year text es → text ≡ canonical es
    → length (hri es) ≤ length text + (length text + 1) / 4 * 2
hri_room year text es is text_is =
    omega (arith, hri_length es, few_elements year es (elements_are year text es [] (from_left year text es [] is.reads)), ap length text_is)
