-- The pairs of a list, and how long they are.
use Rattle.std.proofs.Common.{◌≡◌, ℕ, ◌+◌, ◌*◌, ◌≤◌, List, [], ◌∷◌, ◌++◌, length, sym, ap, arith, length-append}
use Rattle.std.specs.Prelude.{flat_map}
use Rattle.std.proofs.lemmas.List.{append-nil}
use Rattle.element_core.specs.Terms.{Terms}
use Rattle.element_core.specs.Elements.{Entry, IsElements, canonical, pair_text, pairs_text, separator_for}
use Rattle.element_core.proofs.PieceLemmas.{from_left}
use Rattle.element_core.proofs.Canonical.{elements_are}
use Rattle.element_core.proofs.Growth.{few_elements}

-- the pairs after the first, each behind its tab
abbrev pub more_pairs : List Entry → List ℕ
more_pairs es = flat_map (λ e. 9 ∷ pair_text e) es

pub pairs_text-cons : (e : Entry) (es : List Entry) → pairs_text (e ∷ es) ≡ pair_text e ++ more_pairs es
pairs_text-cons e [] = sym (append-nil (pair_text e))
pairs_text-cons e (f ∷ es) = ap (λ (t : List ℕ). pair_text e ++ (9 ∷ t)) (pairs_text-cons f es)

-- a sign and a tab for each element, and no separators
pub pairs_length : (e : Entry) (es : List Entry) → length (pairs_text (e ∷ es)) + 1 ≤ length (canonical (e ∷ es)) + 2 * length (e ∷ es)
pairs_length e [] = omega (arith, length-append e.ai (61 ∷ e.value), length-append e.ai e.value)
pairs_length e (f ∷ es) =
    omega (
      arith,
      pairs_length f es,
      length-append (pair_text e) (9 ∷ pairs_text (f ∷ es)),
      length-append e.ai (61 ∷ e.value),
      length-append e.ai e.value,
      length-append (e.ai ++ e.value) (separator_for e),
      length-append (e.ai ++ e.value ++ separator_for e) (canonical (f ∷ es)),
    )

pub pairs_fit : (year : Terms) (text : List ℕ) (es : List Entry) → IsElements year text es → text ≡ canonical es → length (pairs_text es) ≤ 288
pairs_fit year text [] is text_is = omega arith
pairs_fit year text (e ∷ es) is text_is =
    let fits = is.fits in
    omega (
      arith,
      pairs_length e es,
      few_elements year (e ∷ es) (elements_are year text (e ∷ es) [] (from_left year text (e ∷ es) [] is.reads)),
      ap length
          text_is,
    )
