-- Elements that are taken while a text is read.
use Rattle.std.proofs.Common.{◌≡◌, ◌∙◌, ℕ, ◌+◌, ◌≤◌, List, [], ◌∷◌, ◌++◌, length, sym, ap, arith, append_assoc, length-append}
use Rattle.std.specs.Prelude.{flat_map}
use Rattle.std.proofs.lemmas.List.{append-nil}
use Rattle.element_core.specs.Elements.{Entry, hri}
use Rattle.element_core.specs.inner.Reading.{IsNext}
use Rattle.element_core.specs.inner.Walks.{AreAscii}
use Rattle.element_core.proofs.Canonical.{canonical_shorter, elements_are}
use Rattle.element_core.proofs.Growth.{few_elements, reads-push}
use Rattle.element_core.proofs.LineLength.{hri_length}
use Rattle.element_core.proofs.Listed.{elements_ascii}

flat_map-push : (f : Entry → List ℕ) (es : List Entry) (e : Entry) → flat_map f (es ++ e ∷ []) ≡ flat_map f es ++ f e
flat_map-push f [] e = append-nil (f e)
flat_map-push f (g ∷ es) e = ap (λ (t : List ℕ). f g ++ t) (flat_map-push f es e) ∙ sym (append_assoc (f g) (flat_map f es) (f e))

pub hri-push : (es : List Entry) (e : Entry) → hri (es ++ e ∷ []) ≡ hri es ++ (40 ∷ e.ai ++ (41 ∷ e.value))
hri-push es e = flat_map-push (λ e. (40 ∷ e.ai) ++ (41 ∷ e.value)) es e

pub next_ascii : (S : Type 0) (Holds : S → List Entry → Type 0) (taken : S) (e : Entry) → IsNext Holds taken e → AreAscii (e ∷ [])
next_ascii S Holds taken e n = elements_ascii n.year (e ∷ []) ((n.begins.row, n.begins.element), tt)

pub hri_room : (S : Type 0) (Holds : S → List Entry → Type 0) (taken : S) (e : Entry) (n : IsNext Holds taken e)
    → length (hri n.list) + length e.ai + length e.value + 2 ≤ 288
hri_room S Holds taken e n =
    let more = reads-push n.year n.text n.list e n.mid n.rest n.reads n.begins in
    let all = n.list ++ e ∷ [] in
    omega (
      arith,
      n.fits,
      ap length (hri-push n.list e),
      length-append (hri n.list) (40 ∷ e.ai ++ (41 ∷ e.value)),
      length-append (40 ∷ e.ai) (41 ∷ e.value),
      hri_length all,
      few_elements n.year all (elements_are n.year n.text all n.rest more),
      canonical_shorter n.year n.text all n.rest more,
    )
