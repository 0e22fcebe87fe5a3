-- What says the same.
use Rattle.std.proofs.Common.{◌≡◌, ◌∙◌, ◌&&◌, ℕ, Bool, true, false, not, List, ap₂, eqb, refl, subst, sym}
use Rattle.std.proofs.lemmas.Bool.Decides.{Decides-eqb}
use Rattle.std.proofs.lemmas.Slice.Eq.{slice_eq-Decides}
use Rattle.std.specs.Cmp.Lexicographic.{pointwise}
use Rattle.std.proofs.Math.Bool.{beq}
use Rattle.element_core.specs.Elements.{IsElements, Listing, OneListOrFault}
use Rattle.element_core.specs.Terms.{Terms}
use Rattle.picture_core.proofs.TermsFacts.{same_terms}

not_not : (b : Bool) → false ≡ not b → b ≡ true
not_not true e = refl
not_not false e = cc

-- elements that are read of one text under one year
pub same_listing : OneListOrFault → (a b : Listing) (s t x y : List ℕ) (r : Bool) (p q : Terms)
    → false ≡ not (eqb p.year q.year && beq p.every q.every) → p ≡ a.year → q ≡ b.year
    → IsElements a.year s a.list → IsElements b.year t b.list → x ≡ s → y ≡ t → r ≡ pointwise eqb x y → r ≡ true → a ≡ b
same_listing law a b s t x y r p q years year_a year_b reads_a reads_b text_a text_b compared same =
    let year : a.year ≡ b.year = sym year_a ∙ same_terms p q (not_not (eqb p.year q.year && beq p.every q.every) years) ∙ year_b in
    let text : s ≡ t = sym text_a ∙ (slice_eq-Decides Decides-eqb x y r compared).0 same ∙ text_b in
    let read = subst (λ u. IsElements b.year u a.list) text (subst (λ n. IsElements n s a.list) year reads_a) in
    let list = (law b.year t).0 a.list b.list read reads_b in
    ap₂ (λ n l. let listing : Listing = record { year = n; list = l } in listing) year list
