use Rattle.std.proofs.Common.{◌≡◌, ◌∷◌, [], ◌∙◌, ap, length, arith, refl, rules, subst, sym}
use Rattle.digits_core.specs.Digits.{ascii_of}
use Rattle.element_core.specs.Elements.{IsElements, canonical, gtin_entry}
use Rattle.element_core.specs.Shown.{shown_elements}
use Rattle.element_core.proofs.GtinLemmas.{gtin_elements}
use Rattle.element_core.proofs.Listed.{listed}
use Rattle.element_core.proofs.elements.Elements.of_gtin.Goals as goal
use Rattle.element_core.proofs.elements.Elements.of_gtin.Goals.{After-append}

text_is : (c : After-append) → c.append.new.text.items ≡ canonical (gtin_entry c.args.gtin.now ∷ [])
text_is c = search rules

made : (c : After-append) → IsElements c.args.year c.append.new.text.items (gtin_entry c.args.gtin.now ∷ [])
made c =
    let long : length (ascii_of c.args.gtin.now) ≡ 14 = omega (arith, ap length c.digits14.ensures.value) in
    gtin_elements c.args.year c.args.gtin.now c.append.new.text.items (gtin_entry c.args.gtin.now ∷ []) c.digits14.ensures.digits c.digits14.ensures.checked
    long refl (text_is c)

pub returns-clause-list : goal.returns-clause-list
returns-clause-list c = listed c.args.year c.append.new.text.items (gtin_entry c.args.gtin.now ∷ []) (made c)

pub invariant_of-result : goal.invariant_of-result
invariant_of-result c =
    let same = sym (returns-clause-list c) in
    record {
      canonical_text = text_is c ∙ ap canonical same;
      elements = subst (λ es. IsElements c.args.year c.append.new.text.items es) same (made c);
    }

pub returns-clause-reads : goal.returns-clause-reads
returns-clause-reads c =
    let made = invariant_of-result c in
    subst (λ text. IsElements c.args.year text (shown_elements c.append.new.text.items)) made.canonical_text made.elements
