use Rattle.std.proofs.Common.{◌≡◌, ℕ, List, ◌∙◌, ap, subst, sym}
use Rattle.std.specs.Prelude.{IsTrue}
use Rattle.std.specs.List.{list_all}
use Rattle.element_core.specs.Elements.{canonical}
use Rattle.code128_code.specs.Coding.{coded, data_values, is_coded_byte}
use Rattle.code128_code.specs.Symbols.{AreValues, IsCode128Symbol, mod103}
use Rattle.code128_code.proofs.RunsAreCoded.{coded_is_said}
use Rattle.code128_code.proofs.DataFacts.{data_valid, printable_coded}
use Rattle.code128_code.proofs.drawing.encode.Goals as goal

pub values_of-values-requires-clause-valid : goal.values_of-values-requires-clause-valid
values_of-values-requires-clause-valid c =
    subst (λ (text : List ℕ). IsTrue (list_all is_coded_byte text)) (sym c.as_slice.ensures.value)
    (printable_coded c.text-text.result.items c.text-text.ensures.printable)

pub symbol-requires-clause-valid : goal.symbol-requires-clause-valid
symbol-requires-clause-valid c =
    let text : List ℕ = c.text-text.result.items in
    subst AreValues (sym (c.as_slice-3.ensures.value ∙ c.values_of-values.ensures.values ∙ ap data_values c.as_slice.ensures.value))
    (data_valid text (printable_coded text c.text-text.ensures.printable))

pub returns-clause-says : goal.returns-clause-says
returns-clause-says c =
    let text : List ℕ = canonical c.args.elements.now.list in
    let valid = printable_coded c.text-text.result.items c.text-text.ensures.printable in
    let values : c.values_of-values.result.items ≡ data_values text =
    c.values_of-values.ensures.values ∙ ap data_values (c.as_slice.ensures.value ∙ c.text-text.ensures.canonical) in
    let check : c.check_character-check.result ≡ mod103 105 (data_values text) =
    c.check_character-check.ensures.value ∙ ap (mod103 105) (c.as_slice-2.ensures.value ∙ values) in
    record {
      start = 105;
      values = coded text;
      symbol =
          subst (λ k. IsCode128Symbol 105 (data_values text) k c.symbol.result) check
          (subst (λ vs. IsCode128Symbol 105 vs c.check_character-check.result c.symbol.result) (c.as_slice-3.ensures.value ∙ values) c.symbol.ensures);
      says = coded_is_said text (subst (λ (t : List ℕ). IsTrue (list_all is_coded_byte t)) c.text-text.ensures.canonical valid);
    }
