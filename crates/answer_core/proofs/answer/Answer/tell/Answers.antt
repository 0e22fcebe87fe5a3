use Rattle.std.proofs.Common.{◌∙◌, List, ℕ, ap, length, map, refl, subst, sym, take}
use Rattle.std.specs.List.{AllZip}
use Rattle.std.proofs.lemmas.List.{take_at}
use Rattle.element_core.specs.Elements.{Entry}
use Rattle.answer_core.specs.Places.{IsPlaced, entry_at, gtin_index}
use Rattle.answer_core.proofs.Standing.{entries_are}
use Rattle.answer_core.proofs.answer.Answer.tell.Goals as goal

pub returns-clause-told : goal.returns-clause-told
returns-clause-told c =
    let terms = c.args.terms in
    let es = c.args.elements.now.list in
    let text = c.bytes-text.result.now in
    let is = c.bytes-text.ensures in
    let put = c.put_places-self.ensures in
    let count = put.count ∙ ap length is.elements in
    let stand : AllZip (IsPlaced terms text) es (take (length es) c.put_places-self.new.places) =
    subst (λ (fs : List Entry). AllZip (IsPlaced terms text) fs (take (length fs) c.put_places-self.new.places)) is.elements put.stand in
    let here : AllZip (IsPlaced terms text) es (take c.put_places-self.result c.put_places-self.new.places) =
    subst (λ (n : ℕ). AllZip (IsPlaced terms text) es (take n c.put_places-self.new.places)) (sym count) stand in
    record {
      fault_is = refl;
      place_is = refl;
      count_is = count;
      length_is = ap length is.canonical;
      text_is = take_at c.copy_from_slice.new.self _ (length text) (ap length c.copy_from_slice.ensures.after) ∙ c.copy_from_slice.ensures.after ∙ is.canonical;
      stand = subst (λ (t : List ℕ). AllZip (IsPlaced terms t) es (take c.put_places-self.result c.put_places-self.new.places)) is.canonical here;
      gtin_is = c.gtin_index-self.ensures
          ∙ ap (λ (n : ℕ). gtin_index (map (entry_at text) (take n c.put_places-self.new.places))) c.from.ensures
          ∙ ap gtin_index (entries_are terms text es (take c.put_places-self.result c.put_places-self.new.places) here);
    }
