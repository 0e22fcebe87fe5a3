use Rattle.std.proofs.Common.{◌≡◌, ◌∙◌, Bool, List, [], ap, arith, false, filter_map, map, refl, subst, sym, take, true, ℕ, if◌then◌else◌}
use Rattle.std.proofs.lemmas.List.{take-map}
use Rattle.element_core.specs.Elements.{Entry}
use Rattle.answer_core.specs.Associations.{AiAssociation, associations_from}
use Rattle.answer_core.specs.Conflicts.{breach, stands_in}
use Rattle.answer_core.specs.Places.{entry_at}
use Rattle.answer_core.specs.inner.Conflicts.{AreAdded}
use Rattle.answer_core.proofs.conflict.add_asked.Goals as goal

pub returns-then-stands_in : goal.returns-then-stands_in
returns-then-stands_in c =
    let at_places = entry_at c.args.text.now in
    let es : List Entry = map at_places c.args.places.now in
    let i = c.args.index in
    let ai = c.args.ai.now in
    let out = c.args.out.now in
    let before = ap (λ (n : ℕ). map at_places (take n c.args.places.now)) c.from.ensures ∙ sym (take-map at_places i c.args.places.now) in
    let is : true ≡ stands_in ai (take i es) = sym c.if-stands_in.true ∙ c.stands_in.ensures ∙ ap (stands_in ai) before in
    let at = c.requires.at in
    subst (λ (b : Bool). AreAdded (if b then [] else filter_map (breach es i ai) (associations_from ai)) c.args.at out out c.args.at) is
    (record { put = refl; counted = omega (arith, at) })

pub returns : goal.returns
returns c =
    let at_places = entry_at c.args.text.now in
    let es : List Entry = map at_places c.args.places.now in
    let i = c.args.index in
    let ai = c.args.ai.now in
    let added = c.add_breaches in
    let before = ap (λ (n : ℕ). map at_places (take n c.args.places.now)) c.from.ensures ∙ sym (take-map at_places i c.args.places.now) in
    let is : false ≡ stands_in ai (take i es) = sym c.if-stands_in.false ∙ c.stands_in.ensures ∙ ap (stands_in ai) before in
    subst (λ (b : Bool). AreAdded (if b then [] else filter_map (breach es i ai) (associations_from ai)) c.args.at c.args.out.now added.new.out added.result) is
    (subst (λ (l : List AiAssociation). AreAdded (filter_map (breach es i ai) l) c.args.at c.args.out.now added.new.out added.result) c.associations_from.ensures added.ensures)
