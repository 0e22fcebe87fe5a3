use Rattle.std.proofs.Common.{◌≡◌, ◌∙◌, ◌++◌, [], ℕ, List, Option, ap, ap₂, map, subst, sym, take}
use Rattle.std.proofs.lemmas.List.{take-map}
use Rattle.std.specs.List.{cons_option}
use Rattle.element_core.specs.Elements.{Entry}
use Rattle.answer_core.specs.Conflicts.{breaches, differing}
use Rattle.answer_core.specs.Places.{entry_at}
use Rattle.answer_core.specs.declared.conflict.Conflict.{Conflict}
use Rattle.answer_core.specs.inner.Conflicts.{AreAdded}
use Rattle.answer_core.proofs.Adding.{are_added, one_more}
use Rattle.answer_core.proofs.conflict.add_conflicts.Goals as goal

pub returns : goal.returns
returns c =
    let at_places = entry_at c.args.text.now in
    let es : List Entry = map at_places c.args.places.now in
    let i = c.args.index in
    let ai = c.args.ai.now in
    let value = c.args.value.now in
    let d = c.differing.result in
    let k = c.miscoded.result in
    let asked : List Conflict = breaches es i ai in
    let first = c.add_asked-asked in
    let second = c.add-end in
    let last = c.add in
    let both = are_added first.new.out second.new.out last.new.out first.result second.result last.result (cons_option d []) (cons_option k []) second.ensures last.ensures in
    let all = are_added c.args.out.now first.new.out last.new.out c.args.at first.result last.result asked (cons_option d [] ++ cons_option k []) first.ensures both in
    let before = ap (λ (n : ℕ). map at_places (take n c.args.places.now)) c.from.ensures ∙ sym (take-map at_places i c.args.places.now) in
    let is : d ≡ differing (take i es) i ai value = c.differing.ensures ∙ ap (λ (fs : List Entry). differing fs i ai value) before in
    subst (λ (l : List Conflict). AreAdded (asked ++ l) c.args.at c.args.out.now last.new.out last.result)
    (one_more d (cons_option k []) ∙ ap₂ (λ (x y : Option Conflict). cons_option x (cons_option y [])) is c.miscoded.ensures) all
