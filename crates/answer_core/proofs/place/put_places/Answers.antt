use Rattle.std.proofs.Common.{◌≡◌, ◌∙◌, ◌-◌, List, Option, ap, arith, drop, length, subst, sym, ℕ}
use Rattle.std.proofs.lemmas.List.{drop-drop, length-set}
use Rattle.element_core.specs.Elements.{entry_day, entry_until}
use Rattle.element_core.specs.Shown.{shown_elements}
use Rattle.element_core.specs.Walked.{entry_seen}
use Rattle.answer_core.specs.Places.{Names}
use Rattle.answer_core.specs.inner.Places.{StandTo}
use Rattle.answer_core.proofs.Standing.{next_left, one_for_one, one_more, stands_at}
use Rattle.answer_core.proofs.place.put_places.Goals as goal

pub loop-seen-preserved : goal.loop-seen-preserved
loop-seen-preserved c =
    let text = c.args.text.now in
    let es = shown_elements text in
    let rest = c.loop-seen.rest.now in
    let i = c.loop-seen.invariant in
    let within = i.within in
    let all = i.all in
    let few = c.requires.few in
    let s = c.in-Some.seen in
    let en = c.in-Some.ensures in
    let shorter = en.within in
    let behind = shown_elements s.rest.now in
    let left = sym en.elements ∙ i.left in
    let p = c.place_of.result in
    let put = c.place_of.ensures in
    let sized = i.sized in
    let e = entry_seen s in
    record {
      within = omega (arith, shorter, within);
      sized = length-set c.loop-seen.places c.loop-seen.count p ∙ i.sized;
      from = en.rest ∙ ap (drop (length rest - length s.rest.now)) i.from
          ∙ drop-drop (length rest - length s.rest.now) (length text - length rest) text
          ∙ ap (λ (k : ℕ). drop k text) (omega (arith, shorter, within));
      left = next_left es behind e c.loop-seen.count left;
      all = omega (arith, all, ap length en.elements);
      stand = one_more c.loop-seen.count c.args.year text es c.loop-seen.places p e behind i.stand left
          (stands_at c.args.year text rest s.ai.now s.value.now p i.from (omega (arith, shorter)) within en.ai en.value put.ai put.value put.end
          (subst (λ (t : Option (List ℕ)). Names (entry_day c.args.year e) t (entry_until c.args.year e) p) en.time
          (put.names (entry_day c.args.year e) (entry_until c.args.year e) en.date en.until)) put.number put.decimals put.reserved)
          (omega (arith, sized, few, all, ap length en.elements));
    }

pub returns-clause-stand : goal.returns-clause-stand
returns-clause-stand c =
    let i = c.loop-seen.invariant in
    let all = i.all in
    let none = c.in_default.ensures.elements in
    let es = shown_elements c.args.text.now in
    let same : c.loop-seen.count ≡ length es = omega (arith, all, ap length none) in
    let few = c.requires.few in
    one_for_one c.args.year c.args.text.now es c.loop-seen.places (omega (arith, few, i.sized))
    (subst (λ (k : ℕ). StandTo k c.args.year c.args.text.now es c.loop-seen.places) same i.stand)
