use Rattle.std.proofs.lemmas.Bool.{and_parts, eqb-true, leb-true}
use Rattle.scan_core.proofs.RoundingFacts.{counts, is_run, no_run, not_both}
use Rattle.scan_core.proofs.rounding.modules_of.Goals as goal

pub returns-clause-found : goal.returns-clause-found
returns-clause-found c = λ N W pos limits near.
    let l = c.args.limits in
    let both = and_parts _ _ near in
    is_run N W c.args.width l.one l.two l.three l.four l.past_one l.past_two l.past_three l.past_four _ _ _ _ _ _ _ pos limits
    (counts _ _ _ c.reaches.ensures.reached c.reaches.ensures.below)
    (counts _ _ _ c.reaches-2.ensures.reached c.reaches-2.ensures.below)
    (counts _ _ _ c.reaches-3.ensures.reached c.reaches-3.ensures.below)
    (counts _ _ _ c.reaches-4.ensures.reached c.reaches-4.ensures.below)
    (counts _ _ _ c.reaches-5.ensures.reached c.reaches-5.ensures.below)
    (counts _ _ _ c.reaches-6.ensures.reached c.reaches-6.ensures.below)
    (counts _ _ _ c.reaches-7.ensures.reached c.reaches-7.ensures.below)
    (leb-true _ _ both.0) (eqb-true _ _ both.1)

pub returns-clause-none : goal.returns-clause-none
returns-clause-none c = λ N W pos limits far m run.
    let l = c.args.limits in
    let both = no_run N W c.args.width l.one l.two l.three l.four l.past_one l.past_two l.past_three l.past_four _ _ _ _ _ _ _ pos limits
    (counts _ _ _ c.reaches.ensures.reached c.reaches.ensures.below)
    (counts _ _ _ c.reaches-2.ensures.reached c.reaches-2.ensures.below)
    (counts _ _ _ c.reaches-3.ensures.reached c.reaches-3.ensures.below)
    (counts _ _ _ c.reaches-4.ensures.reached c.reaches-4.ensures.below)
    (counts _ _ _ c.reaches-5.ensures.reached c.reaches-5.ensures.below)
    (counts _ _ _ c.reaches-6.ensures.reached c.reaches-6.ensures.below)
    (counts _ _ _ c.reaches-7.ensures.reached c.reaches-7.ensures.below) m run in
    not_both l.one c.args.width _ _ far both.0 both.1
