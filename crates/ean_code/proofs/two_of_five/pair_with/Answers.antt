use Rattle.std.proofs.Common.{◌∙◌, sym, ap, ap₂}
use Rattle.ean_code.specs.TwoOfFive.{in_turn}
use Rattle.ean_code.proofs.PairFacts.{bars, joined_pair, spaces, split_pair}
use Rattle.ean_code.proofs.two_of_five.pair_with.Goals as goal

pub returns-in_err-first-clause-none : goal.returns-in_err-first-clause-none
returns-in_err-first-clause-none c = rw c.from_residual.ensures (λ p h k e. c.in_err-first.ensures.none p.0 h (sym (split_pair p h k).0 ∙ ap bars e))

pub returns-in_err-second-clause-none : goal.returns-in_err-second-clause-none
returns-in_err-second-clause-none c = rw c.from_residual-in_err-second.ensures
    (λ p h k e. c.in_err-second.ensures.none p.1 k (sym (split_pair p h k).1 ∙ ap spaces e))

pub returns-clause-found : goal.returns-clause-found
returns-clause-found c =
    let first = c.in_ok-first.ensures.found in
    let second = c.in_ok-second.ensures.found in
    (first.0, second.0, ap₂ in_turn first.1 second.1 ∙ joined_pair c.args.widths.now c.requires)
