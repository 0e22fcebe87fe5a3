use Rattle.std.proofs.Common.{◌∙◌, subst, sym}
use Rattle.std.specs.List.{AllZip}
use Rattle.std.proofs.lemmas.List.{length-set}
use Rattle.scan_core.specs.Showing.{IsRun}
use Rattle.scan_core.proofs.NearRuns.{all_near, all_small, some_far}
use Rattle.scan_core.proofs.RoundingFacts.{none_more, one_more}
use Rattle.scan_core.proofs.rounding.round_each.Goals as goal

pub runs-preserved : goal.runs-preserved
runs-preserved c =
    let inv = c.runs.invariant in
    let runs = c.args.inner.now in
    let low = c.runs-test.true in
    record {
      places = length-set c.runs.modules c.runs.i c.modules_of-found.result.0 ∙ inv.places;
      found = one_more c.args.count c.args.total runs c.runs.modules c.runs.i c.modules_of-found.result.0 c.runs.each c.modules_of-found.result.1 low inv.places
          inv.found (c.modules_of-found.ensures.found c.args.count c.args.total c.requires.dots c.limits_of-limits.ensures);
      none = none_more c.args.count c.args.total runs c.runs.i c.runs.each c.modules_of-found.result.1 low inv.none
          (c.modules_of-found.ensures.none c.args.count c.args.total c.requires.dots c.limits_of-limits.ensures);
    }

pub round_small-requires-clause-small : goal.round_small-requires-clause-small
round_small-requires-clause-small c = all_small c.args.count c.args.total c.limits_of-limits.result c.limits_of-limits.ensures c.if-limits-le255.true

pub returns-then-inner-ge16-clause-found : goal.returns-then-inner-ge16-clause-found
returns-then-inner-ge16-clause-found c = λ all.
    subst (AllZip (IsRun c.args.count c.args.total) c.args.inner.now) (sym (c.round_small.ensures.put all))
    (all_near c.args.count c.args.total c.requires.dots c.limits_of-limits.result c.limits_of-limits.ensures c.args.inner.now
    (sym c.round_small.ensures.near ∙ all))

pub returns-then-inner-ge16-clause-none : goal.returns-then-inner-ge16-clause-none
returns-then-inner-ge16-clause-none c = λ not_all.
    some_far c.args.count c.args.total c.requires.dots c.limits_of-limits.result c.limits_of-limits.ensures c.args.inner.now
    (sym c.round_small.ensures.near ∙ not_all)
