use Rattle.std.proofs.Common.{◌∙◌, ap, length, subst, sum, arith, inl, inr}
use Rattle.std.proofs.lemmas.Result.{err_from_is_err_and}
use Rattle.scan_core.specs.inner.Stages.{Fails}
use Rattle.scan_core.specs.Row.{inner}
use Rattle.scan_core.specs.Showing.{HasSize, kind_of}
use Rattle.scan_core.proofs.CandidateFacts.{which}
use Rattle.scan_core.proofs.RowFacts.{has_dark}
use Rattle.scan_core.proofs.StageFacts.{alone_fixed, alone_gs1128, refused_at}
use Rattle.scan_core.specs.declared.stage.Stage.{Stage}
use Rattle.scan_core.specs.declared.stage.Stage.TheVariants.{QuietZone, Modules, Pattern}
use Rattle.scan_core.specs.Reading.{IsBeforeText, stage_fault}
use Rattle.scan_core.proofs.answer.find_shown.Goals as goal

before_text : (stage : Stage) → IsBeforeText (stage_fault stage)
before_text QuietZone = tt
before_text Modules = tt
before_text Pattern = tt

pub try_both-requires-clause-row : goal.try_both-requires-clause-row
try_both-requires-clause-row c = c.requires

pub try_both-requires-clause-sum : goal.try_both-requires-clause-sum
try_both-requires-clause-sum c = c.total_dots-total.ensures ∙ ap sum c.inner-inner.ensures

pub try_both-requires-clause-counted : goal.try_both-requires-clause-counted
try_both-requires-clause-counted c = rw c.inner-inner.ensures at c.in-Some-Some.ensures.found

pub try_both-requires-clause-counted_gs1128 : goal.try_both-requires-clause-counted_gs1128
try_both-requires-clause-counted_gs1128 c = rw c.inner-inner.ensures at c.in-Some-Some.ensures'.found

pub try_both-requires-clause-fixed : goal.try_both-requires-clause-fixed
try_both-requires-clause-fixed c = c.in-Some-Some.ensures.fixed

pub try_both-requires-clause-gs1128 : goal.try_both-requires-clause-gs1128
try_both-requires-clause-gs1128 c = c.in-Some-Some.ensures'.gs1128

pub try_candidate-requires-clause-row : goal.try_candidate-requires-clause-row
try_candidate-requires-clause-row c = c.requires

pub try_candidate-requires-clause-sum : goal.try_candidate-requires-clause-sum
try_candidate-requires-clause-sum c = c.total_dots-total.ensures ∙ ap sum c.inner-inner.ensures

pub try_candidate-requires-clause-counted : goal.try_candidate-requires-clause-counted
try_candidate-requires-clause-counted c = rw c.inner-inner.ensures at c.in-Some-None.ensures.found

pub try_candidate-requires-in-None-Some-clause-row : goal.try_candidate-requires-in-None-Some-clause-row
try_candidate-requires-in-None-Some-clause-row c = c.requires

pub try_candidate-requires-in-None-Some-clause-sum : goal.try_candidate-requires-in-None-Some-clause-sum
try_candidate-requires-in-None-Some-clause-sum c = c.total_dots-total.ensures ∙ ap sum c.inner-inner.ensures

pub try_candidate-requires-in-None-Some-clause-counted : goal.try_candidate-requires-in-None-Some-clause-counted
try_candidate-requires-in-None-Some-clause-counted c = rw c.inner-inner.ensures at c.in-None-Some.ensures.found

pub returns-in_err-try_both-in-Some-Some-clause-found : goal.returns-in_err-try_both-in-Some-Some-clause-found
returns-in_err-try_both-in-Some-Some-clause-found c =
    let p = err_from_is_err_and c.from_residual.result c.from_residual.ensures.1 in
    rw p.1 tt

pub returns-in_err-try_candidate-in-Some-None-clause-found : goal.returns-in_err-try_candidate-in-Some-None-clause-found
returns-in_err-try_candidate-in-Some-None-clause-found c =
    let from = c.from_residual-in_err-try_candidate-in-Some-None in
    let p = err_from_is_err_and from.result from.ensures.1 in
    rw p.1 tt

pub returns-in_err-try_candidate-in-None-Some-clause-found : goal.returns-in_err-try_candidate-in-None-Some-clause-found
returns-in_err-try_candidate-in-None-Some-clause-found c =
    let from = c.from_residual-in_err-try_candidate-in-None-Some in
    let p = err_from_is_err_and from.result from.ensures.1 in
    rw p.1 tt

pub returns-in_ok-try_both-in-Some-Some-clause-found : goal.returns-in_ok-try_both-in-Some-Some-clause-found
returns-in_ok-try_both-in-Some-Some-clause-found c = c.in_ok-try_both-in-Some-Some.ensures.found

pub returns-in_ok-try_candidate-in-Some-None-clause-found : goal.returns-in_ok-try_candidate-in-Some-None-clause-found
returns-in_ok-try_candidate-in-Some-None-clause-found c = c.in_ok-try_candidate-in-Some-None.ensures.found

pub returns-in_ok-try_candidate-in-None-Some-clause-found : goal.returns-in_ok-try_candidate-in-None-Some-clause-found
returns-in_ok-try_candidate-in-None-Some-clause-found c = c.in_ok-try_candidate-in-None-Some.ensures.found

pub returns-in_err-try_both-in-Some-Some-clause-refused : goal.returns-in_err-try_both-in-Some-Some-clause-refused
returns-in_err-try_both-in-Some-Some-clause-refused c =
    let p = err_from_is_err_and c.from_residual.result c.from_residual.ensures.1 in
    let stage = c.in_err-try_both-in-Some-Some.field-0.0 in
    rw (p.1, p.2) (before_text stage, λ year. refused_at stage c.args.widths.now year c.in_err-try_both-in-Some-Some.ensures.fails)

pub returns-in_err-try_candidate-in-Some-None-clause-refused :
    goal.returns-in_err-try_candidate-in-Some-None-clause-refused
returns-in_err-try_candidate-in-Some-None-clause-refused c =
    let from = c.from_residual-in_err-try_candidate-in-Some-None in
    let p = err_from_is_err_and from.result from.ensures.1 in
    let runs = c.args.widths.now in
    let fixed = c.in-Some-None.fixed in
    let stage = c.in_err-try_candidate-in-Some-None.field-0.0 in
    let candidate : HasSize (kind_of fixed.carrier) (length (inner runs)) fixed.count = rw c.inner-inner.ensures at c.in-Some-None.ensures.found in
    rw (p.1, p.2) (
      before_text stage,
      λ year. refused_at stage runs year
          (alone_fixed runs fixed.carrier fixed.count stage c.in-Some-None.ensures.fixed candidate
          (λ M h. c.in-Some-None.ensures'.none M (rw c.inner-inner.ensures h))
          c.in_err-try_candidate-in-Some-None.ensures.fails),
    )

pub returns-in_err-try_candidate-in-None-Some-clause-refused :
    goal.returns-in_err-try_candidate-in-None-Some-clause-refused
returns-in_err-try_candidate-in-None-Some-clause-refused c =
    let from = c.from_residual-in_err-try_candidate-in-None-Some in
    let p = err_from_is_err_and from.result from.ensures.1 in
    let runs = c.args.widths.now in
    let gs1128 = c.in-None-Some.gs1128 in
    let stage = c.in_err-try_candidate-in-None-Some.field-0.0 in
    let is = c.in-None-Some.ensures.gs1128 in
    let candidate : HasSize (kind_of gs1128.carrier) (length (inner runs)) gs1128.count = rw c.inner-inner.ensures at c.in-None-Some.ensures.found in
    rw (p.1, p.2) (
      before_text stage,
      λ year. refused_at stage runs year
          (alone_gs1128 runs gs1128.count stage (subst (λ d. HasSize (kind_of d) (length (inner runs)) gs1128.count) is candidate)
          (λ d M ne h. (rw c.in-None-Some.is-0 at c.fixed_candidate.ensures.none) d M ne (rw c.inner-inner.ensures h))
          (subst (λ d. Fails runs d gs1128.count stage) is c.in_err-try_candidate-in-None-Some.ensures.fails)),
    )

pub returns-in-None-None-clause-refused : goal.returns-in-None-None-clause-refused
returns-in-None-None-clause-refused c =
    let runs = c.args.widths.now in
    let odd = c.requires.odd_number in (
      tt,
      λ year. (
        has_dark runs c.requires (omega arith),
        λ h.
            elim (which h.0) [
              | inl e ↦ c.in-None-None.ensures.none h.1 (rw c.inner-inner.ensures (subst (λ o. HasSize (kind_of o) (length (inner runs)) h.1) e h.2))
              | inr ne ↦ (rw c.in-None-None.is-0 at c.fixed_candidate.ensures.none) h.0 h.1 ne (rw c.inner-inner.ensures h.2)
            ],
      ),
    )
