use Rattle.std.proofs.Common.{length, subst}
use Rattle.scan_core.specs.inner.Stages.{Fails}
use Rattle.scan_core.specs.Row.{inner}
use Rattle.scan_core.specs.Showing.{HasSize, kind_of}
use Rattle.scan_core.proofs.StageFacts.{both}
use Rattle.scan_core.proofs.answer.try_both.Goals as goal

pub returns-in-Err-try_candidate-clause-fails : goal.returns-in-Err-try_candidate-clause-fails
returns-in-Err-try_candidate-clause-fails c =
    let runs = c.args.widths.now in
    let first = c.args.fixed in
    let second = c.args.gs1128 in
    let stage = c.in-Err.stage in
    let other = c.in-Err-try_candidate.other in
    rw c.later.ensures
    (both runs first.carrier first.count second.count stage other c.requires.fixed c.requires.counted
    (subst (λ d. HasSize (kind_of d) (length (inner runs)) second.count) c.requires.gs1128 c.requires.counted_gs1128)
    c.in-Err.ensures.fails
    (subst (λ d. Fails runs d second.count other) c.requires.gs1128 c.in-Err-try_candidate.ensures.fails))
