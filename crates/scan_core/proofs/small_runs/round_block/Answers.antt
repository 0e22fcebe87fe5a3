use Rattle.std.proofs.Common.{◌+◌, ◌++◌, ◌∙◌, ap, drop, map, take}
use Rattle.scan_core.specs.inner.RunLanes.{are_near, modules_or_none}
use Rattle.scan_core.proofs.RunLanes.{as_wide}
use Rattle.scan_core.proofs.small_runs.round_block.Goals as goal

pub returns-clause-put : goal.returns-clause-put
returns-clause-put c =
    let at = c.args.at in
    let old = c.args.modules.now in
    let l = c.args.limits in
    c.put_lanes.ensures.put
    ∙ ap (λ lanes. take at old ++ (lanes ++ drop (at + 16) old))
    (c.modules_of_each-found.ensures ∙ ap (map (modules_or_none l)) c.as_bytes.ensures ∙ as_wide l c.requires.small (take 16 (drop at c.args.inner.now)))

pub returns-clause-near : goal.returns-clause-near
returns-clause-near c =
    let l = c.args.limits in
    c.are_near.ensures
    ∙ ap are_near (c.modules_of_each-found.ensures ∙ ap (map (modules_or_none l)) c.as_bytes.ensures
    ∙ as_wide l c.requires.small (take 16 (drop c.args.at c.args.inner.now)))
