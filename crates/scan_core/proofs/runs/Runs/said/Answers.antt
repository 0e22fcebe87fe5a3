use Rattle.std.proofs.Common.{sym}
use Rattle.scan_core.proofs.KeptFacts.{kept_says}
use Rattle.scan_core.proofs.runs.Runs.said.Goals as goal

pub returns-in-Characters : goal.returns-in-Characters
returns-in-Characters c =
    let kept = c.self.inside.kept.value in
    let now = c.deref-kept.result.now in
    let shown = c.in-Characters in
    kept_says kept now c.args.self.now c.as_str.result.now c.in-Some.by c.args.year shown.carrier shown.field-1 c.self.invariant c.self.view_is
    c.deref-kept.ensures c.if-kept.true c.in-Some.is (sym c.if-eq.ensures) shown.is c.as_str.ensures.value
