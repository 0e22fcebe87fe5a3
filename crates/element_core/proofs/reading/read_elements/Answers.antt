use Rattle.std.proofs.Common.{◌≡◌, ◌<◌, ◌≤◌, ◌++◌, ◌∷◌, [], length, refl, arith}
use Rattle.std.proofs.lemmas.Result.{err_from_is_err_and}
use Rattle.std.proofs.lemmas.Grind.{common_steps}
use Rattle.element_core.specs.Elements.{Entry, canonical}
use Rattle.element_core.proofs.Canonical.{canonical_shorter}
use Rattle.element_core.proofs.Growth.{reads-push, stops, whole}
use Rattle.element_core.proofs.reading.read_elements.Goals as goal
use Rattle.element_core.proofs.reading.read_elements.Goals.{In_ok-front}

pub overflow_sub-text : goal.overflow_sub-text
overflow_sub-text g c =
    let i = c.loop-rest.invariant in
    omega (arith, canonical_shorter c.args.year c.args.text.now i.0 c.loop-rest.rest.now i.1)

pub returns-in_err-front-clause-err : goal.returns-in_err-front-clause-err
returns-in_err-front-clause-err g c =
    let i = c.loop-rest.invariant in
    let p = err_from_is_err_and c.from_residual.result c.from_residual.ensures.1 in
    let some : 0 < length c.args.text.now = grind (arith, common_steps) in
    let fits : length c.args.text.now ≤ 192 = omega arith in
    let left : 0 < length c.loop-rest.rest.now = grind (arith, common_steps) in
    rw (p.1, p.2) (stops c.args.year c.args.text.now i.0 c.loop-rest.rest.now c.in_err-front.field-0.0 some fits i.1 left c.in_err-front.ensures.fault)

pub take-requires-clause-next : goal.take-requires-clause-next
take-requires-clause-next g c =
    let i = c.loop-rest.invariant in
    record {
      year = c.args.year;
      text = c.args.text.now;
      list = i.0;
      mid = c.loop-rest.rest.now;
      rest = c.in_ok-front.front.rest.now;
      fits = omega arith;
      reads = i.1;
      begins = c.in_ok-front.ensures.found;
      holds = i.2;
    }

pub loop-rest-preserved : goal.loop-rest-preserved
loop-rest-preserved g c =
    let here = (goal.at.loop-rest-preserved g c).In_ok-front in
    let i = c.loop-rest.invariant in
    let e : Entry = record { ai = here.in_ok-front.front.ai.now; value = here.in_ok-front.front.value.now } in (
      i.0 ++ e ∷ [],
      reads-push c.args.year c.args.text.now i.0 e c.loop-rest.rest.now c.in_ok-front.front.rest.now i.1 c.in_ok-front.ensures.found,
      c.take.ensures i.0 i.2,
    )

pub returns-clause-ok : goal.returns-clause-ok
returns-clause-ok g c =
    let i = c.loop-rest.invariant in
    let some : 0 < length c.args.text.now = grind (arith, common_steps) in
    let fits : length c.args.text.now ≤ 192 = omega arith in
    let empty : length c.loop-rest.rest.now ≡ 0 = grind (arith, common_steps) in
    (i.0, (whole c.args.year c.args.text.now (canonical i.0) i.0 c.loop-rest.rest.now some fits empty i.1 refl).0, i.2)
