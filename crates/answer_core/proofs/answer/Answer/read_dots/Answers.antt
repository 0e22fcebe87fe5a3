use Rattle.std.proofs.Common.{◌∙◌, ap, subst}
use Rattle.scan_core.specs.Answers.{IsAnswer}
use Rattle.scan_core.specs.Bits.{dots_at}
use Rattle.answer_core.proofs.ShortPlaces.{row_short}
use Rattle.answer_core.proofs.answer.Answer.read_dots.Goals as goal

pub tell_row-requires : goal.tell_row-requires
tell_row-requires c =
    let found = c.find_dots.ensures in
    λ fault is. row_short found.0 c.args.terms fault (subst (λ said. IsAnswer found.0 c.args.terms said) is (c.answer.ensures found.0 found.3))

pub returns-in-Ok : goal.returns-in-Ok
returns-in-Ok c =
    let ok = c.in-Ok.ensures.ok in
    let found = c.find_dots.ensures in
    rw ok.0
    (found.0, found.1, found.2 ∙ ap (dots_at c.args.bits.now 0) ok.1, (c.answer.result, c.answer.ensures found.0 found.3, c.tell_row.ensures))
