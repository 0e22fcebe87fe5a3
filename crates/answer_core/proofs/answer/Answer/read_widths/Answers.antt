use Rattle.std.proofs.Common.{◌≡◌, IfOk, None, OnOk, subst}
use Rattle.scan_core.specs.Answers.{IsAnswer}
use Rattle.scan_core.specs.Reading.{IsFound}
use Rattle.scan_core.specs.Row.{runs_fault}
use Rattle.answer_core.proofs.ShortPlaces.{row_short}
use Rattle.answer_core.proofs.answer.Answer.read_widths.Goals as goal

pub tell_row-requires : goal.tell_row-requires
tell_row-requires c =
    let widths = c.args.widths.now in
    let found = subst (λ r. IfOk r (IsFound widths)) c.in-Ok.is c.find_widths.ensures.ok in
    λ fault is. row_short widths c.args.terms fault (subst (λ said. IsAnswer widths c.args.terms said) is (c.answer.ensures widths found))

pub returns-in-Ok : goal.returns-in-Ok
returns-in-Ok c =
    let widths = c.args.widths.now in
    let taken = subst (λ r. OnOk r (runs_fault widths ≡ None)) c.in-Ok.is c.find_widths.ensures.taken in
    let found = subst (λ r. IfOk r (IsFound widths)) c.in-Ok.is c.find_widths.ensures.ok in
    rw taken (c.answer.result, c.answer.ensures widths found, c.tell_row.ensures)
