use Rattle.std.proofs.Common.{Err, Ok, refl}
use Rattle.digits_core.specs.Refusals.{refusal_text}
use Rattle.gs1_c.proofs.label.put_image.Goals as goal

pub returns-in-Ok : goal.returns-in-Ok
returns-in-Ok c =
    let put = c.put_label.ensures in
    (put.0, (Ok c.in-Ok.label, c.in-Ok.ensures.ok, put.1), put.2)

pub returns-in-Err : goal.returns-in-Err
returns-in-Err c =
    let r = c.in-Err.refusal in
    (refusal_text r.kind r.place, (Err (refusal_text r.kind r.place), c.in-Err.ensures.err, refl), c.put_refusal.ensures)
