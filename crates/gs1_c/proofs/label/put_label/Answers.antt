use Rattle.std.proofs.Common.{inl, refl}
use Rattle.sheet_core.specs.pbm.Images.{pbm_of}
use Rattle.gs1_c.proofs.label.put_label.Goals as goal

pub returns-in-Ok : goal.returns-in-Ok
returns-in-Ok c =
    let image = c.in-Ok.ensures.ok in
    (pbm_of image.0, inl (image.0, image.1, refl), image.2)
