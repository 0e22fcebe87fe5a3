use Rattle.std.proofs.Common.{◌∙◌, Ok, ap, refl, sym}
use Rattle.sheet_core.specs.Labels.{gtin_label}
use Rattle.gs1_c.specs.Labels.{gtin_label_by}
use Rattle.gs1_c.proofs.label.label_of.Goals as goal

pub returns-in-Ok-clause-ok : goal.returns-in-Ok-clause-ok
returns-in-Ok-clause-ok c =
    let k = c.in-Gtin.kind in
    let text = c.args.text.now in
    let same = c.of_gtin.ensures ∙ ap (gtin_label k) c.in-Ok.ensures.ok in
    rw c.in-Gtin.is (ap Ok same ∙ ap (gtin_label_by k text) (sym c.in-Ok.ensures.taken))

pub returns-in-Ok-parse-clause-ok : goal.returns-in-Ok-parse-clause-ok
returns-in-Ok-parse-clause-ok c =
    let is = c.in-Ok-parse.ensures.ok in
    rw c.in-Gs1128.is (c.in-Ok-parse.elements, refl, is.0, is.1)
