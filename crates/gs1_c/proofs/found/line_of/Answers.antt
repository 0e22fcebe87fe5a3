use Rattle.std.proofs.Common.{◌∙◌}
use Rattle.std.specs.Fmt.{decimal}
use Rattle.element_core.specs.Elements.{hri}
use Rattle.scan_core.specs.Lines.{identifier}
use Rattle.gs1_c.proofs.LinesThatFit.{six_pushed}
use Rattle.gs1_c.proofs.found.line_of.Goals as goal

pub returns-clause-line : goal.returns-clause-line
returns-clause-line c =
    let w = c.args.window.now in
    six_pushed (decimal w.first) (decimal w.count) (identifier w.carrier) (hri w.elements.list) _ _ _ _ _ _ _ _ _ c.new-line.ensures c.push_number.ensures.put
    c.push_number-2.ensures.put c.push.ensures c.push-2.ensures c.push-3.ensures c.push-4.ensures (c.as_bytes.ensures.value ∙ c.identifier.ensures)
    (c.as_bytes-2.ensures.value ∙ c.deref.ensures.0 ∙ c.hri.ensures)
