use Rattle.element_core.specs.Lines.{line_text}
use Rattle.gs1_c.proofs.answer.put_found.Goals as goal

pub returns-in-Ok : goal.returns-in-Ok
returns-in-Ok c = rw c.in-Ok.is (line_text c.line.result, c.line.ensures, c.put_line.ensures)

pub returns-in-Err : goal.returns-in-Err
returns-in-Err c = rw c.in-Err.is (_, c.refusal.ensures, c.put_refusal.ensures)
