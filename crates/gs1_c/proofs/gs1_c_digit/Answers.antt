use Rattle.element_core.specs.Lines.{line_text}
use Rattle.gs1_c.proofs.gs1_c_digit.Goals as goal

pub returns : goal.returns
returns c = (line_text c.digit_line.result, c.digit_line.ensures, c.put_line.ensures)
