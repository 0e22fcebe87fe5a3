use Rattle.theorems.proofs.further.a_drawn_label_is_read.Goals as goal

pub returns : goal.returns
returns c = λ g label row year list said s says.
    c.drawn_is_read.ensures g label s.drawn row year list said s.grid s.is_drawn s.fits s.row_is s.dots says
