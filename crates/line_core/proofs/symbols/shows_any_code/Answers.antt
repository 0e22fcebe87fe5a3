use Rattle.line_core.proofs.symbols.shows_any_code.Goals as goal

pub returns : goal.returns
returns c = λ yes. record { characters = c.min-characters.result; code = c.shows_code.ensures yes }
