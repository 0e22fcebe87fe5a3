use Rattle.std.proofs.Common.{inl, inr}
use Rattle.line_core.proofs.symbols.shows_symbol.Goals as goal

pub returns-then-shows_any_code : goal.returns-then-shows_any_code
returns-then-shows_any_code c = λ _. inr (inr (inr (inl (c.shows_any_code.ensures (cc)))))
