use Rattle.line_core.proofs.symbols.shows_bars.Goals as goal

pub returns : goal.returns
returns c = λ yes. record {
  shown = c.show_ends.ensures (cc);
  count = c.if-count-bars.false;
  symbol = c.shows_symbol.ensures yes;
}
