use Rattle.std.proofs.Common.{arith}
use Rattle.picture_core.specs.Order.{symbol_at}
use Rattle.picture_core.specs.Told.{HasOwnRows}
use Rattle.picture_core.proofs.BelowFacts.{below_more}
use Rattle.picture_core.proofs.telling.have_own_rows.Goals as goal

pub symbols-preserved : goal.symbols-preserved
symbols-preserved c = below_more (λ place. HasOwnRows (symbol_at c.args.symbols.now place)) c.symbols.place c.symbols.invariant
    (c.has_own_rows.ensures (cc))

pub returns : goal.returns
returns c = λ yes place less. c.symbols.invariant place (omega (arith, less, c.symbols-test.false))
