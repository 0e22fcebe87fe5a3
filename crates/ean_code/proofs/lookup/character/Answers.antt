use Rattle.std.proofs.Common.{arith}
use Rattle.ean_code.proofs.CharacterTable.{entry_packed, no_pair}
use Rattle.ean_code.proofs.lookup.character.Goals as goal

pub returns-then-entry-clause-none : goal.returns-then-entry-clause-none
returns-then-entry-clause-none c = no_pair c.args.packed 0 c.if-entry.true

pub returns-clause-found : goal.returns-clause-found
returns-clause-found c = (omega arith, entry_packed c.args.packed 0 (omega (arith, c.ranges.packed)) c.if-entry.false)
