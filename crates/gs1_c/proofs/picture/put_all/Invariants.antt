use Rattle.gs1_c.proofs.PictureFacts.{Placed}
use Rattle.gs1_c.proofs.picture.put_all.Given as goal

abbrev pub invariant-symbols : goal.invariant-symbols
invariant-symbols l = Placed l.symbols l.symbol-index l.end l.fn.out l.out
