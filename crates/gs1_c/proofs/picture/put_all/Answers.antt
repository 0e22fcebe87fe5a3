use Rattle.std.proofs.Common.{arith}
use Rattle.gs1_c.proofs.PictureFacts.{placed_more}
use Rattle.gs1_c.proofs.picture.put_all.Goals as goal

pub symbols-preserved : goal.symbols-preserved
symbols-preserved c =
    let i = c.symbols in
    let put = c.put_placed-end in
    let e = put.ensures in
    placed_more c.args.symbols.now c.symbol-item.result i.symbol-index i.end put.result c.args.out.now i.out put.new.out (omega arith)
    c.symbol-item.is i.invariant e.end e.few e.put e.unchanged put.auto.out
