use Rattle.std.proofs.Common.{length}
use Rattle.gs1_c.specs.Found.{ArePackedSymbolsPut}
use Rattle.gs1_c.specs.Lines.{packed_fault}
use Rattle.gs1_c.proofs.LinesByTerms.{under}
use Rattle.gs1_c.proofs.gs1_c_find_dots.Goals as goal

pub returns : goal.returns
returns c =
    let bits = c.args.bits.now in
    let count = c.args.count in
    let fault = packed_fault (length bits) count in
    let put = c.put_dot_symbols in
    under _ c.in-Some.terms _ (λ t. ArePackedSymbolsPut t bits count fault c.args.out.now put.new.out put.result) c.in-Some.ensures put.ensures
