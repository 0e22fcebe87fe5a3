use Rattle.scan_core.specs.Row.{runs_fault}
use Rattle.gs1_c.specs.Found.{AreDatedSymbolsPut}
use Rattle.gs1_c.proofs.LinesByTerms.{under}
use Rattle.gs1_c.proofs.gs1_c_find.Goals as goal

pub returns : goal.returns
returns c =
    let widths = c.args.widths.now in
    let put = c.put_symbols in
    under _ c.in-Some.terms _ (λ t. AreDatedSymbolsPut t widths (runs_fault widths) c.args.out.now put.new.out put.result) c.in-Some.ensures put.ensures
