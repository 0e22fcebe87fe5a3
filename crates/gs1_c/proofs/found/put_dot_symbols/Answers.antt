use Rattle.std.proofs.Common.{◌≡◌, subst, sym}
use Rattle.scan_core.specs.Bits.{dots_at}
use Rattle.scan_core.specs.Row.{dots_of}
use Rattle.scan_core.specs.Windows.{AreTold, Search}
use Rattle.gs1_c.specs.Found.{ArePackedSymbolsPut}
use Rattle.gs1_c.proofs.found.put_dot_symbols.Goals as goal

pub returns-in-Ok : goal.returns-in-Ok
returns-in-Ok c =
    let bits = c.args.bits.now in
    let dots = c.in-Ok.ensures.ok in
    let search = c.of_dots-search.ensures in
    let runs = c.of_dots-search.result.runs in
    let put = c.put_told.ensures in
    let told = subst (λ (s : Search). AreTold s put.0) search.all put.1 in
    let symbols = c.symbols_are_told.ensures runs c.args.year put.0 search.row told in
    subst (λ fault. ArePackedSymbolsPut c.args.year bits c.args.count fault c.args.out.now c.put_told.new.out c.put_told.result) (sym dots.0)
    (runs, search.row, subst (λ n. dots_of runs ≡ dots_at bits 0 n) dots.1 search.dots, (put.0, symbols, put.2))
