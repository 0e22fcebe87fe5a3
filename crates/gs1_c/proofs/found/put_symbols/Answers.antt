use Rattle.std.proofs.Common.{subst}
use Rattle.scan_core.specs.Windows.{AreTold, Search}
use Rattle.gs1_c.proofs.found.put_symbols.Goals as goal

pub returns-in-Ok : goal.returns-in-Ok
returns-in-Ok c =
    let e = c.in-Ok.ensures in
    let p = c.put_told.ensures in
    rw e.taken (
      p.0,
      c.symbols_are_told.ensures c.args.widths.now c.args.year p.0 ((c.row_or_fault.ensures c.args.widths.now).1 e.taken)
          (subst (λ (s : Search). AreTold s p.0) e.ok p.1),
      p.2,
    )
