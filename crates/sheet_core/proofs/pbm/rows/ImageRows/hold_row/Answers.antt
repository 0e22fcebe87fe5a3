use Rattle.std.proofs.Common.{Err, Ok, arith, refl}
use Rattle.sheet_core.proofs.pbm.ImageFacts.{err_is}
use Rattle.sheet_core.proofs.pbm.RowFacts.{goes_none, goes_on}
use Rattle.sheet_core.proofs.pbm.rows.ImageRows.hold_row.Goals as goal

pub pieces-init : goal.pieces-init
pieces-init g c = record { goes = goes_none _ _ c.args.self.now }

pub pieces-preserved : goal.pieces-preserved
pieces-preserved g c = record { goes = goes_on _ _ 0 0 0 c.args.self.now c.pieces.self c.fill.new.self (Ok tt) refl c.pieces.invariant.goes c.in_ok-fill.ensures.on }

pub returns-in_err-fill-clause-on : goal.returns-in_err-fill-clause-on
returns-in_err-fill-clause-on g c =
    let e = c.from_residual.ensures in
    let f = c.in_err-fill.field-0.0 in
    rw (err_is c.from_residual.result f e.0 e.1) (goes_on _ _ 0 0 0 c.args.self.now c.pieces.self c.fill.new.self (Err f) refl c.pieces.invariant.goes c.in_err-fill.ensures.on)
