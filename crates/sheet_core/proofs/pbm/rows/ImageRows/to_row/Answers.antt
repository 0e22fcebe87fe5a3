use Rattle.std.proofs.Common.{Err, ap, arith, ◌*◌, ◌+◌, ◌∙◌, ◌≡◌}
use Rattle.sheet_core.specs.Bitmaps.{stride}
use Rattle.sheet_core.proofs.pbm.ImageFacts.{err_is}
use Rattle.sheet_core.proofs.pbm.RowFacts.{goes_on}
use Rattle.sheet_core.proofs.pbm.rows.ImageRows.to_row.Goals as goal

pub hold_row-requires : goal.hold_row-requires
hold_row-requires g c =
    let (bytes, long, p) = c.in_ok-pass_rows.ensures in
    let same : stride c.pass_rows.new.self.size.width ≡ stride c.args.self.now.size.width = ap (λ s. stride s.width) p.size in
    omega (arith, same, long, p.less, c.requires)

pub returns-clause-on : goal.returns-clause-on
returns-clause-on g c =
    let n = stride c.args.self.now.size.width * c.args.rows in
    goes_on _ _ n 0 n c.args.self.now c.pass_rows.new.self c.hold_row.new.self c.hold_row.result (omega arith) c.in_ok-pass_rows.ensures c.hold_row.ensures.on

pub returns-in_err-pass_rows-clause-on : goal.returns-in_err-pass_rows-clause-on
returns-in_err-pass_rows-clause-on g c =
    let e = c.from_residual.ensures in
    rw (err_is c.from_residual.result c.in_err-pass_rows.field-0.0 e.0 e.1) c.in_err-pass_rows.ensures
