-- What was read stands behind what was held; or the source has ended too soon, or a read has failed.
use Rattle.std.proofs.Common.{arith, refl}
use Rattle.sheet_core.specs.declared.fault.PbmFault.TheVariants.{ReadFault}
use Rattle.sheet_core.proofs.pbm.ImageFacts.{err_is}
use Rattle.sheet_core.proofs.pbm.RowFacts.{goes_fill, rows_broken, rows_cut}
use Rattle.sheet_core.proofs.pbm.rows.ImageRows.fill.Goals as goal

pub returns-in_err-count-clause-on : goal.returns-in_err-count-clause-on
returns-in_err-count-clause-on g c =
    let e = c.from_residual.ensures in
    rw (err_is c.from_residual.result ReadFault e.0 e.1) (λ lent sheets passed h.
    rows_broken _ _ lent c.args.self.now _ sheets passed h refl c.in_err-count.ensures.kept c.in_err-count.ensures.fails)

pub returns-then-count-eq0-clause-on : goal.returns-then-count-eq0-clause-on
returns-then-count-eq0-clause-on g c = λ lent sheets passed h.
    rows_cut _ _ lent c.args.self.now _ sheets passed h refl c.in_ok-count.count c.args.self.now.left c.read.new.self c.in_ok-count.ensures.ok c.if-count-eq0.true
    c.requires.some refl c.in_ok-count.ensures.works

pub returns-clause-on : goal.returns-clause-on
returns-clause-on g c =
    let reads = c.in_ok-count.ensures.ok in
    goes_fill _ _ c.in_ok-count.count c.args.self.now _ refl reads c.in_ok-count.ensures.works refl refl (omega (arith, reads.few))
