-- The header is read, or the file is refused at it.
use Rattle.std.proofs.Common.{◌*◌, ◌∙◌, ap₂, arith, refl}
use Rattle.sheet_core.specs.declared.fault.PbmFault.TheVariants.{ReadFault}
use Rattle.sheet_core.proofs.pbm.HeaderFacts.{at_none, at_some}
use Rattle.sheet_core.proofs.pbm.ImageFacts.{err_is}
use Rattle.sheet_core.proofs.pbm.RowFacts.{sheets_broken, sheets_end, sheets_fault, sheets_many, sheets_next}
use Rattle.sheet_core.proofs.pbm.rows.ImageRows.next_image.Goals as goal

pub returns-in_err-first-clause-next : goal.returns-in_err-first-clause-next
returns-in_err-first-clause-next g c =
    let e = c.from_residual.ensures in
    let byte = c.in_err-first.ensures.byte in
    rw (err_is c.from_residual.result ReadFault e.0 e.1) (λ lent sheets h. sheets_broken _ _ lent c.args.self.now _ sheets h refl byte.1 byte.0)

pub returns-in_default-clause-next : goal.returns-in_default-clause-next
returns-in_default-clause-next g c = λ lent sheets h.
    let byte = c.in_ok-first.ensures.byte in
    let end = at_none _ _ _ c.in_default.is byte.1 in
    (sheets_end _ _ lent c.args.self.now _ sheets h refl end.0 byte.0 refl refl, end.1)

pub returns-then-self-eq-MOST_IMAGES-clause-next : goal.returns-then-self-eq-MOST_IMAGES-clause-next
returns-then-self-eq-MOST_IMAGES-clause-next g c = λ lent sheets h.
    let byte = c.in_ok-first.ensures.byte in
    sheets_many _ _ lent c.args.self.now _ sheets h refl _ c.if-self-eq-MOST_IMAGES.true (at_some _ _ _ _ c.in-Some.is byte.1) byte.0

pub returns-in_err-size-clause-next : goal.returns-in_err-size-clause-next
returns-in_err-size-clause-next g c =
    let e = c.from_residual-in_err-size.ensures in
    let byte = c.in_ok-first.ensures.byte in
    let f = c.in_err-size.field-0.0 in
    rw (err_is c.from_residual-in_err-size.result f e.0 e.1) (λ lent sheets h.
    sheets_fault _ _ lent c.args.self.now _ sheets h refl (g.S.Source.left c.next.new.reader) (g.S.Source.failed c.next.new.reader) _ f
    (omega (arith, c.args.self.now.ok, c.if-self-eq-MOST_IMAGES.false)) (at_some _ _ _ _ c.in-Some.is byte.1) c.in_err-size.ensures.read c.in_err-size.ensures.failed byte.0)

pub returns-clause-next : goal.returns-clause-next
returns-clause-next g c = λ lent sheets h.
    let byte = c.in_ok-first.ensures.byte in
    sheets_next _ _ lent c.args.self.now _ sheets h refl (g.S.Source.left c.next.new.reader) _ c.in_ok-size.size
    (omega (arith, c.args.self.now.ok, c.if-self-eq-MOST_IMAGES.false)) (at_some _ _ _ _ c.in-Some.is byte.1) c.in_ok-size.ensures.read
    (c.in_ok-size.ensures.failed ∙ byte.0) refl refl (ap₂ (λ a b. a * b) c.stride.ensures c.from.ensures) refl
