use Rattle.std.proofs.Common.{◌≡◌, ◌+◌, [], ◌∷◌, ◌++◌, Err, refl, sym, subst, ◌∙◌, arith}
use Rattle.std.specs.Prelude.{IfErr}
use Rattle.sheet_core.specs.declared.fault.PbmFault.TheVariants.{ReadFault}
use Rattle.sheet_core.specs.pbm.Images.{ReadsBytes, images_of}
use Rattle.sheet_core.proofs.pbm.FileFacts.{Had, broken, ended, had_more, had_none, image_refused, not_kept, too_many}
use Rattle.sheet_core.proofs.pbm.HeaderFacts.{at_none, at_some}
use Rattle.sheet_core.proofs.pbm.ImageFacts.{err_is, image_wider}
use Rattle.sheet_core.proofs.pbm.read.read_sheets.Goals as goal

pub loop-init : goal.loop-init
loop-init g c = record { sheets = []; had = had_none (g.R.Source.left c.args.reader.now) [] refl; made = c.requires; same = refl }

pub returns-in_err-first-clause-err : goal.returns-in_err-first-clause-err
returns-in_err-first-clause-err g c =
    let e = c.from_residual.ensures in
    let r = broken _ _ _ _ _ c.loop.invariant.had c.in_err-first.ensures.byte.1 in
    subst (λ r. IfErr r (λ fault. ReadsBytes images_of (g.R.Source.left c.args.reader.now) (g.R.Source.left c.next.new.reader) (Err fault)))
    (sym (err_is c.from_residual.result ReadFault e.0 e.1)) r

pub returns-in_default-clause-ok : goal.returns-in_default-clause-ok
returns-in_default-clause-ok g c =
    let inv = c.loop.invariant in
    let end = at_none _ _ _ c.in_default.is c.in_ok-first.ensures.byte.1 in
    (inv.sheets, ended _ _ _ _ _ inv.had end.0, inv.made)

pub returns-in_err-sheet-clause-err : goal.returns-in_err-sheet-clause-err
returns-in_err-sheet-clause-err g c =
    let e = c.from_residual-in_err-sheet.ensures in
    let first = at_some _ _ _ _ c.in-Some.is c.in_ok-first.ensures.byte.1 in
    let fault = c.in_err-sheet.field-0.0 in
    let r = image_refused _ _ _ _ _ _ _ fault c.loop.invariant.had c.loop-test.true first c.in_err-sheet.ensures.read in
    subst (λ r. IfErr r (λ fault. ReadsBytes images_of (g.R.Source.left c.args.reader.now) (g.R.Source.left c.read_image.new.reader) (Err fault)))
    (sym (err_is c.from_residual-in_err-sheet.result fault e.0 e.1)) r

pub take-requires : goal.take-requires
take-requires g c = (c.loop.invariant.sheets, c.loop.invariant.made)

pub returns-in-Err-clause-err : goal.returns-in-Err-clause-err
returns-in-Err-clause-err g c =
    let inv = c.loop.invariant in
    let first = at_some _ _ _ _ c.in-Some.is c.in_ok-first.ensures.byte.1 in
    let s = c.in_ok-sheet.sheet in
    not_kept _ _ (c.loop.counter + 1) (inv.sheets ++ s ∷ [])
    (had_more _ _ _ _ c.loop.counter inv.sheets (inv.sheets ++ s ∷ []) _ s inv.had c.loop-test.true first c.in_ok-sheet.ensures.read
    (λ bytes rest e. image_wider bytes rest s e) refl)

pub loop-preserved : goal.loop-preserved
loop-preserved g c =
    let inv = c.loop.invariant in
    let first = at_some _ _ _ _ c.in-Some.is c.in_ok-first.ensures.byte.1 in
    let s = c.in_ok-sheet.sheet in
    record {
      sheets = inv.sheets ++ s ∷ [];
      had = had_more _ _ _ _ c.loop.counter inv.sheets (inv.sheets ++ s ∷ []) _ s inv.had c.loop-test.true first c.in_ok-sheet.ensures.read
          (λ bytes rest e. image_wider bytes rest s e) refl;
      made = c.in-Ok.ensures inv.sheets inv.made;
      same = c.in_ok-sheet.ensures.failed ∙ c.in_ok-first.ensures.byte.0 ∙ inv.same;
    }

pub returns-in_err-next-clause-err : goal.returns-in_err-next-clause-err
returns-in_err-next-clause-err g c =
    let e = c.from_residual-in_err-next.ensures in
    let r = broken _ _ _ _ _ c.loop.invariant.had c.in_err-next.ensures.byte.1 in
    subst (λ r. IfErr r (λ fault. ReadsBytes images_of (g.R.Source.left c.args.reader.now) (g.R.Source.left c.next-2.new.reader) (Err fault)))
    (sym (err_is c.from_residual-in_err-next.result ReadFault e.0 e.1)) r

pub returns-in-None-clause-ok : goal.returns-in-None-clause-ok
returns-in-None-clause-ok g c =
    let inv = c.loop.invariant in
    let end = at_none _ _ _ c.in-None.is c.in_ok-next.ensures.byte.1 in
    (inv.sheets, ended _ _ _ _ _ inv.had end.0, inv.made)

pub returns-clause-err : goal.returns-clause-err
returns-clause-err g c =
    let inv = c.loop.invariant in
    let end : c.loop.counter ≡ 4096 = omega arith in
    let last = at_some _ _ _ _ c.in-Some-2.is c.in_ok-next.ensures.byte.1 in
    too_many _ _ _ inv.sheets _ (subst (λ k. Had (g.R.Source.left c.args.reader.now) (g.R.Source.left c.loop.reader) k inv.sheets) end inv.had) last
