use Rattle.std.proofs.Common.{◌++◌, sym, subst, take}
use Rattle.digits_core.specs.Bytes.{TookFront}
use Rattle.sheet_core.specs.pbm.Images.{image, pbm_of}
use Rattle.sheet_core.proofs.pbm.FileFacts.{err_at, image_more, took_after, took_more}
use Rattle.sheet_core.proofs.pbm.write.write_pbm.Goals as goal

pub returns-then-is_err-clause-err : goal.returns-then-is_err-clause-err
returns-then-is_err-clause-err g c =
    let a = g.W.Sink.taken c.args.writer.now in
    let b = g.W.Sink.taken c.loop-sheet.writer in
    let d = g.W.Sink.taken c.write_image.new.writer in
    let front = err_at c.write_image.result _ c.if-is_err.ensures.value c.write_image.ensures.err in
    let more = image_more c.args.sheets.now c.loop-sheet.sheet-index c.sheet-item.result c.loop-sheet-test.true c.sheet-item.is in
    subst (TookFront a d) (sym more.1) (took_after a b d (pbm_of (take c.loop-sheet.sheet-index c.args.sheets.now)) (image c.sheet-item.result ++ more.0)
    c.loop-sheet.invariant.wrote (took_more b d (image c.sheet-item.result) more.0 front))
