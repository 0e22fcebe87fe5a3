use Rattle.std.proofs.Common.{◌≡◌, sym, ap, subst, ◌∙◌}
use Rattle.std.specs.Prelude.{OnErr}
use Rattle.std.specs.Io.KnownBytes.{Appends}
use Rattle.digits_core.specs.Bytes.{TookFront}
use Rattle.sheet_core.specs.Bitmaps.{Bitmap}
use Rattle.sheet_core.specs.pbm.Headers.{header_text}
use Rattle.sheet_core.specs.pbm.Images.{image}
use Rattle.sheet_core.proofs.pbm.FileFacts.{on_err, took_after, took_more}
use Rattle.sheet_core.proofs.pbm.ImageFacts.{err_is}
use Rattle.sheet_core.proofs.pbm.write.write_image.Goals as goal

pub returns-in_err-write_all-clause-err : goal.returns-in_err-write_all-clause-err
returns-in_err-write_all-clause-err g c =
    let e = c.from_residual.ensures in
    let s : Bitmap = c.args.sheet.now in
    let text : c.as_slice.result.now ≡ header_text s.width s.height =
    c.as_slice.ensures.value ∙ c.header.ensures ∙ ap (λ (s : Bitmap). header_text s.width s.height) c.sheet.view_is in
    let front = subst (TookFront (g.W.Sink.taken c.args.writer.now) (g.W.Sink.taken c.write_all.new.sink)) text c.in_err-write_all.ensures.err in
    subst (λ r. OnErr r (TookFront (g.W.Sink.taken c.args.writer.now) (g.W.Sink.taken c.write_all.new.sink) (image s)))
    (sym (err_is c.from_residual.result c.in_err-write_all.field-0.0 e.0 e.1))
    (took_more (g.W.Sink.taken c.args.writer.now) (g.W.Sink.taken c.write_all.new.sink) (header_text s.width s.height) s.bytes front)

pub returns-clause-err : goal.returns-clause-err
returns-clause-err g c =
    let s : Bitmap = c.args.sheet.now in
    let text : c.as_slice.result.now ≡ header_text s.width s.height =
    c.as_slice.ensures.value ∙ c.header.ensures ∙ ap (λ (s : Bitmap). header_text s.width s.height) c.sheet.view_is in
    let bytes : c.as_slice-2.result.now ≡ s.bytes = c.as_slice-2.ensures.value ∙ ap (λ (s : Bitmap). s.bytes) c.sheet.view_is in
    let head = subst (Appends (g.W.Sink.taken c.args.writer.now) (g.W.Sink.taken c.write_all.new.sink)) text c.in_ok-write_all.ensures.ok in
    on_err c.write_all-2.result (TookFront (g.W.Sink.taken c.write_all.new.sink) (g.W.Sink.taken c.write_all-2.new.sink) c.as_slice-2.result.now) _
    (λ front. took_after (g.W.Sink.taken c.args.writer.now) (g.W.Sink.taken c.write_all.new.sink) (g.W.Sink.taken c.write_all-2.new.sink)
    (header_text s.width s.height) s.bytes head
    (subst (TookFront (g.W.Sink.taken c.write_all.new.sink) (g.W.Sink.taken c.write_all-2.new.sink)) bytes front))
    c.write_all-2.ensures.err
