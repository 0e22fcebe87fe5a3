use Rattle.std.proofs.Common.{◌≡◌, ◌*◌, Ok, length, drop, sym, ap, ap₂, subst, ◌∙◌}
use Rattle.std.proofs.lemmas.List.{take_at}
use Rattle.sheet_core.specs.Bitmaps.{IsBitmap, stride}
use Rattle.sheet_core.specs.pbm.Images.{ReadsBytes, unpadded}
use Rattle.sheet_core.specs.inner.Images.{StopsBefore}
use Rattle.sheet_core.proofs.pbm.ImageFacts.{bitmap_of_rows, err_is, image_read, image_stopped, image_told}
use Rattle.sheet_core.proofs.pbm.read.read_image.Goals as goal

pub returns-in_err-read_bytes-clause-read : goal.returns-in_err-read_bytes-clause-read
returns-in_err-read_bytes-clause-read g c =
    let e = c.from_residual-in_err-read_bytes.ensures in
    let n : c.stride.result * c.from.result ≡ stride c.in_ok-size.size.width * c.in_ok-size.size.height = ap₂ (λ a b. a * b) c.stride.ensures c.from.ensures in
    let s = subst (λ n. StopsBefore n (g.R.Source.left c.read_header.new.reader) (g.R.Source.left c.read_bytes.new.reader) c.in_err-read_bytes.field-0.0) n
    c.in_err-read_bytes.ensures.stopped in
    subst (ReadsBytes (image_told c.args.first) (g.R.Source.left c.args.reader.now) (g.R.Source.left c.read_bytes.new.reader))
    (sym (err_is c.from_residual-in_err-read_bytes.result c.in_err-read_bytes.field-0.0 e.0 e.1))
    (image_stopped (g.R.Source.left c.args.reader.now) (g.R.Source.left c.read_header.new.reader) (g.R.Source.left c.read_bytes.new.reader) c.args.first
    c.in_ok-size.size c.in_err-read_bytes.field-0.0 c.in_ok-size.ensures.read s)

pub invariant_of-result : goal.invariant_of-result
invariant_of-result g c =
    let v = c.as_mut_slice.ensures in
    let size = c.in_ok-size.size in
    let rows = c.read_bytes.new.bytes.items in
    let n : length rows ≡ stride size.width * size.height = c.in_ok-read_bytes.ensures.count ∙ ap₂ (λ a b. a * b) c.stride.ensures c.from.ensures in
    let same : c.clear_pads.new.bytes ≡ unpadded size.width rows = c.clear_pads.ensures ∙ ap (unpadded size.width) v.value in
    let all = take_at c.clear_pads.new.bytes (drop (length c.clear_pads.new.bytes) rows) c.read_bytes.new.bytes.len (c.clear_pads.auto.bytes ∙ v.len) in
    let sizes = c.in_ok-size.ensures.size in
    subst (λ bytes. IsBitmap (record { width = size.width; height = size.height; bytes = bytes })) (sym (all ∙ same))
    (bitmap_of_rows size rows sizes.0 sizes.1 n)

pub returns-clause-read : goal.returns-clause-read
returns-clause-read g c =
    let v = c.as_mut_slice.ensures in
    let size = c.in_ok-size.size in
    let rows = c.read_bytes.new.bytes.items in
    let n : length rows ≡ stride size.width * size.height = c.in_ok-read_bytes.ensures.count ∙ ap₂ (λ a b. a * b) c.stride.ensures c.from.ensures in
    let same : c.clear_pads.new.bytes ≡ unpadded size.width rows = c.clear_pads.ensures ∙ ap (unpadded size.width) v.value in
    let all = take_at c.clear_pads.new.bytes (drop (length c.clear_pads.new.bytes) rows) c.read_bytes.new.bytes.len (c.clear_pads.auto.bytes ∙ v.len) in
    subst (λ bytes. ReadsBytes (image_told c.args.first) (g.R.Source.left c.args.reader.now) (g.R.Source.left c.read_bytes.new.reader)
    (Ok (record { width = size.width; height = size.height; bytes = bytes }))) (sym (all ∙ same))
    (image_read (g.R.Source.left c.args.reader.now) (g.R.Source.left c.read_header.new.reader) (g.R.Source.left c.read_bytes.new.reader) c.args.first size rows
    c.in_ok-size.ensures.read c.in_ok-read_bytes.ensures.ok n)
