use Rattle.std.proofs.Common.{◌≡◌, ◌≤◌, ◌∙◌, ◌+◌, ◌*◌, ◌∷◌, ◌++◌, [], ℕ, List, ap, ap₂, arith, drop, length, refl, subst, sym, take}
use Rattle.std.specs.List.{AllByRecursion, AllZip}
use Rattle.std.proofs.lemmas.List.{length-replicate, take_at}
use Rattle.std.proofs.lemmas.Result.{err_from_is_err_and}
use Rattle.digits_core.specs.Buffers.{IsPut, pasted}
use Rattle.sheet_core.specs.Bitmaps.{Bitmap, stride}
use Rattle.sheet_core.specs.Drawing.{ArePrinted, IsSheetFault}
use Rattle.sheet_core.specs.Grids.{Cells, IsGrid}
use Rattle.sheet_core.specs.Labels.{IsDrawn, IsPrintable}
use Rattle.sheet_core.specs.inner.Lines.{band}
use Rattle.sheet_core.specs.pbm.Headers.{header_text}
use Rattle.sheet_core.specs.pbm.Images.{pbm_of}
use Rattle.sheet_core.proofs.OneLabelSymbol.{all_printed}
use Rattle.sheet_core.proofs.LabelImages.{image_bytes, image_long, image_of_label, put_none, put_whole}
use Rattle.sheet_core.proofs.label_image.label_pbm.Goals.{After-len-2}
use Rattle.sheet_core.proofs.label_image.label_pbm.Goals as goal

pub draw_line-requires-clause-symbols : goal.draw_line-requires-clause-symbols
draw_line-requires-clause-symbols c =
    let p = all_printed c.args.grid c.from_ref-labels.result.now c.in_ok-check_labels.ensures.ok in
    (p.symbols, p.drawn, p.fit)

-- the line of the bars
abbrev line_of : After-len-2 → List ℕ
line_of c = c.draw_line.new.line

-- what both ends know of it, of the header and of how many bytes the image has
record Known (c : After-len-2) : Type 0 where
  whole : take (length c.light_line-line.result.items) (line_of c ++ drop (length (line_of c)) c.light_line-line.result.items) ≡ line_of c
  head : c.header-header.result.items ≡ header_text (c.args.grid.columns * c.args.grid.width) (c.args.grid.rows * c.args.grid.height)
  size : c.len.result + c.from.result * c.len-2.result ≡ length (image_bytes c.args.grid (line_of c))
  long : length (line_of c) ≡ stride (c.args.grid.columns * c.args.grid.width)
  image : (sheets : List Bitmap) × ArePrinted (c.args.label.now ∷ []) c.args.grid sheets × (pbm_of sheets ≡ image_bytes c.args.grid (line_of c))

known : (c : After-len-2) → Known c
known c =
    let g : Cells = c.args.grid in
    let labels = c.from_ref-labels.ensures.value in
    let p = all_printed g (c.args.label.now ∷ []) (subst (AllByRecursion (IsPrintable g)) labels c.in_ok-check_labels.ensures.ok) in
    let grid : IsGrid g = subst IsGrid c.grid.view_is c.grid.invariant in
    let line : List ℕ = line_of c in
    let light : List ℕ = c.light_line-line.result.items in
    let drawn = c.draw_line.ensures p.symbols (subst (λ ls. AllZip IsDrawn ls p.symbols) (sym labels) p.drawn) in
    let wide = ap (λ (g : Cells). stride (g.columns * g.width)) c.grid.view_is in
    let long : length line ≡ length light = drawn.long ∙ sym wide ∙ sym (length-replicate {A = ℕ} (stride (c.grid.inside.columns * c.grid.inside.cell_width)) 0)
    ∙ sym (ap length c.light_line-line.ensures) in
    let same = take_at line (drop (length line) light) (length light) long in
    let head : c.header-header.result.items ≡ header_text (g.columns * g.width) (g.rows * g.height) =
    c.header-header.ensures ∙ ap (λ (g : Cells). header_text (g.columns * g.width) (g.rows * g.height)) c.grid.view_is in
    let high : c.from.result ≡ g.rows * g.height = c.from.ensures ∙ ap (λ (g : Cells). g.rows * g.height) c.grid.view_is in
    let bytes : c.len-2.result ≡ length line = c.len-2.ensures.value ∙ ap length same in
    let count : ℕ = c.len.result + c.from.result * c.len-2.result in
    let parts : count ≡ length c.header-header.result.items + g.rows * g.height * length line =
    ap₂ (λ h b. h + b) c.len.ensures.value (ap₂ (λ h b. h * b) high bytes) in
    record {
      whole = same;
      head = head;
      size = image_long g c.header-header.result.items line count grid c.requires.rows head parts;
      long = drawn.long;
      image = image_of_label g c.args.label.now p line grid c.requires.columns c.requires.rows drawn;
    }

pub returns-then-count-out-clause-ok : goal.returns-then-count-out-clause-ok
returns-then-count-out-clause-ok c =
    let g : Cells = c.args.grid in
    let k = known (goal.at.returns-then-count-out-clause-ok c).After-len-2 in
    let line : List ℕ = c.draw_line.new.line in
    let out : List ℕ = c.args.out.now in
    let count : ℕ = c.len.result + c.from.result * c.len-2.result in
    let put : c.put_image.new.out ≡ pasted out 0 (image_bytes g line) =
    c.put_image.ensures ∙ ap₂ (λ h l. pasted out 0 (h ++ band g l)) (c.as_slice.ensures.value ∙ k.head) (c.as_slice-then-count-out.ensures.value ∙ k.whole) in (
      k.image.0,
      k.image.1,
      subst (λ bs. IsPut bs out c.put_image.new.out count) (sym k.image.2)
          (put_whole (image_bytes g line) out c.put_image.new.out count k.size c.if-count-out.true put),
    )

pub returns-else-count-out-clause-ok : goal.returns-else-count-out-clause-ok
returns-else-count-out-clause-ok c =
    let k = known (goal.at.returns-else-count-out-clause-ok c).After-len-2 in
    let out : List ℕ = c.args.out.now in
    let count : ℕ = c.len.result + c.from.result * c.len-2.result in (
      k.image.0,
      k.image.1,
      subst (λ bs. IsPut bs out out count) (sym k.image.2)
          (put_none (image_bytes c.args.grid c.draw_line.new.line) out count k.size c.if-count-out.false),
    )

pub returns-in_err-check_labels-clause-refused : goal.returns-in_err-check_labels-clause-refused
returns-in_err-check_labels-clause-refused c =
    let p = err_from_is_err_and c.from_residual.result c.from_residual.ensures.1 in
    rw (p.1, p.2) (subst (λ ls. IsSheetFault c.args.grid ls c.in_err-check_labels.field-0.0) c.from_ref-labels.ensures.value
    c.in_err-check_labels.ensures.err)

pub returns-in_err-check_labels-clause-unchanged : goal.returns-in_err-check_labels-clause-unchanged
returns-in_err-check_labels-clause-unchanged c =
    let p = err_from_is_err_and c.from_residual.result c.from_residual.ensures.1 in
    rw (p.1) refl

-- there is room for an image of one row of cells
room_of : (a b la lb f h rows out : ℕ) → a ≡ la → b ≡ lb → f ≡ rows * h → rows ≡ 1 → la + f * lb ≤ out → a + h * b ≤ out
room_of a b la lb f h rows out p q r s t =
    let one : 1 * h ≡ h = omega arith in
    let high : f ≡ h = r ∙ ap (λ n. n * h) s ∙ one in
    rw (p, q, ← high) t

pub put_image-requires-clause-room : goal.put_image-requires-clause-room
put_image-requires-clause-room c =
    let high = c.from.ensures ∙ ap (λ (g : Cells). g.rows * g.height) c.grid.view_is in
    room_of (length c.as_slice.result.now) (length c.as_slice-then-count-out.result.now) c.len.result c.len-2.result c.from.result
    c.args.grid.height c.args.grid.rows (length c.args.out.now)
    (ap length c.as_slice.ensures.value ∙ sym c.len.ensures.value) (ap length c.as_slice-then-count-out.ensures.value ∙ sym c.len-2.ensures.value)
    high c.requires.rows c.if-count-out.true

pub put_image-requires-clause-long : goal.put_image-requires-clause-long
put_image-requires-clause-long c =
    let k = known (goal.at.put_image-requires-clause-long c).After-len-2 in
    ap length (c.as_slice-then-count-out.ensures.value ∙ k.whole) ∙ k.long
