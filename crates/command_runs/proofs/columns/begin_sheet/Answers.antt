-- The image is at its first cells, or all are passed since its size is another one, or there is none, or it is refused.
use Rattle.std.proofs.Common.{◌≡◌, ◌++◌, ◌∷◌, ◌∙◌, ◌&&◌, ◌*◌, ◌/◌, [], ap, append_assoc, arith, false, length, refl, subst, sym, true, ◌+◌}
use Rattle.sheet_core.specs.Bitmaps.{stride}
use Rattle.sheet_core.specs.pbm.Images.{bitmap_of}
use Rattle.sheet_core.specs.declared.pbm.state.Size.{Size}
use Rattle.command_runs.specs.Columns.{has_size, have_size}
use Rattle.command_runs.specs.inner.CellRows.{AtLast}
use Rattle.command_runs.proofs.CellReads.{at_first, half_left, sized}
use Rattle.command_runs.proofs.ToldFaults.{told_fault}
use Rattle.command_runs.proofs.columns.begin_sheet.Goals as goal

pub returns-in_err-size : goal.returns-in_err-size
returns-in_err-size g c = rw (told_fault c.from_residual.result c.in_err-size.field-0.0 c.from_residual.ensures.1) c.in_err-size.ensures.next

pub returns-in_default : goal.returns-in_default
returns-in_default g c = λ lent sheets h.
    let next = rw c.in_default.is at c.in_ok-size.ensures.next in
    let end = next lent sheets h in record { has = end.0; end = end.1 }

pub returns-in_err-pass_rest : goal.returns-in_err-pass_rest
returns-in_err-pass_rest g c = rw (told_fault c.from_residual-in_err-pass_rest.result c.in_err-pass_rest.field-0.0 c.from_residual-in_err-pass_rest.ensures.1) (λ lent sheets h.
    let next = rw c.in-Some.is at c.in_ok-size.ensures.next in
    c.in_err-pass_rest.ensures lent sheets [] (next lent sheets h))

pub returns-in_err-pass_images : goal.returns-in_err-pass_images
returns-in_err-pass_images g c = rw (told_fault c.from_residual-in_err-pass_images.result c.in_err-pass_images.field-0.0 c.from_residual-in_err-pass_images.ensures.1) (λ lent sheets h.
    let next = rw c.in-Some.is at c.in_ok-size.ensures.next in
    let (bytes, p) = c.in_ok-pass_rest.ensures in
    c.in_err-pass_images.ensures lent _ (p.on lent sheets [] (next lent sheets h)))

pub returns-then-not-is_of_size : goal.returns-then-not-is_of_size
returns-then-not-is_of_size g c = λ lent sheets h.
    let next = rw c.in-Some.is at c.in_ok-size.ensures.next in
    let size = rw c.in-Some.is at c.in_ok-size.ensures.size in
    let (bytes, p) = c.in_ok-pass_rest.ensures in
    let (more, fit, on) = c.in_ok-pass_images.ensures in
    let s = bitmap_of c.next_image.new.self.size bytes in
    let unfit : has_size c.args.grid s ≡ false =
    ap (λ (size : Size). has_size c.args.grid (record { width = size.width; height = size.height; bytes = [] })) (sym size) ∙ sym c.is_of_size.ensures ∙ c.if-not-is_of_size.true in (
      s ∷ more,
      subst (AtLast _ _ lent c.pass_images.new.images) (append_assoc sheets (s ∷ []) more) (on lent (sheets ++ s ∷ []) (p.on lent sheets [] (next lent sheets h))),
      ap (λ b. b && have_size c.args.grid more) unfit,
    )

pub to_row-requires : goal.to_row-requires
to_row-requires g c =
    let next = rw c.in-Some.is at c.in_ok-size.ensures.next in
    let size = rw c.in-Some.is at c.in_ok-size.ensures.size in
    let (lent, sheets, h) = c.requires in
    let has = next lent sheets h in
    let r = c.next_image.new.self in
    let both = sized c.args.grid (bitmap_of r.size []) (ap (λ (size : Size). has_size c.args.grid (record { width = size.width; height = size.height; bytes = [] })) (sym size)
    ∙ sym c.is_of_size.ensures ∙ c.if-not-is_of_size.false) in
    rw c.cell_height.ensures (half_left g.S.Source.left g.S.Source.failed c.args.grid r.size (length r.held + r.left) c.grids_keep_limits.ensures both.0 both.1 (omega (arith, has.rest)))

pub returns-in_err-to_row : goal.returns-in_err-to_row
returns-in_err-to_row g c = rw (told_fault c.from_residual-in_err-to_row.result c.in_err-to_row.field-0.0 c.from_residual-in_err-to_row.ensures.1) (λ lent sheets h.
    let next = rw c.in-Some.is at c.in_ok-size.ensures.next in
    c.in_err-to_row.ensures.on lent sheets [] (next lent sheets h))

pub returns : goal.returns
returns g c = λ lent sheets h.
    let next = rw c.in-Some.is at c.in_ok-size.ensures.next in
    let size = rw c.in-Some.is at c.in_ok-size.ensures.size in
    let r = c.next_image.new.self in
    let both = sized c.args.grid (bitmap_of r.size []) (ap (λ (size : Size). has_size c.args.grid (record { width = size.width; height = size.height; bytes = [] })) (sym size)
    ∙ sym c.is_of_size.ensures ∙ c.if-not-is_of_size.false) in
    at_first g.S.Source.left g.S.Source.failed c.args.grid r c.to_row.new.self _ c.grids_keep_limits.ensures both.0 both.1 c.in_ok-to_row.ensures.on
    (ap (λ h. stride r.size.width * (h / 2)) c.cell_height.ensures) c.in_ok-to_row.ensures.held
    lent sheets (next lent sheets h)
