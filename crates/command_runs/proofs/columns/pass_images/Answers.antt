-- Each image that is passed is one sheet more.
use Rattle.std.proofs.Common.{◌≡◌, ◌++◌, ◌∷◌, ◌∙◌, ◌&&◌, [], ap, ap₂, append-nil, arith, length, refl, subst, sym}
use Rattle.sheet_core.specs.Bitmaps.{Bitmap}
use Rattle.sheet_core.specs.pbm.Images.{bitmap_of}
use Rattle.sheet_core.specs.pbm.Rows.{HasSheets}
use Rattle.sheet_core.specs.declared.pbm.state.Size.{Size}
use Rattle.command_runs.specs.Columns.{has_size}
use Rattle.command_runs.proofs.CellReads.{sheet_passed}
use Rattle.command_runs.proofs.CellsGiven.{size_more}
use Rattle.command_runs.proofs.ToldFaults.{told_fault}
use Rattle.command_runs.proofs.columns.pass_images.Goals as goal

pub sheets-init : goal.sheets-init
sheets-init g c = record { more = []; fit = refl; on = λ lent sheets h. subst (HasSheets _ _ lent c.args.images.now) (sym (append-nil sheets)) h }

pub sheets-preserved : goal.sheets-preserved
sheets-preserved g c =
    let inv = c.sheets.invariant in
    let next = rw c.in-Some.is at c.in_ok-size.ensures.next in
    let size = rw c.in-Some.is at c.in_ok-size.ensures.size in
    let (bytes, p) = c.in_ok-pass_rest.ensures in
    let s = bitmap_of c.next_image.new.self.size bytes in
    record {
      more = inv.more ++ s ∷ [];
      fit = sym (size_more c.args.grid inv.more s c.sheets.fit c.is_of_size-fit.result (sym inv.fit)
          (ap (λ (size : Size). has_size c.args.grid (record { width = size.width; height = size.height; bytes = [] })) (sym size) ∙ sym c.is_of_size-fit.ensures));
      on = sheet_passed _ _ c.args.images.now c.sheets.images c.next_image.new.self c.pass_rest.new.self inv.more c.in-Some.size bytes inv.on next p;
    }

pub returns : goal.returns
returns g c =
    let inv = c.sheets.invariant in
    let next = rw c.in_default.is at c.in_ok-size.ensures.next in
    (inv.more, inv.fit, λ lent sheets h. let end = next lent (sheets ++ inv.more) (inv.on lent sheets h) in record { has = end.0; end = end.1 })

pub returns-in_err-size : goal.returns-in_err-size
returns-in_err-size g c = rw (told_fault c.from_residual.result c.in_err-size.field-0.0 c.from_residual.ensures.1) (λ lent sheets h.
    c.in_err-size.ensures.next lent (sheets ++ c.sheets.invariant.more) (c.sheets.invariant.on lent sheets h))

pub returns-in_err-pass_rest : goal.returns-in_err-pass_rest
returns-in_err-pass_rest g c =
    let next = rw c.in-Some.is at c.in_ok-size.ensures.next in
    rw (told_fault c.from_residual-in_err-pass_rest.result c.in_err-pass_rest.field-0.0 c.from_residual-in_err-pass_rest.ensures.1) (λ lent sheets h.
    c.in_err-pass_rest.ensures lent (sheets ++ c.sheets.invariant.more) [] (next lent (sheets ++ c.sheets.invariant.more) (c.sheets.invariant.on lent sheets h)))
