-- What is held is passed, and then what is left.
use Rattle.std.proofs.Common.{arith, length, refl, ◌+◌}
use Rattle.sheet_core.proofs.pbm.RowFacts.{gives_up, goes_on, rows_end}
use Rattle.sheet_core.proofs.pbm.rows.ImageRows.pass_rest.Goals as goal

pub returns : goal.returns
returns g c =
    let r = c.args.self.now in
    let up = gives_up _ _ c.len-held.result r _ (omega (arith, c.len-held.ensures)) refl refl refl refl c.give_up.ensures in
    rows_end _ _ (length r.held + r.left) r c.pass.new.self c.pass.result refl
    (goes_on _ _ c.len-held.result r.left (length r.held + r.left) r _ c.pass.new.self c.pass.result (omega (arith, c.len-held.ensures)) up c.pass.ensures)
