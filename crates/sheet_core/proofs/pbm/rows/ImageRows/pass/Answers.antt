-- What is held is passed, piece by piece.
use Rattle.std.proofs.Common.{Err, Ok, arith, refl, ◌-◌, ◌≡◌}
use Rattle.sheet_core.proofs.pbm.ImageFacts.{err_is}
use Rattle.sheet_core.proofs.pbm.RowFacts.{gives_up, goes_none, goes_on}
use Rattle.sheet_core.proofs.pbm.rows.ImageRows.pass.Goals as goal

pub pieces-init : goal.pieces-init
pieces-init g c = record { few = omega arith; come = c.requires; goes = rw (let e : c.args.count - c.args.count ≡ 0 = omega arith in e) (goes_none _ _ c.args.self.now) }

pub pieces-preserved : goal.pieces-preserved
pieces-preserved g c =
    let r = c.pieces.self in
    let count = c.args.count in
    let rest = c.pieces.rest in
    let held = c.len-held.result in
    let inv = c.pieces.invariant in
    let on = c.in_ok-fill.ensures.on in
    let up = gives_up _ _ held r _ (omega (arith, c.len-held.ensures)) refl refl refl refl c.give_up.ensures in
    let now = goes_on _ _ held 0 held r _ c.fill.new.self (Ok tt) (omega arith) up on in
    record {
      few = omega (arith, inv.few);
      come = omega (arith, inv.come, on.1, on.2.less, up.1, up.2.less, c.len-held.ensures);
      goes = goes_on _ _ (count - rest) held (count - (rest - held)) c.args.self.now r c.fill.new.self (Ok tt)
          (omega (arith, inv.few, c.pieces-test.true, c.len-held.ensures)) inv.goes now;
    }

pub returns-in_err-fill : goal.returns-in_err-fill
returns-in_err-fill g c =
    let r = c.pieces.self in
    let count = c.args.count in
    let rest = c.pieces.rest in
    let e = c.from_residual.ensures in
    let f = c.in_err-fill.field-0.0 in
    let inv = c.pieces.invariant in
    let up = gives_up _ _ c.len-held.result r _ (omega (arith, c.len-held.ensures)) refl refl refl refl c.give_up.ensures in
    let before = goes_on _ _ (count - rest) c.len-held.result _ c.args.self.now r _ (Ok tt) refl inv.goes up in
    rw (err_is c.from_residual.result f e.0 e.1) (goes_on _ _ _ 0 _ c.args.self.now _ c.fill.new.self (Err f) refl before c.in_err-fill.ensures.on)

pub returns : goal.returns
returns g c =
    let inv = c.pieces.invariant in
    let up = gives_up _ _ c.pieces.rest c.pieces.self _ (omega (arith, c.len.ensures, c.pieces-test.false)) refl refl refl refl c.give_up-2.ensures in
    goes_on _ _ (c.args.count - c.pieces.rest) c.pieces.rest c.args.count c.args.self.now c.pieces.self _ (Ok tt) (omega (arith, inv.few)) inv.goes up
