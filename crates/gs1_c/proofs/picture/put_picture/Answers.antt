use Rattle.std.proofs.Common.{ℕ, List, None, Some, length, subst}
use Rattle.digits_core.specs.Buffers.{IsPut}
use Rattle.scan_core.specs.declared.fault.RunFault.TheVariants.{NoMemory}
use Rattle.picture_core.specs.Pictures.{Greys}
use Rattle.picture_core.specs.Told.{IsReadingOf}
use Rattle.gs1_c.proofs.picture.put_picture.Goals as goal

pub returns-in-Err : goal.returns-in-Err
returns-in-Err c =
    let put = c.put_refusal in (
      Some c.in-Err.fault,
      c.in-Err.ensures.err (length c.args.words.now) (length c.args.widths.now),
      subst (λ (t : List ℕ). IsPut t c.args.out.now put.new.out put.result) c.refusal.ensures put.ensures,
    )

pub returns-in_default : goal.returns-in_default
returns-in_default c =
    let put = c.put_refusal-in_default in (
      Some NoMemory,
      (c.in-Ok.ensures.some, c.in_default.ensures.none),
      subst (λ (t : List ℕ). IsPut t c.args.out.now put.new.out put.result) c.refusal-in_default.ensures put.ensures,
    )

pub returns : goal.returns
returns c =
    let shown = c.read_picture.new.shown in
    let reading = c.args.reading in (
      None,
      (c.in-Ok.ensures.some, c.in-Some.ensures.some),
      (
        shown,
        subst (λ (p : Greys). IsReadingOf p reading.level reading.year shown) c.in-Ok.ensures.ok c.read_picture.ensures,
        c.put_shown.ensures,
      ),
    )
