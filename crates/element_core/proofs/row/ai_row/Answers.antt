use Rattle.std.proofs.Common.{rules, sym}
use Rattle.element_core.specs.Terms.{profile}
use Rattle.element_core.specs.inner.Families.{row_with}
use Rattle.element_core.proofs.Look.{no_read_row, read_row, unread_row}
use Rattle.element_core.proofs.row.ai_row.Goals as goal

pub returns-then-not-family : goal.returns-then-not-family
returns-then-not-family c = sym (unread_row (profile 0) (row_with c.in_ok-family.family c.args.bytes.now) c.args.bytes.now (sym c.in_ok-family.ensures.row) c.if-not-family.true)

pub returns-in_err-family : goal.returns-in_err-family
returns-in_err-family c = rw c.from_residual.ensures (sym (no_read_row (profile 0) c.args.bytes.now (sym c.in_err-family.ensures.row)))

pub returns : goal.returns
returns c =
    let known = read_row (profile 0) (row_with c.in_ok-family.family c.args.bytes.now) c.args.bytes.now (sym c.in_ok-family.ensures.row) c.if-not-family.false in
    let listed = c.if-not-family.false in
    let items = c.copied.ensures in
    let two = (rw c.if-not-family.false at c.in_ok-family.ensures.two) in
    search rules
