-- Each block puts its widths behind those before it; the last has the end of the field, a space and zeros.
use Rattle.std.proofs.Common.{◌≤◌, ◌+◌, ◌-◌, arith, drop, length, map, subst, sym, take, take-add}
use Rattle.std.proofs.lemmas.List.{length-drop, length-take-le, take_rest}
use Rattle.csv_records.specs.inner.LaneValues.{digit_of}
use Rattle.csv_records.proofs.lanes.BlockSteps.{ArePut, block_put, field_put, none_put, room_left}
use Rattle.csv_records.proofs.lanes.short_widths.put_widths.Goals as goal

pub blocks-2-init : goal.blocks-2-init
blocks-2-init c = record {
  within = omega arith;
  few = omega arith;
  room = c.requires.room;
  put = none_put c.args.widths.now c.digits_of-before.result c.digits_of-before.ensures;
}

pub blocks-2-preserved : goal.blocks-2-preserved
blocks-2-preserved c =
    let field = c.args.field.now in
    let done = c.blocks-2.done in
    let bytes = take 16 (drop done field) in
    let within : done + 16 ≤ length field = omega (arith, c.blocks-2-test.true) in
    let long = length-take-le 16 (drop done field) (omega (arith, length-drop done field, within)) in
    let state = c.blocks-2.invariant.put in
    let told = c.in-Some.ensures in
    let new = c.put_block.new.widths in
    let next : ArePut (take (done + 16) field) new (map digit_of bytes) (c.blocks-2.at + c.in-Some.count) =
    subst (λ seen. ArePut seen new (map digit_of bytes) (c.blocks-2.at + c.in-Some.count)) (sym (take-add done 16 field))
    (block_put (take done field) bytes c.blocks-2.widths new c.blocks-2.before c.blocks-2.at c.in-Some.count state long told.bytes (told.put state.prior state.digits state.small)) in
    record {
      within = within;
      few = omega (arith, room_left (take (done + 16) field) new (map digit_of bytes) (c.blocks-2.at + c.in-Some.count) next, length-take-le (done + 16) field within);
      room = omega (arith, told.same, c.blocks-2.invariant.room);
      put = subst (λ lanes. ArePut (take (done + 16) field) new lanes (c.blocks-2.at + c.in-Some.count)) (sym c.digits_of-digits.ensures) next;
    }

pub returns-clause-put : goal.returns-clause-put
returns-clause-put c =
    let field = c.args.field.now in
    let done = c.blocks-2.done in
    let state = c.blocks-2.invariant.put in
    let told = c.in-Some-put_block.ensures in
    field_put field (take (length field - done) (drop done field)) c.last_block-last.result c.blocks-2.widths c.put_block-2.new.widths c.blocks-2.before done
    c.blocks-2.at c.in-Some-put_block.count state c.blocks-2.invariant.within c.blocks-2-test.false (take_rest field done) c.last_block-last.ensures told.bytes
    (told.put state.prior state.digits state.small)
