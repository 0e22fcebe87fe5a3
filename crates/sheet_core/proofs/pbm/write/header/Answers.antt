use Rattle.std.proofs.Common.{◌≤◌, ap, arith, length, length-append}
use Rattle.std.specs.Fmt.{decimal}
use Rattle.std.proofs.lemmas.Fmt.{length-decimal-le}
use Rattle.sheet_core.proofs.pbm.write.header.Goals as goal

pub push_number-requires : goal.push_number-requires
push_number-requires c =
    let w : length (decimal c.args.width) ≤ 5 = length-decimal-le 5 c.args.width (omega arith) (omega arith) (omega arith) in
    omega (arith, c.push.ensures.len, c.push-2.ensures.len, c.push-3.ensures.len, ap length c.new-text.ensures)

pub push-requires-4 : goal.push-requires-4
push-requires-4 c =
    let w : length (decimal c.args.width) ≤ 5 = length-decimal-le 5 c.args.width (omega arith) (omega arith) (omega arith) in
    let a = ap length c.push_number.ensures in let b = length-append c.push-3.new.self.items (decimal c.args.width) in
    (omega arith, omega (arith, c.push.ensures.len, c.push-2.ensures.len, c.push-3.ensures.len, ap length c.new-text.ensures))

pub push_number-requires-2 : goal.push_number-requires-2
push_number-requires-2 c =
    let w : length (decimal c.args.width) ≤ 5 = length-decimal-le 5 c.args.width (omega arith) (omega arith) (omega arith) in
    let h : length (decimal c.args.height) ≤ 5 = length-decimal-le 5 c.args.height (omega arith) (omega arith) (omega arith) in
    let a = ap length c.push_number.ensures in let b = length-append c.push-3.new.self.items (decimal c.args.width) in
    omega (arith, c.push.ensures.len, c.push-2.ensures.len, c.push-3.ensures.len, ap length c.new-text.ensures)

pub push-requires-5 : goal.push-requires-5
push-requires-5 c =
    let w : length (decimal c.args.width) ≤ 5 = length-decimal-le 5 c.args.width (omega arith) (omega arith) (omega arith) in
    let h : length (decimal c.args.height) ≤ 5 = length-decimal-le 5 c.args.height (omega arith) (omega arith) (omega arith) in
    let a = ap length c.push_number.ensures in let b = length-append c.push-3.new.self.items (decimal c.args.width) in
    let d = ap length c.push_number-2.ensures in let e = length-append c.push-4.new.self.items (decimal c.args.height) in
    (omega arith, omega (arith, c.push.ensures.len, c.push-2.ensures.len, c.push-3.ensures.len, ap length c.new-text.ensures))
