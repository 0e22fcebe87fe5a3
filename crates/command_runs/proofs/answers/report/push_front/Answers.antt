-- What is written from the right is appended: the lane and the number, each with a space behind it.
use Rattle.std.proofs.Common.{◌≡◌, ◌∙◌, ◌++◌, ◌∷◌, [], List, ℕ, Result, Ok, Err, ap, arith, string_bytes, subst}
use Rattle.std.specs.Fmt.{decimal}
use Rattle.std.specs.Prelude.{OnOk, is_ok, if◌then◌else◌}
use Rattle.std.proofs.lemmas.Fmt.{length-decimal-le}
use Rattle.std.proofs.lemmas.Str.{IsUtf8-from_ascii}
use Rattle.command_runs.proofs.answers.LineFronts.{front_ascii, front_is}
use Rattle.command_runs.proofs.answers.report.push_front.Goals as goal

pub write_digits-middle-requires : goal.write_digits-middle-requires
write_digits-middle-requires c =
    let n = c.from.result in
    let is : n ≡ c.args.number = c.from.ensures in
    let few = c.ranges.number.fits in
    (omega (arith, length-decimal-le 10 n (omega arith) (omega arith) (omega arith)), omega arith)

pub overflow_sub-middle : goal.overflow_sub-middle
overflow_sub-middle c =
    let n = c.from.result in
    let is : n ≡ c.args.number = c.from.ensures in
    let few = c.ranges.number.fits in
    omega (arith, c.write_digits-middle.ensures.start, length-decimal-le 10 n (omega arith) (omega arith) (omega arith))

pub write_digits-start-requires : goal.write_digits-start-requires
write_digits-start-requires c =
    let n = c.from.result in
    let l = c.from-2.result in
    let n_is : n ≡ c.args.number = c.from.ensures in
    let l_is : l ≡ c.args.lane = c.from-2.ensures in
    let n_few = c.ranges.number.fits in
    let l_few = c.ranges.lane.fits in
    let start = c.write_digits-middle.ensures.start in
    let ten = length-decimal-le 10 n (omega arith) (omega arith) (omega arith) in
    let three = length-decimal-le 3 l (omega arith) (omega arith) (omega arith) in
    let long = c.write_digits-middle.auto.buf in
    (omega arith, omega arith)

pub from_utf8_unchecked-requires : goal.from_utf8_unchecked-requires
from_utf8_unchecked-requires c =
    let first = c.write_digits-middle in
    let second = c.write_digits-start in
    let n_is : c.from.result ≡ c.args.number = c.from.ensures in
    let n_few = c.ranges.number.fits in
    let ten = length-decimal-le 10 c.from.result (omega arith) (omega arith) (omega arith) in
    let whole = front_is first.new.buf second.new.buf c.from-2.result c.from.result first.result second.result first.auto.buf
    (second.auto.buf ∙ first.auto.buf) first.ensures.start (omega (arith, first.ensures.start)) second.ensures.start first.ensures.written first.ensures.before
    second.ensures.written in
    IsUtf8-from_ascii _ (rw whole (front_ascii c.from-2.result c.from.result c.from-2.type_inv c.from.type_inv))

-- what `push_str` says of the bytes, in the terms of `OnOk`
appended : {X E : Type 0} (r : Result X E) (old new bytes : List ℕ) → new ≡ (if is_ok r then old ++ bytes else old) → OnOk r (new ≡ old ++ bytes)
appended (Ok x) old new bytes is = is
appended (Err e) old new bytes is = tt

pub returns : goal.returns
returns c =
    let first = c.write_digits-middle in
    let second = c.write_digits-start in
    let n_is : c.from.result ≡ c.args.number = c.from.ensures in
    let n_few = c.ranges.number.fits in
    let ten = length-decimal-le 10 c.from.result (omega arith) (omega arith) (omega arith) in
    let whole = front_is first.new.buf second.new.buf c.from-2.result c.from.result first.result second.result first.auto.buf
    (second.auto.buf ∙ first.auto.buf) first.ensures.start (omega (arith, first.ensures.start)) second.ensures.start first.ensures.written first.ensures.before
    second.ensures.written in
    let is : c.from_utf8_unchecked.result.now ≡ decimal c.args.lane ++ (32 ∷ (decimal c.args.number ++ (32 ∷ []))) =
    c.from_utf8_unchecked.ensures ∙ whole ∙ ap (λ l. decimal l ++ (32 ∷ (decimal c.from.result ++ (32 ∷ [])))) c.from-2.ensures
    ∙ ap (λ n. decimal c.args.lane ++ (32 ∷ (decimal n ++ (32 ∷ [])))) c.from.ensures in
    subst (λ (b : List ℕ). OnOk c.push_str.result (string_bytes c.push_str.new.self ≡ string_bytes c.args.text.now ++ b)) is
    (appended c.push_str.result (string_bytes c.args.text.now) (string_bytes c.push_str.new.self) c.from_utf8_unchecked.result.now c.push_str.ensures.bytes)
