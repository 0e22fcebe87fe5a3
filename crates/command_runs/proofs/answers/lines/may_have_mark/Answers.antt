-- Another first byte begins no byte order mark, and the empty text has none.
use Rattle.std.proofs.Common.{◌≡◌, length, rules}
use Rattle.command_runs.proofs.answers.PlainBytes.{empty_no_mark, no_mark}
use Rattle.command_runs.proofs.answers.lines.may_have_mark.Goals as goal

pub returns-then-not-is_empty : goal.returns-then-not-is_empty
returns-then-not-is_empty c = no_mark c.args.bytes.now

pub returns-else-not-is_empty : goal.returns-else-not-is_empty
returns-else-not-is_empty c =
    let none : length c.args.bytes.now ≡ 0 = search rules in
    λ _. empty_no_mark c.args.bytes.now none
