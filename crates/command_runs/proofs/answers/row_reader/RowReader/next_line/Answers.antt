-- A line that is cut off what is held is one more record, or none if it has no byte.
use Rattle.std.proofs.Common.{length, refl, rules, ◌+◌, ◌<◌, ◌≡◌, ◌∙◌}
use Rattle.command_runs.specs.inner.HeldInputs.{held_of}
use Rattle.command_runs.proofs.answers.FirstLine.{line_found, no_feed_found}
use Rattle.command_runs.proofs.answers.ReadRows.{at_lines, line_passed, line_told, of_lines}
use Rattle.command_runs.proofs.answers.row_reader.RowReader.next_line.Goals as goal

pub lines-init : goal.lines-init
lines-init g c = record { course = c.requires; room = refl; at = λ lanes lent items gave. at_lines _ _ lanes lent c.args.self.now items c.requires gave }

pub returns-then-not-is_empty-clause-reads : goal.returns-then-not-is_empty-clause-reads
returns-then-not-is_empty-clause-reads g c = λ lanes lent items gave.
    let line = c.without_return-line.result.now in
    let some : 0 < length line = search rules in
    let ends = line_found c.held-held.result.now (held_of c.lines.self.input) line c.line_start-start.result c.in-Some.length c.held-held.ensures
    c.line_start-start.ensures c.in-Some.ensures c.without_return-line.ensures in
    line_told _ _ lanes lent c.lines.self _ (c.line_start-start.result + c.in-Some.length) line c.give_up.ensures ends items c.read_line-row.result refl refl
    c.lines.invariant.course some c.read_line-row.ensures (c.lines.invariant.at lanes lent items gave)

pub lines-preserved : goal.lines-preserved
lines-preserved g c =
    let line = c.without_return-line.result.now in
    let none : length line ≡ 0 = search rules in
    let ends = line_found c.held-held.result.now (held_of c.lines.self.input) line c.line_start-start.result c.in-Some.length c.held-held.ensures
    c.line_start-start.ensures c.in-Some.ensures c.without_return-line.ensures in
    record {
      course = c.lines.invariant.course;
      room = c.give_up-in-lines.ensures.2 ∙ c.lines.invariant.room;
      at = λ lanes lent items gave. line_passed _ _ lanes lent c.lines.self _ (c.line_start-start.result + c.in-Some.length) line c.give_up-in-lines.ensures ends items
          refl refl none (c.lines.invariant.at lanes lent items gave);
    }

pub returns-in_default-clause-reads : goal.returns-in_default-clause-reads
returns-in_default-clause-reads g c = λ lanes lent items gave.
    of_lines _ _ lanes lent c.lines.self items c.lines.invariant.course (c.lines.invariant.at lanes lent items gave)

pub returns-in_default-clause-stays : goal.returns-in_default-clause-stays
returns-in_default-clause-stays g c = record {
  at_lines = c.lines.invariant.course;
  none = λ _. no_feed_found c.held-held.result.now (held_of c.lines.self.input) c.line_start-start.result c.held-held.ensures c.line_start-start.ensures
      c.in_default.ensures;
  room = c.lines.invariant.room;
}
