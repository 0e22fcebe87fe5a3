-- The last line is the last record, or none if it has no byte.
use Rattle.std.proofs.Common.{List, ap, drop, length, refl, rules, subst, sym, take, ℕ, ◌-◌, ◌<◌, ◌≡◌, ◌∙◌}
use Rattle.command_runs.specs.inner.HeldInputs.{held_of}
use Rattle.command_runs.specs.inner.Lines.{last_of, line_start}
use Rattle.command_runs.specs.inner.RowReaders.{IsMeant}
use Rattle.command_runs.specs.live.Text.{fields_in, without_return}
use Rattle.command_runs.proofs.answers.ReadRows.{last_passed, last_told}
use Rattle.std.proofs.lemmas.List.{take_rest}
use Rattle.command_runs.proofs.answers.row_reader.RowReader.last_line.Goals as goal

-- the line that was found is the last one
is_last : (line bytes held : List ℕ) (start : ℕ) → line ≡ without_return (take (length bytes - start) (drop start bytes)) → start ≡ line_start bytes
    → bytes ≡ held → line ≡ last_of held
is_last line bytes held start cut from same =
    cut ∙ ap without_return (take_rest bytes start) ∙ ap (λ n. without_return (drop n bytes)) from ∙ ap last_of same

pub returns-then-is_empty-clause-reads : goal.returns-then-is_empty-clause-reads
returns-then-is_empty-clause-reads g c = λ lanes lent items gave.
    let line = c.without_return-line.result.now in
    let none : length line ≡ 0 = search rules in
    let is = is_last line c.held-held.result.now (held_of c.args.self.now.input) c.line_start.result c.without_return-line.ensures c.line_start.ensures
    c.held-held.ensures in
    last_passed _ _ lanes lent c.args.self.now _ items c.requires refl refl refl refl (ap length (sym is) ∙ none) gave

pub returns-clause-reads : goal.returns-clause-reads
returns-clause-reads g c = λ lanes lent items gave.
    let line = c.without_return-line.result.now in
    let some : 0 < length line = search rules in
    let is = is_last line c.held-held.result.now (held_of c.args.self.now.input) c.line_start.result c.without_return-line.ensures c.line_start.ensures
    c.held-held.ensures in
    last_told _ _ lanes lent c.args.self.now _ items c.read_line.result c.requires refl refl refl refl (subst (λ l. 0 < length l) is some)
    (subst (λ l. IsMeant c.args.self.now.lanes (fields_in l) c.read_line.result) is c.read_line.ensures) gave
