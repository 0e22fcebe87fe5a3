-- However the rows were served, what is told is true of the source that was lent.
use Rattle.std.proofs.Common.{ap, map, rules, string_bytes, subst, sym, ◌≡◌}
use Rattle.command_runs.proofs.answers.RowsAsRead.{HasAnswered, answered_all, answered_as_told, not_joined}
use Rattle.command_runs.proofs.answers.rows.answer_records.Goals as goal
use Rattle.command_runs.proofs.answers.rows.answer_records.Goals.{in-Ok+in-Ok-joined, in-Ok+in-Err-joined, in-Err}

pub pass_rows-requires : goal.pass_rows-requires
pass_rows-requires g c =
    let served = rw c.in-Err.is at c.serve_rows-rows.ensures.answered in
    (c.args.lanes, c.new-rows.result.input.source, served.0, served.1)

-- how the rows were answered
answered : (g : _) (c : goal.After-source-1 g)
    → HasAnswered g.S.Source.left g.S.Source.failed c.args.lanes c.args.year c.args.source.now c.into_source-source.result.now c.match-lines.told
answered g c =
    let lent = c.new-rows.result.input.source in
    let from : lent.now ≡ c.args.source.now = ap (λ s. s.now) c.new-rows.ensures.gave.1 in
    let rows = c.serve_rows-rows.result.0 in
    let told : HasAnswered g.S.Source.left g.S.Source.failed c.args.lanes c.args.year lent.now c.match-lines.rows.input.source.now c.match-lines.told =
    elim c.match-lines.branch [
      | in-Ok+in-Ok-joined w ↦
          let (items, gave, ended, report) = rw w.in-Ok.is at c.serve_rows-rows.ensures.answered in
          rw (w.rows-is, w.told-is) (answered_all _ _ c.args.lanes c.args.year lent rows items w.in-Ok-joined.lines (map string_bytes w.in-Ok.texts.items)
          gave ended report w.in-Ok-joined.ensures)
      | in-Ok+in-Err-joined w ↦
          let (items, gave, ended, report) = rw w.in-Ok.is at c.serve_rows-rows.ensures.answered in
          rw (w.rows-is, w.told-is) (not_joined _ _ c.args.lanes c.args.year lent rows items gave ended)
      | in-Err w ↦
          let (items, gave) = rw w.in-Err.is at c.serve_rows-rows.ensures.answered in
          let passed = w.pass_rows.ensures.passes c.args.lanes lent items gave in
          rw (w.rows-is, w.told-is) (answered_as_told _ _ c.args.lanes c.args.year lent w.pass_rows.new.self w.tell_fault-told.result
          (w.tell_fault-told.ensures c.args.lanes lent passed.0 passed.1))
    ] in
    subst (λ s. HasAnswered g.S.Source.left g.S.Source.failed c.args.lanes c.args.year s c.into_source-source.result.now c.match-lines.told) from
    (subst (λ s. HasAnswered g.S.Source.left g.S.Source.failed c.args.lanes c.args.year lent.now s c.match-lines.told)
    (sym c.into_source-source.ensures.same) told)

-- what the source is at the end
last : (g : _) (c : goal.After-source-1 g) → c.source-1.given.0 ≡ c.into_source-source.result.now
last g c = search rules

pub returns-clause-report : goal.returns-clause-report
returns-clause-report g c = rw (last g c) (answered g c).report

pub returns-clause-refused : goal.returns-clause-refused
returns-clause-refused g c = rw (last g c) (answered g c).why

pub returns-clause-fault : goal.returns-clause-fault
returns-clause-fault g c = rw (last g c) (answered g c).fault
