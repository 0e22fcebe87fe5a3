-- A record that the last line or `csv` gives is the next.
use Rattle.std.proofs.Common.{Err, Ok, ap, refl}
use Rattle.csv_records.specs.declared.input.fault.RecordRefusal.{RecordRefusal}
use Rattle.command_runs.proofs.answers.ReadRows.{csv_ended, csv_refused, csv_stands, csv_told}
use Rattle.command_runs.proofs.answers.row_reader.RowReader.row_behind_lines.Goals as goal

pub next_row-requires : goal.next_row-requires
next_row-requires g c =
    let (lanes, lent, items, gave) = c.requires.read in
    let r = c.args.self.now in
    let stands = csv_stands _ _ lanes lent r r items c.in-Csv.records c.in-Csv.is refl refl refl gave in
    (stands.2, stands.1, rw c.deref_mut.ensures.value stands.3)

pub returns-in-Some-clause-gives : goal.returns-in-Some-clause-gives
returns-in-Some-clause-gives g c = λ lanes lent items gave. c.tell.ensures.tells lanes lent items (c.in-Some.ensures.reads lanes lent items gave)

pub returns-in-Ok-Some-clause-gives : goal.returns-in-Ok-Some-clause-gives
returns-in-Ok-Some-clause-gives g c = λ lanes lent items gave.
    let more = rw c.deref_mut.ensures.value at (rw c.in-Ok-Some.field-0-is at c.in-Ok-Some.ensures.more) in
    c.tell-in-Ok-Some.ensures.tells lanes lent items
    (csv_told _ _ lanes lent c.args.self.now _ items c.in-Csv.records c.in-Csv.is refl refl refl gave _ c.in-Ok-Some.row refl
    (rw c.in-Ok-Some.field-0-is at c.in-Ok-Some.ensures.low) more)

pub returns-in-Ok-None-clause-gives : goal.returns-in-Ok-None-clause-gives
returns-in-Ok-None-clause-gives g c = λ lanes lent items gave.
    csv_ended _ _ lanes lent c.args.self.now _ items c.in-Csv.records c.in-Csv.is refl refl refl gave refl
    (rw c.deref_mut.ensures.value at (c.in-Ok-None.ensures.end (ap (λ next. Ok next) c.in-Ok-None.field-0-is)))

pub returns-in-Err-clause-gives : goal.returns-in-Err-clause-gives
returns-in-Err-clause-gives g c = λ lanes lent items gave.
    c.tell-in-Err.ensures.tells lanes lent items
    (csv_refused _ _ lanes lent c.args.self.now _ items c.in-Csv.records c.in-Csv.is refl refl refl gave _ c.in-Err.refusal refl
    (λ f is. rw c.deref_mut.ensures.value at (c.in-Err.ensures.refused f (ap (λ (x : RecordRefusal). Err x) is))))
