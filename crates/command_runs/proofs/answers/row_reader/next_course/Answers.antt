-- A piece, the end, or the rest for `csv`: after each the same records are left.
use Rattle.std.proofs.Common.{ap, append-nil, arith, refl, subst, sym, ◌++◌, ◌≡◌, ◌∙◌}
use Rattle.std.proofs.lemmas.Bool.{true≢false}
use Rattle.command_runs.specs.inner.HeldInputs.{held_of}
use Rattle.command_runs.specs.inner.RowReaders.{HasCut}
use Rattle.command_runs.specs.inner.Lines.{IsLastLine}
use Rattle.csv_records.specs.input.Records.{records_of}
use Rattle.command_runs.specs.live.Laws.{IsPlain}
use Rattle.command_runs.proofs.answers.ReadOn.{csv_after_piece, csv_at_once, few_more, piece_on}
use Rattle.command_runs.proofs.answers.row_reader.next_course.Goals as goal

pub returns-then-held-gt-LONG : goal.returns-then-held-gt-LONG
returns-then-held-gt-LONG g c = csv_at_once _ _ c.args.input.now c.give_to_csv.new.input c.give_to_csv.result c.give_to_csv.ensures

pub returns-in-Ok-true : goal.returns-in-Ok-true
returns-in-Ok-true g c =
    let now = c.in-Ok-true.ensures in
    let held = held_of c.args.input.now in
    let piece = now.0 in
    let some = rw c.in-Ok-true.field-0-test at now.4 in (
      omega (arith, now.3, some),
      λ lent taken rows was stands. (
        taken ++ piece,
        now.5 lent taken was,
        (
          subst (λ h. HasCut (taken ++ piece) h rows) (sym now.1) (piece_on taken held piece rows stands.0.0),
          subst IsPlain c.held-then-read_piece.ensures (c.if-are_plain.ensures refl),
          few_more taken held piece (held_of c.read_piece.new.self) rows now.1 stands.0.2,
        ),
        λ is. absurd (true≢false (sym is)),
      ),
    )

pub returns-in-Ok-true-2 : goal.returns-in-Ok-true-2
returns-in-Ok-true-2 g c =
    csv_after_piece _ _ c.args.input.now c.read_piece.new.self c.give_to_csv-in-Ok-true-2.new.input c.give_to_csv-in-Ok-true-2.result
    (rw c.in-Ok-true.field-0-test at c.in-Ok-true.ensures) c.give_to_csv-in-Ok-true-2.ensures

pub returns-in-Ok-false : goal.returns-in-Ok-false
returns-in-Ok-false g c =
    let now = c.in-Ok-false.ensures in
    let held = held_of c.args.input.now in
    let piece = now.0 in
    let end = rw c.in-Ok-false.field-0-test at now.4 in
    let same : held_of c.read_piece.new.self ≡ held = now.1 ∙ ap (λ m. held ++ m) end.0 ∙ append-nil held in (
      omega (arith, now.3),
      λ lent taken rows was stands. (
        taken ++ piece,
        now.5 lent taken was,
        (
          stands.0.0 piece ∙ ap (λ h. rows ++ records_of h) (sym now.1),
          subst IsPlain (sym same) stands.0.1,
          few_more taken held piece (held_of c.read_piece.new.self) rows now.1 stands.0.2,
          subst IsLastLine (sym same) stands.1,
        ),
        λ _. end.1,
      ),
    )
