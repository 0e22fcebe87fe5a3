-- The line that is written is what the record means, and stands behind those before it.
use Rattle.std.proofs.Common.{◌∙◌, string_bytes, sym}
use Rattle.csv.specs.Records.{fields_of}
use Rattle.csv_records.proofs.check.CheckLinesGrow.{line_by_kind, one_more_check}
use Rattle.csv_records.proofs.check.lines.CheckRecordsIntake.take.Goals as goal

pub returns-clause-taken : goal.returns-clause-taken
returns-clause-taken c =
    let line = c.line_of-line.result in (
      line,
      line_by_kind c.args.self.now.year (fields_of c.args.fields.now) c.in_ok-name.name.now c.in_ok-name.text.now c.in_ok-kind.kind line
          (rw c.in_ok-name.ensures.ok_part at c.two_fields.ensures.some) (sym c.in_ok-kind.ensures.ok_part ∙ c.kind_named.ensures) c.line_of-line.ensures,
      λ lines before. one_more_check lines line (string_bytes c.args.lines.now) (string_bytes c.writeln.new.self) c.in_ok-writeln.ensures.bytes before,
    )
