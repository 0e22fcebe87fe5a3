-- At first no record was read, and what is held, nothing, is lines.
use Rattle.std.proofs.Common.{[], ap, arith, length, refl, subst, sym, ◌++◌}
use Rattle.csv_records.specs.input.Records.{records_of}
use Rattle.command_runs.specs.live.Laws.{IsPlain}
use Rattle.command_runs.proofs.answers.ReadOn.{nothing_plain}
use Rattle.command_runs.proofs.answers.ReadRows.{read_lines}
use Rattle.command_runs.proofs.answers.row_reader.RowReader.new.Goals as goal

pub returns-clause-gave : goal.returns-clause-gave
returns-clause-gave g c =
    let (taken, none, source) = c.new.ensures in (
      (
        [],
        record { of_lanes = refl; count = refl; means = tt; few = omega arith },
        read_lines _ _ c.args.lanes c.args.source _ [] [] refl taken
            (λ more. ap (λ h. records_of (h ++ more)) (sym none), subst IsPlain (sym none) nothing_plain, omega (arith, ap length none)),
      ),
      source,
    )
