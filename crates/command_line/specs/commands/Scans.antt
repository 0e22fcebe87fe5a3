-- The arguments of `scan`.
use Rattle.std.specs.Prelude.{◌++◌, ◌∷◌, List, codes}
use Rattle.clap.specs.Words.{App, Row, new_app}
use Rattle.command_line.specs.Arguments.{Choices, HasGrid, HasTerms, HasWorkers, grid_rules, terms_rules, with_rules, workers_rule}
use Rattle.command_line.specs.declared.commands.scan.options.ScanOptions.{ScanOptions}

-- `scan --module M --width W --height H --columns C --rows R --workers K --year Y [--ais A]`
abbrev pub scan_app : Choices → App
scan_app choices = with_rules (new_app (codes "scan")) (grid_rules ++ workers_rule ∷ terms_rules choices)

-- its options in the matches, each in its range
abbrev pub HasScan : List Row → ScanOptions → Type 0
HasScan rows o = HasGrid rows o.grid × HasWorkers rows o.workers × HasTerms rows o.year
