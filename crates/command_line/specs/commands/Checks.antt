-- The arguments of `check`.
use Rattle.std.specs.Prelude.{codes}
use Rattle.clap.specs.Words.{App, new_app}
use Rattle.command_line.specs.Arguments.{Choices, terms_rules, with_rules}

-- `check --year Y [--ais A]`
abbrev pub check_app : Choices → App
check_app choices = with_rules (new_app (codes "check")) (terms_rules choices)
