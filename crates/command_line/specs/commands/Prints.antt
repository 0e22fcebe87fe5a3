-- The arguments of `print`.
use Rattle.std.specs.Prelude.{◌++◌, ◌∷◌, [], Bool, true, false, List, codes}
use Rattle.clap.specs.Words.{App, Row, new_app}
use Rattle.command_line.specs.Arguments.{Choices, HasFlag, HasGrid, HasTerms, flag_rule, grid_rules, terms_rules, with_rules}
use Rattle.command_line.specs.declared.commands.print.options.Output.{Output}
use Rattle.command_line.specs.declared.commands.print.options.Output.TheVariants as output
use Rattle.command_line.specs.declared.commands.print.options.PrintOptions.{PrintOptions}

-- `print --module M --width W --height H --columns C --rows R --year Y [--ais A] [--text]`
abbrev pub print_app : Choices → App
print_app choices = with_rules (new_app (codes "print")) (grid_rules ++ terms_rules choices ++ flag_rule (codes "text") ∷ [])

-- what is printed: lines of text if the flag is given, otherwise images
abbrev pub asks_lines : Output → Bool
asks_lines output.Images = false
asks_lines output.Lines = true

abbrev pub HasOutput : List Row → Output → Type 0
HasOutput rows o = HasFlag (codes "text") rows (asks_lines o)

-- its options in the matches, each in its range
abbrev pub HasPrint : List Row → PrintOptions → Type 0
HasPrint rows o = HasGrid rows o.grid × HasTerms rows o.year × HasOutput rows o.output
