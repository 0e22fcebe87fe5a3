use Rattle.std.proofs.Common.{◌≡◌, ◌++◌, List, Ok, map}
use Rattle.std.specs.Array.Iter.{array_into_iter_items}
use Rattle.clap.specs.Words.{AddsInTurn, AddsSubcommand}
use Rattle.clap.specs.declared.builder.command.Command.{Command}
use Rattle.command_line.proofs.commands.with_commands.Given as goal

abbrev pub invariant-loop-command : goal.invariant-loop-command
invariant-loop-command l = (l.yielded ++ array_into_iter_items l.command-iterator ≡ array_into_iter_items l.initial.command-iterator)
    × ((made : List Command) × (l.yielded ≡ map (λ m. Ok m) made) × AddsInTurn AddsSubcommand l.initial.whole made l.whole)
