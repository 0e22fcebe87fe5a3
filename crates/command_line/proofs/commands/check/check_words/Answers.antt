-- Each option with its rule, in their order.
use Rattle.std.proofs.Common.{◌∷◌, [], List}
use Rattle.command_line.specs.Arguments.{ais_rule, year_rule}
use Rattle.command_line.proofs.Added.{Ruled, with_added}
use Rattle.command_line.proofs.commands.check.check_words.Goals as goal

pub returns-clause-app : goal.returns-clause-app
returns-clause-app c =
    let ruled : List Ruled =
    (c.year.result, year_rule, c.year.ensures.rule, c.year.ensures.own)
    ∷ (c.ais.result, ais_rule c.args.choices, c.ais.ensures.rule, c.ais.ensures.own)
    ∷ [] in
    with_added c.command.result _ ruled _ c.args-2.result c.args-2.ensures c.in_ok-options.ensures.items c.command.ensures.app
