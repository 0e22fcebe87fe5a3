-- Each option with its rule, in their order. Those of the grid come first, as for `scan_words`.
use Rattle.std.proofs.Common.{◌∷◌, [], List, codes}
use Rattle.command_line.specs.Arguments.{ais_rule, columns_rule, flag_rule, height_rule, module_rule, rows_rule, width_rule, year_rule}
use Rattle.command_line.proofs.Added.{Ruled, with_added}
use Rattle.command_line.proofs.commands.print.print_words.Goals as goal

pub returns-clause-app : goal.returns-clause-app
returns-clause-app c =
    let ruled : List Ruled =
    (c.module_width.result, module_rule, c.module_width.ensures.rule, c.module_width.ensures.own)
    ∷ (c.width.result, width_rule, c.width.ensures.rule, c.width.ensures.own)
    ∷ (c.height.result, height_rule, c.height.ensures.rule, c.height.ensures.own)
    ∷ (c.columns.result, columns_rule, c.columns.ensures.rule, c.columns.ensures.own)
    ∷ (c.rows.result, rows_rule, c.rows.ensures.rule, c.rows.ensures.own)
    ∷ (c.year.result, year_rule, c.year.ensures.rule, c.year.ensures.own)
    ∷ (c.ais.result, ais_rule c.args.choices, c.ais.ensures.rule, c.ais.ensures.own)
    ∷ (c.flag.result, flag_rule (codes "text"), c.flag.ensures.rule, c.flag.ensures.own)
    ∷ [] in
    with_added c.command.result _ ruled _ c.args-2.result c.args-2.ensures c.in_ok-options.ensures.items c.command.ensures.app
