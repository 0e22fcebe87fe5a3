use Rattle.std.proofs.Common.{◌∙◌, ap, codes}
use Rattle.command_line.specs.Arguments.{number_rule}
use Rattle.command_line.proofs.arguments.lane_count.Goals as goal

pub returns-clause-rule : goal.returns-clause-rule
returns-clause-rule c = c.number.ensures.rule ∙ ap (λ most. number_rule (codes "lanes") 1 most) c.from-most.ensures
