use Rattle.std.proofs.Common.{◌∙◌}
use Rattle.element_core.proofs.OnePart.{only_part}
use Rattle.element_core.proofs.value.row_fault.Goals as goal

pub returns-in-len1 : goal.returns-in-len1
returns-in-len1 c =
    c.part_fault.ensures ∙ only_part c.args.year c.args.place c.args.too_long c.args.parts.now _ c.args.value.now c.in-len1.len_at_least c.in-len1.len_below
