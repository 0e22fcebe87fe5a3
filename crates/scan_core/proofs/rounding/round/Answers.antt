use Rattle.std.proofs.Common.{◌%◌, ◌∙◌, ap, arith}
use Rattle.scan_core.proofs.RoundingFacts.{rounded_widths}
use Rattle.scan_core.proofs.rounding.round.Goals as goal

pub returns-clause-modules : goal.returns-clause-modules
returns-clause-modules c = λ near.
    let each = c.round_each.ensures.places in (
      omega (arith, each, c.requires.few),
      ap (λ n. n % 2) each ∙ c.requires.odd,
      rounded_widths c.args.count c.args.total c.args.inner.now c.round_each.new.modules (c.round_each.ensures.found near),
    )
