use Rattle.std.proofs.Common.{rules, ◌≡◌, sum, arith}
use Rattle.sheet_core.proofs.WidthFacts.{sum_most}
use Rattle.sheet_core.proofs.symbol.total.Goals as goal

pub returns-clause-most : goal.returns-clause-most
returns-clause-most c =
    let all : c.sum.result ≡ sum c.args.modules.now = search rules in
    let valid = c.widths.ensures.valid in
    let few = valid.0 in
    let most = sum_most c.args.modules.now valid.2 in
    omega arith
