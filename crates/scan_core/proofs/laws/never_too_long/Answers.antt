use Rattle.scan_core.proofs.LengthFacts.{content_fits, never_long}
use Rattle.scan_core.specs.Showing.{kind_of}
use Rattle.scan_core.proofs.laws.never_too_long.Goals as goal

pub returns : goal.returns
returns c = λ runs year refused.
    let text = refused.1 in
    let told = refused.2 in
    never_long year text (content_fits c.said_is_short.ensures c.gtins_have_fourteen.ensures (kind_of refused.0) told.1 text told.3) refused.3
