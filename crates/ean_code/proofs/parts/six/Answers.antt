use Rattle.std.proofs.lemmas.Option.{IfSome_then}
use Rattle.ean_code.proofs.Halves.{framed_six_of, found_six, same_framed_six, six_valid}
use Rattle.ean_code.proofs.Options.{IfNone_then}
use Rattle.ean_code.proofs.parts.six.Goals as goal

pub returns-in_err-six-clause-none : goal.returns-in_err-six-clause-none
returns-in_err-six-clause-none c = rw c.from_residual.ensures (λ cs h. c.in_err-six.ensures.none _ (framed_six_of c.args.widths.now cs h))

pub characters-requires-clause-valid : goal.characters-requires-clause-valid
characters-requires-clause-valid c = six_valid c.args.widths.now _ c.in_ok-six.ensures.found c.requires

pub returns-clause-found : goal.returns-clause-found
returns-clause-found c =
    IfSome_then c.characters.result c.characters.ensures.found (λ cs f. found_six c.args.widths.now _ cs.items c.in_ok-six.ensures.found f.0 f.1)

pub returns-clause-none : goal.returns-clause-none
returns-clause-none c =
    IfNone_then c.characters.result c.characters.ensures.none (λ none cs h.
    none cs h.valid (same_framed_six c.args.widths.now _ _ (framed_six_of c.args.widths.now cs h) c.in_ok-six.ensures.found))
