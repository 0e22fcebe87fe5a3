-- A pair that does not fit, fits before no others.
use Rattle.std.proofs.Common.{◌≡◌, ◌∙◌, ◌++◌, ◌∷◌, ap, rules, sym}
use Rattle.message_core.specs.Links.{path_entries, path_entry, segments}
use Rattle.message_core.proofs.LinkFacts.{fits_not_before}
use Rattle.message_core.proofs.pairs.put_path.Goals as goal

pub returns-then-not-put_segments : goal.returns-then-not-put_segments
returns-then-not-put_segments c =
    let ai = c.first_part.result.0.now in
    let value = c.first_part-in-loop-behind.result.0.now in
    let others = c.first_part-in-loop-behind.ensures.first in
    let first : segments c.loop-behind.rest.now ≡ ai ∷ segments c.in-Some.behind.now = search rules in
    let list = c.loop-behind.pairs.list in
    fits_not_before list (c.args.pairs.now.list ++ path_entries (segments c.args.path.now)) (path_entry ai value) (path_entries others.0)
    c.if-not-put_segments.ensures
    (ap (λ ss. list ++ path_entries ss) (sym (first ∙ ap (λ ss. ai ∷ ss) others.1)) ∙ c.loop-behind.invariant)
