-- One qualifier and its value more.
use Rattle.std.proofs.Common.{◌≡◌, ◌∙◌, ◌∷◌, [], ap, rules, sym}
use Rattle.message_core.specs.Links.{segments}
use Rattle.message_core.proofs.LinkFacts.{follow_one_more}
use Rattle.message_core.proofs.path.follow_all.Goals as goal

pub returns-in_default-left : goal.returns-in_default-left
returns-in_default-left c =
    let ai = c.first_part.result.0.now in
    let value = c.first_part-in-loop-behind.result.0.now in
    let first : segments c.loop-behind.rest.now ≡ ai ∷ segments c.in-Some.behind.now = search rules in
    let second : segments c.in-Some.behind.now ≡ value ∷ [] = search rules in
    sym (follow_one_more c.args.key.now ai value c.loop-behind.least c.in-Some-place_by.place (segments c.loop-behind.rest.now) []
    (first ∙ ap (λ ss. ai ∷ ss) second) (sym c.in-Some-place_by.ensures.value) c.if-place-least.false)
    ∙ c.loop-behind.invariant

pub loop-behind-preserved : goal.loop-behind-preserved
loop-behind-preserved c =
    let ai = c.first_part.result.0.now in
    let value = c.first_part-in-loop-behind.result.0.now in
    let first : segments c.loop-behind.rest.now ≡ ai ∷ segments c.in-Some.behind.now = search rules in
    let second : segments c.in-Some.behind.now ≡ value ∷ segments c.in-Some-left.left.now = search rules in
    sym (follow_one_more c.args.key.now ai value c.loop-behind.least c.in-Some-place_by.place (segments c.loop-behind.rest.now) (segments c.in-Some-left.left.now)
    (first ∙ ap (λ ss. ai ∷ ss) second) (sym c.in-Some-place_by.ensures.value) c.if-place-least.false)
    ∙ c.loop-behind.invariant
