use Rattle.std.proofs.Common.{◌∙◌, ◌++◌, ◌∷◌, List, ap, append_assoc, map, sym, ℕ}
use Rattle.message_core.specs.Coding.{encoded}
use Rattle.answer_core.specs.Places.{entry_at}
use Rattle.answer_core.specs.Written.{coded_elements, is_unreserved}
use Rattle.answer_core.proofs.Codes.{room}
use Rattle.answer_core.proofs.coded.push_elements.Goals as goal

pub push_element-requires : goal.push_element-requires
push_element-requires c =
    let at = entry_at c.args.text.now in
    let next = c.args.signs.next in
    let between = c.args.signs.between in
    let sign = c.loop-first.sign in
    let s = c.in-Some.first in
    let ai : List ℕ = sign ∷ s.ai.now in
    let value : List ℕ = between ∷ encoded is_unreserved s.value.now in
    let more : List ℕ = coded_elements next next between (map at s.rest.now) in
    room c.loop-first.line.items (coded_elements sign next between (map at c.loop-first.rest.now)) c.args.line.now.items
    (coded_elements c.args.signs.first next between (map at c.args.places.now)) (ai ++ value) more c.loop-first.invariant
    (ap (coded_elements sign next between) c.in-Some.ensures.elements ∙ sym (append_assoc ai value more)) c.requires
