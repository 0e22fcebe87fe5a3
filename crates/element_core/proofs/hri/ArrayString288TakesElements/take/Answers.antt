use Rattle.std.proofs.Common.{◌∙◌, ◌++◌, ◌∷◌, List, ℕ, ap, arith, length, sym}
use Rattle.element_core.specs.Elements.{Entry}
use Rattle.element_core.proofs.Taken.{hri-push, hri_room, next_ascii}
use Rattle.element_core.proofs.hri.ArrayString288TakesElements.take.Goals as goal

pub push_element-requires-clause-ai : goal.push_element-requires-clause-ai
push_element-requires-clause-ai c = (next_ascii _ _ _ _ c.requires.next).0.0

pub push_element-requires-clause-value : goal.push_element-requires-clause-value
push_element-requires-clause-value c = (next_ascii _ _ _ _ c.requires.next).0.1

pub push_element-requires-clause-room : goal.push_element-requires-clause-room
push_element-requires-clause-room c =
    let n = c.requires.next in
    omega (arith, hri_room _ _ _ _ n, ap length n.holds)

pub returns : goal.returns
returns c list holds =
    let e : Entry = record { ai = c.args.ai.now; value = c.args.value.now } in
    c.push_element.ensures ∙ ap (λ (t : List ℕ). t ++ (40 ∷ e.ai ++ (41 ∷ e.value))) holds ∙ sym (hri-push list e)
