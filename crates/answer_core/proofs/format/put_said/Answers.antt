use Rattle.std.proofs.Common.{◌∙◌, ◌≤◌, ◌++◌, ◌∷◌, [], List, ap, append_assoc, arith, length, length-append, map, refl, ◌+◌, ℕ}
use Rattle.digits_core.specs.Buffers.{pasted}
use Rattle.digits_core.proofs.Pasted.{pasted_next}
use Rattle.element_core.specs.Lines.{elements_text}
use Rattle.answer_core.specs.Places.{entry_at}
use Rattle.answer_core.specs.inner.Formats.{first_opening, opened}
use Rattle.answer_core.proofs.Formats.{at_front, opened_is}
use Rattle.answer_core.proofs.format.put_said.Goals as goal

pub overflow_add-count : goal.overflow_add-count
overflow_add-count c = omega (arith, c.requires.word, c.elements_length.ensures.few)

pub returns-then-count-out : goal.returns-then-count-out
returns-then-count-out c =
    let out = c.args.out.now in
    let word = c.args.word.now in
    let es = map (entry_at c.args.text.now) c.args.places.now in
    let is = opened_is c.args.form es in
    let space : List ℕ = 32 ∷ [] in
    let counted = c.elements_length.ensures.length in
    let room : 0 ≤ length out = omega arith in
    let spaced = pasted_next out c.put_at-space.new.out c.put_at.new.out 0 c.put_at-space.result word space room c.put_at-space.ensures.end
    c.put_at-space.ensures.put c.put_at.ensures.put in
    let whole = pasted_next out c.put_at.new.out c.put_elements.new.out 0 (length word + 1) (word ++ space) (opened c.args.form (first_opening c.args.form) es) room
    (omega (arith, length-append word space)) spaced c.put_elements.ensures.put
    ∙ ap (pasted out 0) (append_assoc word space (opened c.args.form (first_opening c.args.form) es) ∙ ap (λ (t : List ℕ). word ++ (32 ∷ t)) is)
    ∙ at_front out (word ++ (32 ∷ elements_text c.args.form es)) in
    let count = length-append word (32 ∷ elements_text c.args.form es) in
    record {
      counted = omega (arith, count, counted, ap length is);
      front = λ fits. whole;
      unchanged = λ short. absurd (omega (arith, count, counted, ap length is, short, c.if-count-out.true));
    }

pub returns-else-count-out : goal.returns-else-count-out
returns-else-count-out c =
    let word = c.args.word.now in
    let es = map (entry_at c.args.text.now) c.args.places.now in
    let is = opened_is c.args.form es in
    let counted = c.elements_length.ensures.length in
    let count = length-append word (32 ∷ elements_text c.args.form es) in
    record {
      counted = omega (arith, count, counted, ap length is);
      front = λ fits. absurd (omega (arith, count, counted, ap length is, fits, c.if-count-out.false));
      unchanged = λ short. refl;
    }
