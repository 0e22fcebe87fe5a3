use Rattle.std.proofs.Common.{◌≡◌, ◌∙◌, ◌+◌, List, ◌++◌, ap, arith, length, map, min, sym}
use Rattle.element_core.specs.Elements.{Entry}
use Rattle.answer_core.specs.Conflicts.{conflicts_from, conflicts_of}
use Rattle.answer_core.specs.Places.{entry_at}
use Rattle.answer_core.specs.declared.conflict.Conflict.{Conflict}
use Rattle.answer_core.specs.inner.Conflicts.{with_added}
use Rattle.answer_core.proofs.Adding.{added_more, counted_more, length_with_added}
use Rattle.answer_core.proofs.conflict.add_all.Goals as goal

pub loop-first-preserved : goal.loop-first-preserved
loop-first-preserved c =
    let i = c.loop-first.invariant in
    let f = c.in-Some.first in
    let out = c.loop-first.out in
    let at = c.loop-first.end in
    let new = c.add_conflicts-end.new.out in
    let end = c.add_conflicts-end.result in
    let added = c.add_conflicts-end.ensures in
    let index = c.loop-first.index in
    let es : List Entry = map (entry_at c.args.text.now) c.args.places.now in
    let xs : List Conflict = conflicts_of es index (record { ai = f.ai.now; value = f.value.now }) in
    let ys : List Conflict = conflicts_from es (index + 1) (map (entry_at c.args.text.now) f.rest.now) in
    let whole : conflicts_from es index (map (entry_at c.args.text.now) c.loop-first.rest.now) ≡ xs ++ ys = ap (conflicts_from es index) c.in-Some.ensures.elements in
    let same : length new ≡ length out = ap length added.put ∙ length_with_added out at xs in
    let ends = added.counted in
    let shorter = c.in-Some.ensures.shorter in
    let count = i.index in
    record {
      put = added_more out new at end xs ys added ∙ ap (with_added out at) (sym whole) ∙ i.put;
      counted = counted_more out new at end xs ys added ∙ ap (λ (l : List Conflict). min (at + length l) (length out)) (sym whole) ∙ i.counted;
      within = omega (arith, same, ends);
      room = same ∙ i.room;
      index = omega (arith, shorter, count);
    }
