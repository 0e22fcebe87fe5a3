use Rattle.std.proofs.Common.{◌≡◌, ◌∙◌, ◌+◌, List, [], ◌++◌, ap, arith, filter_map, length, map, min, sym}
use Rattle.std.specs.List.{cons_option}
use Rattle.answer_core.specs.Conflicts.{breach}
use Rattle.answer_core.specs.Places.{entry_at}
use Rattle.answer_core.specs.declared.conflict.Conflict.{Conflict}
use Rattle.answer_core.specs.inner.Associations.{association_of}
use Rattle.answer_core.specs.inner.Conflicts.{with_added}
use Rattle.answer_core.proofs.Adding.{added_more, counted_more, length_with_added, one_more}
use Rattle.answer_core.proofs.conflict.add_breaches.Goals as goal

pub loop-first-preserved : goal.loop-first-preserved
loop-first-preserved c =
    let i = c.loop-first.invariant in
    let f = c.in-Some.first in
    let out = c.loop-first.out in
    let at = c.loop-first.end in
    let new = c.add-end.new.out in
    let end = c.add-end.result in
    let added = c.add-end.ensures in
    let asks = breach (map (entry_at c.args.text.now) c.args.places.now) c.args.index c.args.ai.now in
    let xs : List Conflict = cons_option f.found [] in
    let ys : List Conflict = filter_map asks (map association_of f.rest.now) in
    let whole : filter_map asks (map association_of c.loop-first.rest.now) ≡ xs ++ ys = c.in-Some.ensures.breaches ∙ sym (one_more f.found ys) in
    let same : length new ≡ length out = ap length added.put ∙ length_with_added out at xs in
    let ends = added.counted in
    record {
      put = added_more out new at end xs ys added ∙ ap (with_added out at) (sym whole) ∙ i.put;
      counted = counted_more out new at end xs ys added ∙ ap (λ (l : List Conflict). min (at + length l) (length out)) (sym whole) ∙ i.counted;
      within = omega (arith, same, ends);
      room = same ∙ i.room;
    }
