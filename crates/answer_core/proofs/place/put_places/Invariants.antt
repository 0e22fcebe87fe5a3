use Rattle.std.proofs.Common.{◌≡◌, ◌+◌, ◌≤◌, ◌-◌, drop, length}
use Rattle.element_core.specs.Shown.{shown_elements}
use Rattle.answer_core.specs.inner.Places.{StandTo}
use Rattle.answer_core.proofs.place.put_places.Given as goal

abbrev pub invariant-loop-seen : goal.invariant-loop-seen
invariant-loop-seen l = record {
  within : length l.rest ≤ length l.text;
  sized : length l.places ≡ 48;
  from : l.rest ≡ drop (length l.text - length l.rest) l.text;
  left : shown_elements l.rest ≡ drop l.count (shown_elements l.text);
  all : l.count + length (shown_elements l.rest) ≡ length (shown_elements l.text);
  stand : StandTo l.count l.year l.text (shown_elements l.text) l.places;
}

abbrev pub decreases-loop-seen : goal.decreases-loop-seen
decreases-loop-seen l = length l.rest
