use Rattle.std.proofs.Common.{◌≡◌, ◌≤◌, length, take}
use Rattle.element_core.specs.Elements.{canonical}
use Rattle.element_core.specs.inner.Growing.{last_gap, separator_if}
use Rattle.element_core.specs.Pairs.{entries_of}
use Rattle.element_core.proofs.elements.Elements.of_pairs.Given as goal

abbrev pub invariant-loop-pair : goal.invariant-loop-pair
invariant-loop-pair l = record {
  canonical_text : l.out.items ≡ canonical (entries_of (take l.pair-index l.pairs));
  fits : length l.out.items ≤ 192;
  gap_is : last_gap (entries_of (take l.pair-index l.pairs)) ≡ separator_if l.separate;
}
