-- The spaces that are counted and those of the parts that are left are all.
use Rattle.std.proofs.Common.{◌+◌, ◌==◌, ◌≡◌}
use Rattle.std.specs.List.{count_by}
use Rattle.std.specs.Slice.Iter.{chunks_rest, chunks_size}
use Rattle.csv_records.proofs.lanes.widths.count_words.Given as goal

abbrev pub invariant-loop-part : goal.invariant-loop-part
invariant-loop-part l =
    (goal.iterator-loop-part).can_next l.part-iterator ×
    (goal.iterator-loop-part).is_finite l.part-iterator ×
    (chunks_size l.part-iterator ≡ 255) ×
    (l.spaces + count_by (λ b. b == 32) (chunks_rest l.part-iterator) ≡ count_by (λ b. b == 32) l.field)
