-- The bytes so far have as many spaces as are counted.
use Rattle.std.proofs.Common.{◌==◌, ◌≡◌, take}
use Rattle.std.specs.List.{count_by}
use Rattle.csv_records.proofs.lanes.widths.count_spaces.Given as goal

abbrev pub invariant-loop-byte : goal.invariant-loop-byte
invariant-loop-byte l = l.spaces ≡ count_by (λ b. b == 32) (take l.byte-index l.text)
