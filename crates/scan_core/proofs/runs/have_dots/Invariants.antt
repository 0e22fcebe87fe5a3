use Rattle.std.proofs.Common.{◌≡◌, nat_le, take}
use Rattle.std.specs.List.{list_all}
use Rattle.scan_core.proofs.runs.have_dots.Given as goal

abbrev pub invariant-loop-width : goal.invariant-loop-width
invariant-loop-width l = l.each ≡ list_all (λ width. nat_le 1 width) (take l.width-index l.widths)
