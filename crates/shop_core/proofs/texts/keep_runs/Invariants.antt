use Rattle.std.proofs.Common.{◌≡◌, true, take}
use Rattle.std.specs.List.{list_all}
use Rattle.shop_core.specs.Drawings.{keeps_run}
use Rattle.shop_core.proofs.texts.keep_runs.Given as goal

abbrev pub invariant-loop-part : goal.invariant-loop-part
invariant-loop-part l = list_all (keeps_run l.article) (take l.part-index l.parts) ≡ true
