-- After i turns there are i workers. `deliverer/missing_slots` has the same of slots, `world/open_lanes` of lanes.
use Rattle.std.proofs.Common.{◌≡◌, None, [], ◌∷◌, ◌++◌, replicate, ap, ◌∙◌, arith}
use Rattle.std.proofs.lemmas.List.{replicate_more}
use Rattle.lane_core.proofs.world.idle_workers.Goals as goal

pub loop-i-init : goal.loop-i-init
loop-i-init c = record { items = c.in_ok-workers.ensures.items; room = omega (arith, c.in_ok-workers.ensures.capacity) }

pub loop-i-preserved : goal.loop-i-preserved
loop-i-preserved c = record {
  items = c.push_reserved.ensures.items ∙ (ap (λ xs. xs ++ None ∷ []) c.loop-i.invariant.items ∙ replicate_more c.loop-i._i None);
  room = omega arith;
}

pub returns : goal.returns
returns c =
    let all : c.loop-i._i ≡ c.args.count = omega arith in
    c.loop-i.invariant.items ∙ ap (λ n. replicate n None) all
