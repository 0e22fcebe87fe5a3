-- After i turns there are i open lanes. `world/idle_workers` and `deliverer/missing_slots` have the same of other items.
use Rattle.std.proofs.Common.{◌≡◌, false, [], ◌∷◌, ◌++◌, map, length, replicate, ap, ◌∙◌, arith}
use Rattle.std.proofs.lemmas.List.{length-replicate, map-append, replicate_more}
use Rattle.lane_core.specs.Contents.{lane_contents}
use Rattle.lane_core.specs.Holding.{lane_held}
use Rattle.lane_core.proofs.HeldFacts.{count_held}
use Rattle.lane_core.proofs.world.open_lanes.Goals as goal

pub loop-i-init : goal.loop-i-init
loop-i-init c = record { items = ap (map lane_held) c.in_ok-lanes.ensures.items; room = omega (arith, c.in_ok-lanes.ensures.capacity) }

pub push_reserved-requires : goal.push_reserved-requires
push_reserved-requires c =
    let count = ap length c.loop-i.invariant.items ∙ length-replicate c.loop-i._i (lane_contents false 0 [] 0) in
    let held = count_held c.loop-i.lanes.items in
    omega arith

pub loop-i-preserved : goal.loop-i-preserved
loop-i-preserved c = record {
  items = ap (map lane_held) c.push_reserved.ensures.items
      ∙ (map-append lane_held c.loop-i.lanes.items _
      ∙ ((λ i. c.loop-i.invariant.items i ++ lane_contents false 0 (c.new.ensures.items i) 0 ∷ [])
      ∙ replicate_more c.loop-i._i (lane_contents false 0 [] 0)));
  room = omega arith;
}

pub returns : goal.returns
returns c =
    let all : c.loop-i._i ≡ c.args.count = omega arith in
    c.loop-i.invariant.items ∙ ap (λ n. replicate n (lane_contents false 0 [] 0)) all
