-- After i turns there are i slots. `world/idle_workers` has the same of workers, `world/open_lanes` of lanes.
use Rattle.std.proofs.Common.{◌≡◌, [], ◌∷◌, ◌++◌, replicate, ap, ◌∙◌, arith}
use Rattle.std.proofs.lemmas.List.{replicate_more}
use Rattle.lane_core.specs.declared.next_slot.NextSlot.TheVariants.{Missing}
use Rattle.lane_core.proofs.deliverer.missing_slots.Goals as goal

pub loop-i-init : goal.loop-i-init
loop-i-init c = record { items = c.in_ok-slots.ensures.items; room = omega (arith, c.in_ok-slots.ensures.capacity) }

pub loop-i-preserved : goal.loop-i-preserved
loop-i-preserved c = record {
  items = c.push_reserved.ensures.items ∙ (ap (λ xs. xs ++ Missing ∷ []) c.loop-i.invariant.items ∙ replicate_more c.loop-i._i Missing);
  room = omega arith;
}

pub returns : goal.returns
returns c =
    let all : c.loop-i._i ≡ c.args.count = omega arith in
    c.loop-i.invariant.items ∙ ap (λ n. replicate n Missing) all
