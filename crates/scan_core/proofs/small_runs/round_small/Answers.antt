-- Each block puts its modules behind those before it; the last has the last sixteen runs.
use Rattle.std.proofs.Common.{◌+◌, ◌≤◌, ◌&&◌, ◌∙◌, arith, length, sym}
use Rattle.scan_core.specs.inner.RunLanes.{modules_or_none}
use Rattle.scan_core.proofs.RunLanes.{block_put, far_block, last_near, last_put, length_new, near_more}
use Rattle.scan_core.proofs.small_runs.round_small.Goals as goal

pub blocks-2-preserved : goal.blocks-2-preserved
blocks-2-preserved c =
    let ws = c.args.inner.now in
    let f = modules_or_none c.args.limits in
    let done = c.blocks-2.done in
    let inv = c.blocks-2.invariant in
    let within : done + 16 ≤ length ws = omega (arith, c.blocks-2-test.true) in
    let told = c.round_block.ensures in
    let new = c.round_block.new.modules in
    record {
      within = within;
      places = length_new f ws c.blocks-2.modules new done within inv.places told.put;
      put = block_put f ws c.blocks-2.modules new done within inv.places told.put inv.put;
      near = near_more f ws done ∙ (λ i. inv.near i && (sym told.near ∙ c.if-not-round_block.false) i);
    }

pub returns-then-not-round_block-clause-near : goal.returns-then-not-round_block-clause-near
returns-then-not-round_block-clause-near c =
    far_block (modules_or_none c.args.limits) c.args.inner.now c.blocks-2.done c.blocks-2.invariant.near
    (sym c.round_block.ensures.near ∙ c.if-not-round_block.true)

pub returns-clause-put : goal.returns-clause-put
returns-clause-put c =
    let inv = c.blocks-2.invariant in λ all.
    last_put (modules_or_none c.args.limits) c.args.inner.now c.blocks-2.modules c.round_block-2.new.modules c.blocks-2.done c.requires.many inv.within
    (omega (arith, c.blocks-2-test.false)) inv.places inv.put c.round_block-2.ensures.put

pub returns-clause-near : goal.returns-clause-near
returns-clause-near c =
    let inv = c.blocks-2.invariant in
    last_near (modules_or_none c.args.limits) c.args.inner.now c.blocks-2.modules c.round_block-2.new.modules c.blocks-2.done c.requires.many inv.within
    (omega (arith, c.blocks-2-test.false)) inv.places inv.put inv.near c.round_block-2.result c.round_block-2.ensures.near
