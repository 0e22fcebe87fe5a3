-- The worker's job becomes the last result; without a job or memory nothing has changed.
use Rattle.std.proofs.Common.{◌≡◌, List, ◌<◌, not, [], ◌∷◌, ◌++◌, length, Some, refl, sym, ap, ◌∙◌, arith}
use Rattle.std.specs.List.{slice_get}
use Rattle.std.proofs.lemmas.Option.{slice_get_read}
use Rattle.lane_core.specs.declared.event.Event.TheVariants.{Post}
use Rattle.lane_core.specs.declared.job.Plain.{Plain}
use Rattle.lane_core.specs.Holding.{held}
use Rattle.lane_core.proofs.WorkerShowFacts.{busy_at, free_at, post_done, post_enabled, post_free, post_past, same_at_place}
use Rattle.lane_core.proofs.ResultFacts.{of_refusal}
use Rattle.lane_core.proofs.WorldShowsNext.{shown_after}
use Rattle.lane_core.proofs.world.World.post.Goals as goal
use Rattle.lane_core.proofs.world.World.post.Goals.{After-index, After-push_back_reserved}

-- there is such a worker
low : (c : After-index) → c.args.worker < length c.self.inside.workers.items
low c = omega arith

pub returns-then-at-len-clause-steps : goal.returns-then-at-len-clause-steps
returns-then-at-len-clause-steps c = rw (← c.self.view_is) (post_past (held c.self.inside) c.args.worker (omega arith))

pub returns-then-is_none-clause-steps : goal.returns-then-is_none-clause-steps
returns-then-is_none-clause-steps c =
    let less : c.args.worker < length c.self.inside.workers.items = omega arith in
    let free = free_at c.self.inside.workers.items c.args.worker c.index.result.now less c.index.ensures (c.is_none.ensures ∙ ap not c.if-is_none.true) in
    rw (← c.self.view_is) (post_free (held c.self.inside) c.args.worker free)

pub invariant_of-self : goal.invariant_of-self
invariant_of-self c = rw c.reserve.ensures.items c.self.invariant

-- memory for the result is refused, though the worker has a job
pub returns-in_err-reserve-clause-refused : goal.returns-in_err-reserve-clause-refused
returns-in_err-reserve-clause-refused c =
    let less = low (goal.at.returns-in_err-reserve-clause-refused c).After-index in
    let busy = busy_at c.self.inside.workers.items c.args.worker c.index.result.now less c.index.ensures (c.is_none.ensures ∙ ap not c.if-is_none.false) in
    of_refusal c.from_residual.result _ (rw (← c.self.view_is) (post_enabled (held c.self.inside) c.args.worker busy.0 busy.1))

pub returns-in_err-reserve-clause-unchanged : goal.returns-in_err-reserve-clause-unchanged
returns-in_err-reserve-clause-unchanged c = of_refusal c.from_residual.result _ (rw c.reserve.ensures.items c.self.view_is)

-- the job that was there is taken out
never : {P : Type 0} (c : goal.In_default) → P
never c =
    let less : c.args.worker < length c.self.inside.workers.items = omega arith in
    same_at_place c.self.inside.workers.items c.args.worker c.index.result.now c.index_mut.result.now less c.index.ensures c.index_mut.ensures.value
    (c.is_none.ensures ∙ ap not c.if-is_none.false) c.in_default.ensures.value

pub invariant_of-self-in_default : goal.invariant_of-self-in_default
invariant_of-self-in_default c = never c

-- the worker's job is read and becomes the last result
holds : (c : After-push_back_reserved) → slice_get c.self.inside.workers.items c.args.worker ≡ Some (Some c.in-Some.job)
holds c = slice_get_read c.self.inside.workers.items _ c.args.worker c.index_mut.result.now refl (omega arith) c.index_mut.ensures.value
    ∙ ap Some (sym c.in-Some.ensures.value)

results : (c : After-push_back_reserved) → c.push_back_reserved.new.self.items ≡ c.self.inside.results.items ++ c.in-Some.job ∷ []
results c = ◌∙◌ {A = List Plain} c.push_back_reserved.ensures.items (λ i. c.reserve.ensures.items i ++ c.decode.ensures i ∷ [])

pub invariant_of-self-2 : goal.invariant_of-self-2
invariant_of-self-2 c =
    let d = (goal.at.invariant_of-self-2 c).After-push_back_reserved in
    rw (c.replace.ensures.after, results d) (shown_after (held c.self.inside) _ (Post c.args.worker) _ c.self.invariant
    (post_done (held c.self.inside) c.args.worker c.in-Some.job (holds d)))

pub returns-clause-steps : goal.returns-clause-steps
returns-clause-steps c =
    let d = (goal.at.returns-clause-steps c).After-push_back_reserved in
    rw (← c.self.view_is) (rw (c.replace.ensures.after, results d) (post_done (held c.self.inside) c.args.worker c.in-Some.job (holds d)))
