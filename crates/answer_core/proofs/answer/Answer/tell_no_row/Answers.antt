use Rattle.answer_core.proofs.ShortPlaces.{run_short, short_as}
use Rattle.answer_core.proofs.answer.Answer.tell_no_row.Goals as goal

pub refuse_said-requires : goal.refuse_said-requires
refuse_said-requires c = short_as _ _ c.refusal.ensures (run_short c.args.fault)
