use Rattle.std.proofs.Common.{subst}
use Rattle.message_core.specs.Messages.{IsMessage}
use Rattle.answer_core.proofs.ShortPlaces.{message_short}
use Rattle.answer_core.proofs.answer.Answer.read_message.Goals as goal

pub tell_said-requires : goal.tell_said-requires
tell_said-requires c =
    let text = c.args.text.now in
    let h = c.read_message-head.result.head in
    λ fault is. message_short c.args.terms text h fault (subst (λ told. IsMessage c.args.terms text h told) is c.read_message-head.ensures)
