use Rattle.message_core.proofs.SpelledUpce.{upce_is_expanded}
use Rattle.message_core.proofs.laws.upce_is_expanded.Goals as goal

pub returns : goal.returns
returns c = upce_is_expanded
