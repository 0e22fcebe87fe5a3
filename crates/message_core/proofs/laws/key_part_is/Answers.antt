use Rattle.message_core.proofs.OneKeyPart.{key_part_is}
use Rattle.message_core.proofs.laws.key_part_is.Goals as goal

pub returns : goal.returns
returns c = key_part_is
