use Rattle.code128_code.proofs.ValuesSay.{said_is_short as law}
use Rattle.code128_code.proofs.laws.said_is_short.Goals as goal

pub returns : goal.returns
returns c = law
