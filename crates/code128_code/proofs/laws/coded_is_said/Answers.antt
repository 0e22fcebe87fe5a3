use Rattle.code128_code.proofs.RunsAreCoded.{coded_is_said as law}
use Rattle.code128_code.proofs.laws.coded_is_said.Goals as goal

pub returns : goal.returns
returns c = law
