use Rattle.code128_code.proofs.RunsAreCoded.{coded_is_short as law}
use Rattle.code128_code.proofs.laws.coded_is_short.Goals as goal

pub returns : goal.returns
returns c = law
