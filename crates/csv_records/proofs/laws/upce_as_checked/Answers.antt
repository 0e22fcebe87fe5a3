-- The law, as it is proved in `UpceMessages`.
use Rattle.csv_records.proofs.UpceMessages.{upce_as_checked}
use Rattle.csv_records.proofs.laws.upce_as_checked.Goals as goal

pub returns : goal.returns
returns c = upce_as_checked
