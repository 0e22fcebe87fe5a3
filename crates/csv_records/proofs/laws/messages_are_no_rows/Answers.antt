-- The law, as it is proved in `MessageWidths`.
use Rattle.csv_records.proofs.MessageWidths.{messages_are_no_rows}
use Rattle.csv_records.proofs.laws.messages_are_no_rows.Goals as goal

pub returns : goal.returns
returns c = messages_are_no_rows
