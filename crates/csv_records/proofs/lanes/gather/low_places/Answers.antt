use Rattle.std.proofs.Common.{refl}
use Rattle.csv_records.specs.declared.lanes.gather.TheConstants.{PLACES}
use Rattle.csv_records.proofs.lanes.PlaceTable.{entries}
use Rattle.csv_records.proofs.lanes.gather.low_places.Goals as goal

pub returns : goal.returns
returns c = entries 0 PLACES refl c.args.mask c.requires
