use Rattle.std.proofs.Common.{arith}
use Rattle.csv_records.proofs.lanes.Lanes16.{eight_of}
use Rattle.csv_records.proofs.lanes.short_widths.upper_half.Goals as goal

pub returns : goal.returns
returns c = eight_of 8 c.args.lanes (omega (arith, c.fits-lanes.0))
