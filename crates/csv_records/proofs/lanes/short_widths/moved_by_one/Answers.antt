use Rattle.std.proofs.Common.{◌≤◌, ◌++◌, ◌+◌, arith, length, length-append}
use Rattle.csv_records.proofs.lanes.Lanes16.{gotten}
use Rattle.csv_records.proofs.lanes.short_widths.moved_by_one.Goals as goal

pub returns : goal.returns
returns c =
    let both = c.args.before ++ c.args.now in
    let long : 15 + 16 ≤ length both = omega (arith, length-append c.args.before c.args.now, c.fits-before.0, c.fits-now.0) in
    gotten 16 15 both long
