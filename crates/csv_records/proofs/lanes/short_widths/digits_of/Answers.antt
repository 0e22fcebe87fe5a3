use Rattle.std.proofs.lemmas.Simd.{zip2_splat}
use Rattle.std.proofs.Common.{◌+◌, ◌-◌, ◌%◌}
use Rattle.csv_records.proofs.lanes.short_widths.digits_of.Goals as goal

pub returns : goal.returns
returns c = zip2_splat (λ x y. (x + (256 - y)) % 256) c.args.bytes 16 48 c.fits-bytes.0
