use Rattle.std.proofs.Common.{◌≡◌, ◌<◌, ◌==◌, ◌^◌, ◌∙◌, arith, length, map, subst, w8}
use Rattle.std.specs.Simd.Lanes.{mask_l}
use Rattle.std.proofs.lemmas.List.{length-map}
use Rattle.std.proofs.lemmas.Simd.{bitmask_splat, mask_l-lt}
use Rattle.csv_records.proofs.lanes.short_widths.spaces.Goals as goal

pub returns-clause-value : goal.returns-clause-value
returns-clause-value c = bitmask_splat w8 (λ a b. a == b) c.args.bytes 16 32 c.fits-bytes.0 (omega arith)

pub returns-clause-few : goal.returns-clause-few
returns-clause-few c =
    let ms = map (λ b. b == 32) c.args.bytes in
    let long : length ms ≡ 16 = length-map c.args.bytes (λ b. b == 32) ∙ c.fits-bytes.0 in
    let value = bitmask_splat w8 (λ a b. a == b) c.args.bytes 16 32 c.fits-bytes.0 (omega arith) in
    let below : mask_l ms < 2 ^ 16 = subst (λ n. mask_l ms < 2 ^ n) long (mask_l-lt ms) in
    omega (arith, value, below)
