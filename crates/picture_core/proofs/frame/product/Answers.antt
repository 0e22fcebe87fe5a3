use Rattle.std.proofs.Common.{◌^◌, lit<, w64}
use Rattle.picture_core.proofs.Products.{product_fits, product_within}
use Rattle.picture_core.proofs.frame.product.Goals as goal

pub overflow_mul-result : goal.overflow_mul-result
overflow_mul-result c =
    product_fits w64 c.args.place c.args.part (2 ^ 29) 65536 c.ranges.place c.ranges.part c.requires.place c.requires.part (lit< tt)

pub returns : goal.returns
returns c =
    product_within w64 c.args.place c.args.part (2 ^ 29) 65536 c.ranges.place c.ranges.part c.requires.place c.requires.part (lit< tt)
