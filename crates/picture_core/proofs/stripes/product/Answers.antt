use Rattle.std.proofs.Common.{lit<, w32}
use Rattle.picture_core.proofs.Products.{product_fits, product_within}
use Rattle.picture_core.proofs.stripes.product.Goals as goal

pub overflow_mul-result : goal.overflow_mul-result
overflow_mul-result c =
    product_fits w32 c.args.one c.args.other 255 255 c.ranges.one c.ranges.other c.requires.one c.requires.other (lit< tt)

pub returns : goal.returns
returns c =
    product_within w32 c.args.one c.args.other 255 255 c.ranges.one c.ranges.other c.requires.one c.requires.other (lit< tt)
