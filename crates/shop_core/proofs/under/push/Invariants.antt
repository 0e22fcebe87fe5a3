use Rattle.std.proofs.Common.{◌≡◌, ◌++◌, take}
use Rattle.shop_core.proofs.under.push.Given as goal

abbrev pub invariant-bytes : goal.invariant-bytes
invariant-bytes l = l.digits.items ≡ l.fn.digits.items ++ take l.byte-index l.bytes
