use Rattle.std.proofs.Common.{subst}
use Rattle.digits_core.specs.Buffers.{IsPut}
use Rattle.gs1_c.proofs.gs1_c_gtin.Goals as goal

pub returns : goal.returns
returns c = subst (λ line. IsPut line c.args.out.now c.put_line.new.out c.put_line.result) c.gtin_line.ensures c.put_line.ensures
