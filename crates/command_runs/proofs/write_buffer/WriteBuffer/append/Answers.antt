-- The bytes stand behind those that were held.
use Rattle.std.proofs.Common.{refl, arith}
use Rattle.std.proofs.lemmas.Slice.{take-put_mid}
use Rattle.command_runs.proofs.write_buffer.WriteBuffer.append.Goals as goal

pub returns : goal.returns
returns c = rw (c.copy_from_slice.ensures.after, ← c.self.view_is) (take-put_mid c.self.inside.len _ c.self.inside.bytes c.args.more.now _ refl (omega (arith, c.self.invariant, c.self.told)))
