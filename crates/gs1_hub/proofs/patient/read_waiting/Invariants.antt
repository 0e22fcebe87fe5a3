use Rattle.std.proofs.Common.{◌≡◌, length}
use Rattle.std.specs.Io.KnownBytes.{Keeps}
use Rattle.gs1_hub.proofs.patient.read_waiting.Given as goal

abbrev pub invariant-loop : goal.invariant-loop
invariant-loop g l = record { room : length l.buf ≡ length l.fn.buf; kept : Keeps (g.R.Read.remaining l.fn.reader) (g.R.Read.remaining l.reader) }
