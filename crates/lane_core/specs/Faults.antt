-- The text of a `TakeFault` in an output line: `refused`, its number and its name.
use Rattle.std.specs.Prelude.{ℕ, List}
use Rattle.digits_core.specs.Refusals.{refusal_words}
use Rattle.digits_core.specs.declared.refusal.RefusalKind.TheVariants as refusal
use Rattle.lane_core.specs.declared.fault.TakeFault.{TakeFault}
use Rattle.lane_core.specs.declared.fault.TakeFault.TheVariants.{Stranger, NoMemory}

abbrev pub take_fault_text : TakeFault → List ℕ
take_fault_text (Stranger delivery) = refusal_words refusal.Stranger
take_fault_text (NoMemory delivery) = refusal_words refusal.NoMemory
