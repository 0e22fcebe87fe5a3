-- The texts of errors in an output line.
use Rattle.std.specs.Prelude.{ℕ, List}
use Rattle.digits_core.specs.Refusals.{refusal_words}
use Rattle.digits_core.specs.declared.refusal.RefusalKind.TheVariants as refusal
use Rattle.code128_code.specs.declared.fault.Code128Fault.{Code128Fault}
use Rattle.code128_code.specs.declared.fault.Code128Fault.TheVariants.{CheckCharacter, NotGs1, FunctionCharacter, CodeSet}

-- `refused`, the number and the name of the error
abbrev pub code128_fault_text : Code128Fault → List ℕ
code128_fault_text CheckCharacter = refusal_words refusal.CheckCharacter
code128_fault_text NotGs1 = refusal_words refusal.NotGs1
code128_fault_text FunctionCharacter = refusal_words refusal.FunctionCharacter
code128_fault_text CodeSet = refusal_words refusal.CodeSet
