-- The texts of errors in the arguments.
use Rattle.std.specs.Prelude.{ℕ, List, string_bytes}
use Rattle.digits_core.specs.Refusals.{refusal_words}
use Rattle.digits_core.specs.declared.refusal.RefusalKind.TheVariants as refusal
use Rattle.command_line.specs.declared.words.WordsFault.{WordsFault}
use Rattle.command_line.specs.declared.words.WordsFault.TheVariants as words

-- the error of arguments that ask for no command, or the help that they ask for
abbrev pub words_fault_text : WordsFault → List ℕ
words_fault_text words.Words = refusal_words refusal.Words
words_fault_text words.NoMemory = refusal_words refusal.NoMemory
words_fault_text (words.Help text) = string_bytes text
