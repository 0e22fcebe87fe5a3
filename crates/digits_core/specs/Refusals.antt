-- The refusals: the one table of their numbers and names, and how they stand in an output line.
use Rattle.std.specs.Prelude.{ℕ, List, ◌∷◌, ◌++◌, Option, Some, None, codes}
use Rattle.std.specs.Fmt.{decimal}
use Rattle.digits_core.specs.declared.refusal.RefusalKind.{RefusalKind}
use Rattle.digits_core.specs.declared.refusal.RefusalKind.TheVariants as refusal

-- `refused`, its number and its name
abbrev pub refusal_words : RefusalKind → List ℕ
refusal_words refusal.Length = codes "refused 1 Length"
refusal_words refusal.NotDigit = codes "refused 2 NotDigit"
refusal_words refusal.CheckDigit = codes "refused 3 CheckDigit"
refusal_words refusal.Empty = codes "refused 4 Empty"
refusal_words refusal.UnknownAi = codes "refused 5 UnknownAi"
refusal_words refusal.ValueLength = codes "refused 6 ValueLength"
refusal_words refusal.ValueCharacter = codes "refused 7 ValueCharacter"
refusal_words refusal.ValueCheckDigit = codes "refused 8 ValueCheckDigit"
refusal_words refusal.ValueDate = codes "refused 9 ValueDate"
refusal_words refusal.MissingSeparator = codes "refused 10 MissingSeparator"
refusal_words refusal.TooLong = codes "refused 11 TooLong"
refusal_words refusal.TooManyCharacters = codes "refused 12 TooManyCharacters"
refusal_words refusal.CheckCharacter = codes "refused 13 CheckCharacter"
refusal_words refusal.NotGs1 = codes "refused 14 NotGs1"
refusal_words refusal.FunctionCharacter = codes "refused 15 FunctionCharacter"
refusal_words refusal.CodeSet = codes "refused 16 CodeSet"
refusal_words refusal.TooWide = codes "refused 17 TooWide"
refusal_words refusal.BadRuns = codes "refused 18 BadRuns"
refusal_words refusal.Blank = codes "refused 19 Blank"
refusal_words refusal.RunCount = codes "refused 20 RunCount"
refusal_words refusal.QuietZone = codes "refused 21 QuietZone"
refusal_words refusal.Modules = codes "refused 22 Modules"
refusal_words refusal.Pattern = codes "refused 23 Pattern"
refusal_words refusal.SymbolCheckDigit = codes "refused 24 SymbolCheckDigit"
refusal_words refusal.BadGrid = codes "refused 25 BadGrid"
refusal_words refusal.LabelKind = codes "refused 26 LabelKind"
refusal_words refusal.LabelWidth = codes "refused 27 LabelWidth"
refusal_words refusal.NotP4 = codes "refused 28 NotP4"
refusal_words refusal.PbmHeader = codes "refused 29 PbmHeader"
refusal_words refusal.Truncated = codes "refused 30 Truncated"
refusal_words refusal.PbmSize = codes "refused 31 PbmSize"
refusal_words refusal.Stranger = codes "refused 32 Stranger"
refusal_words refusal.BadCount = codes "refused 33 BadCount"
refusal_words refusal.Full = codes "refused 34 Full"
refusal_words refusal.Spent = codes "refused 35 Spent"
refusal_words refusal.NoThread = codes "refused 36 NoThread"
refusal_words refusal.ReadFault = codes "refused 37 ReadFault"
refusal_words refusal.WriteFault = codes "refused 38 WriteFault"
refusal_words refusal.Csv = codes "refused 39 Csv"
refusal_words refusal.Kind = codes "refused 40 Kind"
refusal_words refusal.BadLane = codes "refused 41 BadLane"
refusal_words refusal.Words = codes "refused 42 Words"
refusal_words refusal.NoMemory = codes "refused 43 NoMemory"
refusal_words refusal.InputSize = codes "refused 44 InputSize"

-- its words and, if it has a place, a space and the digits of it
abbrev pub refusal_text : RefusalKind → Option ℕ → List ℕ
refusal_text kind None = refusal_words kind
refusal_text kind (Some place) = refusal_words kind ++ (32 ∷ decimal place)
