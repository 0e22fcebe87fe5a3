-- The numbers of refusals.
use Rattle.std.specs.Prelude.{ℕ, ◌-◌, ◌∷◌, [], List, Option, None, slice_get, ◌==◌, if◌then◌else◌}
use Rattle.digits_core.specs.declared.refusal.RefusalKind.{RefusalKind}
use Rattle.digits_core.specs.declared.refusal.RefusalKind.TheVariants as refusal

-- the number of a refusal
abbrev pub refusal_number : RefusalKind → ℕ
refusal_number refusal.Length = 1
refusal_number refusal.NotDigit = 2
refusal_number refusal.CheckDigit = 3
refusal_number refusal.Empty = 4
refusal_number refusal.UnknownAi = 5
refusal_number refusal.ValueLength = 6
refusal_number refusal.ValueCharacter = 7
refusal_number refusal.ValueCheckDigit = 8
refusal_number refusal.ValueDate = 9
refusal_number refusal.MissingSeparator = 10
refusal_number refusal.TooLong = 11
refusal_number refusal.TooManyCharacters = 12
refusal_number refusal.CheckCharacter = 13
refusal_number refusal.NotGs1 = 14
refusal_number refusal.FunctionCharacter = 15
refusal_number refusal.CodeSet = 16
refusal_number refusal.TooWide = 17
refusal_number refusal.BadRuns = 18
refusal_number refusal.Blank = 19
refusal_number refusal.RunCount = 20
refusal_number refusal.QuietZone = 21
refusal_number refusal.Modules = 22
refusal_number refusal.Pattern = 23
refusal_number refusal.SymbolCheckDigit = 24
refusal_number refusal.BadGrid = 25
refusal_number refusal.LabelKind = 26
refusal_number refusal.LabelWidth = 27
refusal_number refusal.NotP4 = 28
refusal_number refusal.PbmHeader = 29
refusal_number refusal.Truncated = 30
refusal_number refusal.PbmSize = 31
refusal_number refusal.Stranger = 32
refusal_number refusal.BadCount = 33
refusal_number refusal.Full = 34
refusal_number refusal.Spent = 35
refusal_number refusal.NoThread = 36
refusal_number refusal.ReadFault = 37
refusal_number refusal.WriteFault = 38
refusal_number refusal.Csv = 39
refusal_number refusal.Kind = 40
refusal_number refusal.BadLane = 41
refusal_number refusal.Words = 42
refusal_number refusal.NoMemory = 43
refusal_number refusal.InputSize = 44

-- the refusals in the order of their numbers
abbrev pub refusals : List RefusalKind
refusals =
    refusal.Length ∷ refusal.NotDigit ∷ refusal.CheckDigit ∷ refusal.Empty ∷ refusal.UnknownAi ∷
    refusal.ValueLength ∷ refusal.ValueCharacter ∷ refusal.ValueCheckDigit ∷ refusal.ValueDate ∷
    refusal.MissingSeparator ∷ refusal.TooLong ∷ refusal.TooManyCharacters ∷ refusal.CheckCharacter ∷
    refusal.NotGs1 ∷ refusal.FunctionCharacter ∷ refusal.CodeSet ∷ refusal.TooWide ∷ refusal.BadRuns ∷
    refusal.Blank ∷ refusal.RunCount ∷ refusal.QuietZone ∷ refusal.Modules ∷ refusal.Pattern ∷
    refusal.SymbolCheckDigit ∷ refusal.BadGrid ∷ refusal.LabelKind ∷ refusal.LabelWidth ∷ refusal.NotP4 ∷
    refusal.PbmHeader ∷ refusal.Truncated ∷ refusal.PbmSize ∷ refusal.Stranger ∷ refusal.BadCount ∷ refusal.Full ∷
    refusal.Spent ∷ refusal.NoThread ∷ refusal.ReadFault ∷ refusal.WriteFault ∷ refusal.Csv ∷ refusal.Kind ∷
    refusal.BadLane ∷ refusal.Words ∷ refusal.NoMemory ∷ refusal.InputSize ∷ []

-- the refusal with this number, if there is one
abbrev pub refusal_numbered : ℕ → Option RefusalKind
refusal_numbered number = if number == 0 then None else slice_get refusals (number - 1)
