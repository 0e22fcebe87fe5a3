use Rattle.std.proofs.Common.{◌≡◌, ◌∙◌, [], subst, sym, List, map, string_bytes}
use Rattle.clap.specs.Words.{App, HasMatchesOf, Text, app_of, fault_of, subcommand_rows_of}
use Rattle.clap.specs.declared.parser.matches.ArgMatches.{ArgMatches}
use Rattle.command_line.specs.Asking.{Asks, WordsAsk}
use Rattle.command_line.specs.inner.Asking.{IsHub}
use Rattle.command_line.specs.declared.commands.Asked.{Asked}
use Rattle.command_line.proofs.AskedFacts.{asked_for}
use Rattle.command_line.proofs.ErrorFacts.{explained_of}
use Rattle.command_line.proofs.HubFacts.{hub_fault, hub_free, hub_simple, hub_subcommand}
use Rattle.command_line.proofs.words.read_words.Goals as goal

pub returns-in-Err-clause-refused : goal.returns-in-Err-clause-refused
returns-in-Err-clause-refused c =
    let a : App = app_of c.in-Ok.hub in
    let is : IsHub a = c.in-Ok.ensures in
    let words : List Text = map string_bytes c.args.words.now in
    explained_of a words c.in-Err.error c.fault_from.result (hub_fault a is words) (c.in-Err.ensures.kinds (hub_free a is)) c.fault_from.ensures

-- what the matches of the command that was built ask for
asked_by_hub : (a : App) (words : List Text) (m : ArgMatches) (x : Asked) → IsHub a → HasMatchesOf a words m → fault_of a words ≡ []
    → Asks (subcommand_rows_of m) x → WordsAsk words x
asked_by_hub a words m x is matches none asks =
    (sym (hub_fault a is words) ∙ none, subst (λ t. Asks t x) ((matches (hub_simple a is)).1 ∙ hub_subcommand a is words) asks)

-- words that `clap` takes ask for a command with its options
never : (a : App) (words : List Text) (m : ArgMatches) → IsHub a → HasMatchesOf a words m → fault_of a words ≡ []
    → ((x : Asked) → Asks (subcommand_rows_of m) x → ⊥) → ⊥
never a words m is matches none nothing =
    let found = asked_for words (sym (hub_fault a is words) ∙ none) in
    nothing found.0 (subst (λ t. Asks t found.0) (sym ((matches (hub_simple a is)).1 ∙ hub_subcommand a is words)) found.1)

pub unreachable-requires : goal.unreachable-requires
unreachable-requires c =
    let a : App = app_of c.in-Ok.hub in
    let is : IsHub a = c.in-Ok.ensures in
    let taken = c.in-Ok-try_get_matches_from.ensures in
    never a (map string_bytes c.args.words.now) c.in-Ok-try_get_matches_from.matches is taken.matches (taken.kinds (hub_free a is))
    c.in-None.ensures.none

pub returns-clause-asked : goal.returns-clause-asked
returns-clause-asked c =
    let a : App = app_of c.in-Ok.hub in
    let is : IsHub a = c.in-Ok.ensures in
    let taken = c.in-Ok-try_get_matches_from.ensures in
    asked_by_hub a (map string_bytes c.args.words.now) c.in-Ok-try_get_matches_from.matches c.in-Some.asked is taken.matches
    (taken.kinds (hub_free a is)) c.in-Some.ensures.some
