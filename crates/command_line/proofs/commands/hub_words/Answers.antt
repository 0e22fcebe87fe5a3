-- Commands that are added in turn make the program with these commands.
use Rattle.std.proofs.Common.{◌≡◌, ◌∙◌, ◌∷◌, [], List, Result, Ok, IfOk, ap, false, map, subst, sym}
use Rattle.std.specs.Bool.{⊤}
use Rattle.std.proofs.lemmas.Result.{IfOk-weaker}
use Rattle.std.specs.declared.alloc.AllocError.{AllocError}
use Rattle.clap.specs.Words.{AddsInTurn, AddsSubcommand, App, app_of, with_subcommand}
use Rattle.clap.specs.declared.builder.command.Command.{Command}
use Rattle.clap.specs.declared.builder.command.Command.TheViews.{out-Command}
use Rattle.command_line.specs.commands.{hub_commands, with_commands}
use Rattle.command_line.proofs.commands.hub_words.Goals as goal

-- commands of this shape, none of which has a global argument, where they were made
abbrev AreMade : List (Result Command AllocError) → List App → Type 0
AreMade [] [] = ⊤
AreMade [] (a ∷ apps) = ⊥
AreMade (r ∷ rs) [] = ⊥
AreMade (r ∷ rs) (a ∷ apps) = IfOk r (λ c. app_of c ≡ a) × IfOk r (λ c. (out-Command c).has_globals ≡ false) × AreMade rs apps

added : (program whole : Command) (made : List Command) (apps : List App) → AreMade (map (λ m. Ok m) made) apps → AddsInTurn AddsSubcommand program made whole
    → app_of whole ≡ with_commands (app_of program) apps
added program whole [] [] h same = ap app_of (sym same)
added program whole [] (a ∷ apps) h same = absurd h
added program whole (m ∷ ms) [] h adds = absurd h
added program whole (m ∷ ms) (a ∷ apps) h adds =
    let one = adds.1.shape h.1 ∙ ap (λ x. with_subcommand (app_of program) x.top) h.0 in
    added adds.0 whole ms apps h.2 adds.2 ∙ ap (λ x. with_commands x apps) one

pub returns : goal.returns
returns c =
    let choices = c.args.choices in
    let check = c.check_words.ensures in
    let print = c.print_words.ensures in
    let lanes = c.lanes_words.ensures in
    let scan = c.scan_words.ensures in
    let live = c.live_words.ensures in
    let each : AreMade (c.check_words.result ∷ c.print_words.result ∷ c.lanes_words.result ∷ c.scan_words.result
    ∷ c.live_words.result ∷ []) (hub_commands choices) =
    (check.app, check.own, (print.app, print.own, (lanes.app, lanes.own, (scan.app, scan.own, (live.app, live.own, tt))))) in
    IfOk-weaker c.with_commands.result _ _
    (λ whole h. (
      choices,
      c.requires,
      added _ whole h.0 (hub_commands choices) (subst (λ l. AreMade l (hub_commands choices)) h.1 each) h.2
          ∙ ap (λ a. with_commands a (hub_commands choices)) c.program.ensures,
    ))
    c.with_commands.ensures
