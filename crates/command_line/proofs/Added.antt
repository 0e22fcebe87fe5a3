-- A command to which options are added in turn.
use Rattle.std.proofs.Common.{◌≡◌, ◌∙◌, ◌∷◌, [], List, Result, IfOk, ap, false, map, subst, sym}
use Rattle.std.specs.declared.alloc.AllocError.{AllocError}
use Rattle.std.proofs.lemmas.Result.{IfOk-weaker}
use Rattle.clap.specs.Words.{AddsArg, AddsInTurn, App, Rule, app_of, rule_of, with_rule}
use Rattle.clap.specs.declared.builder.arg.Arg.{Arg}
use Rattle.clap.specs.declared.builder.command.Command.{Command}
use Rattle.command_line.specs.Arguments.{with_rules}

-- an option with its rule, of one command alone
abbrev pub Ruled : Type 0
Ruled = (x : Arg) × (r : Rule) × (rule_of x ≡ r) × (x.global ≡ false)

in_turn : (old new : Command) (ruled : List Ruled) → AddsInTurn AddsArg old (map (λ q. q.0) ruled) new
    → app_of new ≡ with_rules (app_of old) (map (λ q. q.1) ruled)
in_turn old new [] same = ap app_of (sym same)
in_turn old new (q ∷ more) adds =
    let one = adds.1.shape q.3 ∙ ap (with_rule (app_of old)) q.2 in
    in_turn adds.0 new more adds.2 ∙ ap (λ a. with_rules a (map (λ q. q.1) more)) one

-- what a call that adds them answers
pub with_added : (old : Command) (given : List Arg) (ruled : List Ruled) (a : App) (r : Result Command AllocError)
    → IfOk r (AddsInTurn AddsArg old given) → given ≡ map (λ q. q.0) ruled → app_of old ≡ a
    → IfOk r (λ c. app_of c ≡ with_rules a (map (λ q. q.1) ruled))
with_added old given ruled a r adds same is = IfOk-weaker r _ _
    (λ new turn. in_turn old new ruled (subst (λ l. AddsInTurn AddsArg old l new) same turn) ∙ ap (λ b. with_rules b (map (λ q. q.1) ruled)) is) adds
