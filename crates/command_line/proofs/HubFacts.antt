-- Wherever the choices of `--ais` stand, words have the same faults and enter the same command.
use Rattle.std.proofs.Common.{◌≡◌, ◌∙◌, Bool, false, true, List, [], ◌∷◌, Option, Some, ap, ap₂, bytes_eq, cond, is_some, map, refl, sym, ◌||◌}
use Rattle.std.specs.Borrow.{Bor}
use Rattle.std.specs.List.{AllByRecursion, list_all, list_any}
use Rattle.std.specs.Cmp.Lexicographic.{pointwise}
use Rattle.std.proofs.lemmas.Bool.{and_parts}
use Rattle.std.proofs.lemmas.Slice.Eq.{bytes_eq-Decides, slice_eq-Decides}
use Rattle.clap.specs.Faults.{fault_of, is_simple_and_free, level_fault}
use Rattle.clap.specs.Simple.{App, argument_words, built, is_simple, names_of, subcommand_of}
use Rattle.clap.specs.ValueTests.{accepts}
use Rattle.clap.specs.Walk.{Text, nothing_held, walk}
use Rattle.clap.specs.declared.builder.value_parser.ValueParser.{ValueParser}
use Rattle.clap.specs.declared.builder.value_parser.ValueParser.TheVariants as vp
use Rattle.clap.specs.declared.error.kind.ErrorKind.TheVariants as kind
use Rattle.command_line.specs.Arguments.{Choices, ais_text}
use Rattle.command_line.specs.commands.{hub_app, hub_of}
use Rattle.command_line.specs.inner.Asking.{AreAisChoices, IsHub}
use Rattle.command_line.proofs.AnyPlace.{AreAlike, IsAlike, entered_alike, entered_fault_alike}
use Rattle.command_line.proofs.AskedFacts.{check_options, lanes_options, live_options, print_options, scan_options}
use Rattle.command_line.proofs.OptionRows.{Opt, built_rule, choice, flag, number}
use Rattle.command_line.proofs.TakenWords.{rules_of}

-- a text is among the choices by what they say
said : (v : Text) (cs : List (Bor Text)) → list_any (λ c. bytes_eq c.now v) cs ≡ list_any (λ t. bytes_eq t v) (map (λ c. c.now) cs)
said v [] = refl
said v (c ∷ cs) = ap (λ b. bytes_eq c.now v || b) (said v cs)

-- an option whose choices, if it has some, are those of `--ais`
abbrev has_ais_alone : Opt → Bool
has_ais_alone (choice name old usual) = pointwise bytes_eq (map (λ c. c.now) old.now) (ais_text false ∷ ais_text true ∷ [])
has_ais_alone o = true

module _ (choices : Choices) (are : AreAisChoices choices) where
  -- these choices in the place of others
  abbrev moved : Option ValueParser → Option ValueParser
  moved (Some (vp.Names old)) = Some (vp.Names choices)
  moved parser = parser

  accepts_same : (v : Text) (old : Choices) → map (λ c. c.now) old.now ≡ ais_text false ∷ ais_text true ∷ []
      → accepts false (vp.Names choices) v ≡ accepts false (vp.Names old) v
  accepts_same v old were = said v choices.now ∙ ap (list_any (λ t. bytes_eq t v)) (are ∙ sym were) ∙ sym (said v old.now)

  alike : (o : Opt) → has_ais_alone o ≡ true → IsAlike moved (built_rule o)
  alike (number name least most) only = (λ v. refl, refl)
  alike (flag name) only = (λ v. refl, refl)
  alike (choice name old usual) only =
      let were : map (λ c. c.now) old.now ≡ ais_text false ∷ ais_text true ∷ [] =
      (slice_eq-Decides bytes_eq-Decides (map (λ c. c.now) old.now) (ais_text false ∷ ais_text true ∷ [])
      (has_ais_alone (choice name old usual)) refl).0 only in
      (λ v. ap (λ b. cond b [] (kind.InvalidValue ∷ [])) (accepts_same v old were), refl)

  all_alike : (os : List Opt) → list_all has_ais_alone os ≡ true → AllByRecursion (IsAlike moved) (rules_of os)
  all_alike [] only = ((λ v. refl, refl), tt)
  all_alike (o ∷ os) only =
      let parts = and_parts (has_ais_alone o) (list_all has_ais_alone os) only in
      (alike o parts.0, all_alike os parts.1)

  each : AllByRecursion (AreAlike moved) (built hub_app).subs
  each = (
    all_alike check_options refl,
    (all_alike print_options refl, (all_alike lanes_options refl, (all_alike scan_options refl, (all_alike live_options refl, tt)))),
  )

  fault_same : (words : List Text) → fault_of (hub_of choices) words ≡ fault_of hub_app words
  fault_same words =
      let b : App = built hub_app in
      let ws : List Text = argument_words hub_app words in
      let stop : Option (Text × List Text) = (walk b.top.rules (names_of b) nothing_held ws).stopped in
      ap₂ (level_fault b.top (names_of b) nothing_held ws) (ap is_some (entered_alike moved b.top b.subs each stop))
      (entered_fault_alike moved b.top b.subs each stop)

  subcommand_same : (words : List Text) → subcommand_of (hub_of choices) words ≡ subcommand_of hub_app words
  subcommand_same words =
      let b : App = built hub_app in
      let ws : List Text = argument_words hub_app words in
      entered_alike moved b.top b.subs each (walk b.top.rules (names_of b) nothing_held ws).stopped

module _ (a : App) (hub : IsHub a) where
  pub hub_fault : (words : List Text) → fault_of a words ≡ fault_of hub_app words
  hub_fault words = ap (λ b. fault_of b words) hub.2 ∙ fault_same hub.0 hub.1 words

  pub hub_subcommand : (words : List Text) → subcommand_of a words ≡ subcommand_of hub_app words
  hub_subcommand words = ap (λ b. subcommand_of b words) hub.2 ∙ subcommand_same hub.0 hub.1 words

  pub hub_simple : is_simple a ≡ true
  hub_simple = ap is_simple hub.2

  pub hub_free : is_simple_and_free a ≡ true
  hub_free = ap is_simple_and_free hub.2
