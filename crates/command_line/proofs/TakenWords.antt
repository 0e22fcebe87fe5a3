-- Words that `clap` takes give each option of their command.
use Rattle.std.proofs.Common.{◌≡◌, ◌⊎◌, Bool, true, false, not, ◌&&◌, ◌||◌, ◌++◌, List, [], ◌∷◌, Option, Some, None, refl, sym, subst, inl, inr, find, fold, map, bytes_eq, is_some, option_map}
use Rattle.std.specs.Bool.{⊤}
use Rattle.std.specs.List.{AllByRecursion, list_all, list_any}
use Rattle.std.specs.Option.{option_map_or}
use Rattle.std.proofs.lemmas.Bool.{and_parts}
use Rattle.clap.specs.Kinds.{Kinds, check_kinds, or_else}
use Rattle.clap.specs.Takes.{is_given}
use Rattle.clap.specs.Walk.{Held, Row, Rule, Text, answers_to, finished, has_row, nothing_held, rows_after, settled, walk, walk_from, with_default}
use Rattle.clap.specs.Simple.{App, Shape, argument_words, built, built_leaf, entered, inherited, label_of, marked_built, names_of, new_app, rows_at, subcommand_of, with_leaf_noted}
use Rattle.clap.specs.Faults.{check_fault, defaults_fault, entered_fault, fault_of, level_fault, settle_fault, walk_fault}
use Rattle.clap.specs.declared.error.kind.ErrorKind.TheVariants as kind
use Rattle.command_line.specs.commands.{hub_app}
use Rattle.command_line.proofs.OptionRows.{Gives, Has, Holds, Opt, Passed, built_rule, has_default, has_of, held_rows, help, help_keeps, is_sound, name_of, no_kind, other_default, other_keeps, own_default, own_keeps, own_there, passed_of, plain_default, rows_hold, still_there}
use Rattle.command_line.proofs.WalkKeeps.{Keeps, first_none, found_has, second_none}

-- ---- the command that the words name

met : (s : Shape) (rows : List Row) (has : Bool) → s.arg_required_else_help ≡ false → s.subcommand_required ≡ true → check_fault s rows has ≡ [] → has ≡ true
met s rows true asks wants e = refl
met s rows false asks wants e = absurd (no_kind kind.MissingSubcommand (rw (asks, wants) at e))

module _ (R : Text → List Row → Type 0) where
  in_subs : (subs : List Shape) (top : Shape) (o : Option (Text × List Text))
      → AllByRecursion (λ s. (words : List Text) → Passed s words → R s.name (rows_after s.rules [] words)) subs
      → entered_fault (record { top = top; subs = subs }) o ≡ [] → is_some (entered (record { top = top; subs = subs }) o) ≡ true
      → (p : Text × List Row) × (entered (record { top = top; subs = subs }) o ≡ Some p) × R p.0 p.1
  in_subs subs top None each fault has = cc has
  in_subs subs top (Some q) each fault has = go (find (λ s. answers_to q.0 (label_of s)) subs) refl fault has
    where
      go : (o : Option Shape) → find (λ s. answers_to q.0 (label_of s)) subs ≡ o
          → option_map_or (λ s. level_fault s [] nothing_held q.1 false []) o [] ≡ []
          → is_some (option_map (λ s. rows_at s q.1) o) ≡ true
          → (p : Text × List Row) × (option_map (λ s. rows_at s q.1) o ≡ Some p) × R p.0 p.1
      go None f e h = cc h
      go (Some s) f e h = (
        rows_at s q.1,
        refl,
        found_has (λ s. (words : List Text) → Passed s words → R s.name (rows_after s.rules [] words))
            (λ s. answers_to q.0 (label_of s)) subs s each f q.1 (passed_of s q.1 e),
      )

  pub named : (words : List Text) → AllByRecursion (λ s. (words : List Text) → Passed s words → R s.name (rows_after s.rules [] words)) (built hub_app).subs
      → fault_of hub_app words ≡ [] → (p : Text × List Row) × (subcommand_of hub_app words ≡ Some p) × R p.0 p.1
  named words each e =
      let b : App = built hub_app in
      let ws : List Text = argument_words hub_app words in
      let end : Held = (walk b.top.rules (names_of b) nothing_held ws).held in
      let stop : Option (Text × List Text) = (walk b.top.rules (names_of b) nothing_held ws).stopped in
      let walks : Kinds = walk_fault b.top (names_of b) (walk_from nothing_held) ws in
      let below : Kinds = entered_fault b stop in
      let settles : Kinds = settle_fault b.top.rules b.top.args_override_self end in
      let defaults : Kinds = defaults_fault (settled b.top.rules end).rows b.top.rules in
      let checks : Kinds = check_fault b.top (finished b.top.rules end) (is_some (entered b stop)) in
      let after = second_none walks (or_else below (or_else settles (or_else defaults checks))) e in
      let entering = first_none below (or_else settles (or_else defaults checks)) after in
      let settling = second_none below (or_else settles (or_else defaults checks)) after in
      let checking = second_none defaults checks (second_none settles (or_else defaults checks) settling) in
      in_subs b.subs b.top stop each entering (met b.top (finished b.top.rules end) (is_some (entered b stop)) refl refl checking)

-- ---- the options of a command

all_append : {X : Type 0} (Q : X → Type 0) (xs ys : List X) → AllByRecursion Q xs → AllByRecursion Q ys → AllByRecursion Q (xs ++ ys)
all_append Q [] ys h k = k
all_append Q (x ∷ xs) ys h k = (h.0, all_append Q xs ys h.1 k)

all_before : {X : Type 0} (Q : X → Type 0) (xs ys : List X) → AllByRecursion Q (xs ++ ys) → AllByRecursion Q xs
all_before Q [] ys h = tt
all_before Q (x ∷ xs) ys h = (h.0, all_before Q xs ys h.1)

is_false : (b : Bool) → not b ≡ true → b ≡ false
is_false true e = cc e
is_false false e = refl

-- the rules of a command with these options, as they are built
abbrev pub rules_of : List Opt → List Rule
rules_of os = map built_rule os ++ help ∷ []

-- none of these has the option's name
abbrev are_others : Opt → List Opt → Bool
are_others o ps = list_all (λ p. not (bytes_eq (name_of p) (name_of o))) ps

-- each is sound, and has a name of its own
abbrev pub are_apart : List Opt → Bool
are_apart [] = true
are_apart (o ∷ os) = is_sound o && (are_others o os && (list_all (λ p. not (bytes_eq (name_of o) (name_of p))) os && are_apart os))

-- the option stands among these, once
abbrev StandsIn : Opt → List Opt → Type 0
StandsIn o [] = ⊥
StandsIn o (p ∷ ps) = ((o ≡ p) × (are_others o ps ≡ true)) ⊎ ((bytes_eq (name_of p) (name_of o) ≡ false) × StandsIn o ps)

abbrev IsOf : List Opt → Opt → Type 0
IsOf os o = (is_sound o ≡ true) × StandsIn o os

one_before : (p : Opt) (ps os : List Opt) → list_all (λ o. not (bytes_eq (name_of p) (name_of o))) os ≡ true → AllByRecursion (IsOf ps) os
    → AllByRecursion (IsOf (p ∷ ps)) os
one_before p ps [] e h = tt
one_before p ps (o ∷ os) e h =
    let parts = and_parts (not (bytes_eq (name_of p) (name_of o))) (list_all (λ o. not (bytes_eq (name_of p) (name_of o))) os) e in
    ((h.0.0, inr (is_false (bytes_eq (name_of p) (name_of o)) parts.0, h.0.1)), one_before p ps os parts.1 h.1)

each_stands : (os : List Opt) → are_apart os ≡ true → AllByRecursion (IsOf os) os
each_stands [] e = tt
each_stands (o ∷ os) e =
    let apart : Bool = list_all (λ p. not (bytes_eq (name_of o) (name_of p))) os in
    let sound = and_parts (is_sound o) (are_others o os && (apart && are_apart os)) e in
    let others = and_parts (are_others o os) (apart && are_apart os) sound.1 in
    let rest = and_parts apart (are_apart os) others.1 in
    ((sound.0, inl (refl, others.0)), one_before o os os rest.0 (each_stands os rest.1))

-- what an option gives, each use among the others keeps
module _ (o : Opt) (sound : is_sound o ≡ true) where
  abbrev P : List Row → Type 0
  P = Holds (name_of o) (Gives o)

  others_keep : (ps : List Opt) → are_others o ps ≡ true → AllByRecursion (Keeps false P) (map built_rule ps)
  others_keep [] e = tt
  others_keep (p ∷ ps) e =
      let parts = and_parts (not (bytes_eq (name_of p) (name_of o))) (are_others o ps) e in
      (other_keeps o p (is_false (bytes_eq (name_of p) (name_of o)) parts.0), others_keep ps parts.1)

  each_keeps : (ps : List Opt) → StandsIn o ps → AllByRecursion (Keeps false P) (map built_rule ps)
  each_keeps [] h = absurd h
  each_keeps (p ∷ ps) (inl h) = (subst (λ q. Keeps false P (built_rule q)) h.0 (own_keeps o sound), others_keep ps h.1)
  each_keeps (p ∷ ps) (inr h) = (other_keeps o p h.0, each_keeps ps h.1)

  -- and so do the defaults
  others_default : (ps : List Opt) → are_others o ps ≡ true → (rows : List Row) → P rows → P (fold with_default rows (map built_rule ps))
  others_default [] e rows h = h
  others_default (p ∷ ps) e rows h =
      let parts = and_parts (not (bytes_eq (name_of p) (name_of o))) (are_others o ps) e in
      others_default ps parts.1 (with_default rows (built_rule p)) (other_default o p (is_false (bytes_eq (name_of p) (name_of o)) parts.0) rows h)

  each_default : (ps : List Opt) → StandsIn o ps → (rows : List Row) → P rows → P (fold with_default rows (map built_rule ps))
  each_default [] h rows g = absurd h
  each_default (p ∷ ps) (inl h) rows g =
      others_default ps h.1 (with_default rows (built_rule p)) (subst (λ q. P (with_default rows (built_rule q))) h.0 (own_default o sound rows g))
  each_default (p ∷ ps) (inr h) rows g = each_default ps h.1 (with_default rows (built_rule p)) (other_default o p h.0 rows g)

-- which leave a row under each name that has a default
still : (name : Text) (ps : List Opt) (rows : List Row) → has_row name rows ≡ true → has_row name (fold with_default rows (map built_rule ps)) ≡ true
still name [] rows e = e
still name (p ∷ ps) rows e = still name ps (with_default rows (built_rule p)) (still_there p name rows e)

comes : (o : Opt) → has_default o ≡ true → (ps : List Opt) → StandsIn o ps → (rows : List Row)
    → has_row (name_of o) (fold with_default rows (map built_rule ps)) ≡ true
comes o has [] h rows = absurd h
comes o has (p ∷ ps) (inl h) rows =
    still (name_of o) ps (with_default rows (built_rule p))
    (subst (λ q. has_row (name_of o) (with_default rows (built_rule q)) ≡ true) h.0 (own_there o has rows))
comes o has (p ∷ ps) (inr h) rows = comes o has ps h.1 (with_default rows (built_rule p))

-- help has none
with_help : (os : List Opt) (rows : List Row) → fold with_default rows (rules_of os) ≡ fold with_default rows (map built_rule os)
with_help [] rows = plain_default rows help refl
with_help (o ∷ os) rows = with_help os (with_default rows (built_rule o))

-- what is required is given
all_given : (rows : List Row) (c : List Rule) → list_any (λ a. a.required && not (is_given a.id rows)) c ≡ false
    → AllByRecursion (λ a. a.required ≡ true → is_given a.id rows ≡ true) c
all_given rows [] e = tt
all_given rows (a ∷ c) e = (by a.required (is_given a.id rows) _ e, all_given rows c (rest a.required (is_given a.id rows) _ e))
  where
    by : (b d f : Bool) → (b && not d || f) ≡ false → b ≡ true → d ≡ true
    by true true f e is = refl
    by true false f e is = cc e
    by false d f e is = cc is

    rest : (b d f : Bool) → (b && not d || f) ≡ false → f ≡ false
    rest true true f e = e
    rest true false f e = cc e
    rest false d f e = e

-- ---- the commands

-- a command of this name with these options, as it is built
abbrev pub shape : Text → List Opt → Shape
shape name os = record (built_leaf (inherited (with_leaf_noted (marked_built hub_app.top)) (new_app name).top)) { rules = rules_of os }

required : (command : Text) (os : List Opt) (rows : List Row) → check_fault (shape command os) rows false ≡ []
    → AllByRecursion (λ a. a.required ≡ true → is_given a.id rows ≡ true) (map built_rule os)
required command os rows e =
    all_before (λ a. a.required ≡ true → is_given a.id rows ≡ true) (map built_rule os) (help ∷ [])
    (all_given rows (rules_of os) (go (list_any (λ a. a.required && not (is_given a.id rows)) (rules_of os)) e))
  where
    go : (b : Bool) → check_kinds false false b ≡ [] → b ≡ false
    go true f = absurd (no_kind kind.MissingRequiredArgument f)
    go false f = refl

-- the rows have each option
abbrev pub HasAll : List Opt → List Row → Type 0
HasAll [] rows = ⊤
HasAll (o ∷ os) rows = Has o rows × HasAll os rows

module _ (command : Text) (os : List Opt) (words : List Text) (passed : Passed (shape command os) words) where
  abbrev end : List Row
  end = rows_after (rules_of os) [] words

  one_had : (o : Opt) → IsOf os o → ((built_rule o).required ≡ true → is_given (built_rule o).id end ≡ true) → Has o end
  one_had o is given =
      let s : Shape = shape command os in
      let P : List Row → Type 0 = Holds (name_of o) (Gives o) in
      let each = all_append (Keeps false P) (map built_rule os) (help ∷ []) (each_keeps o is.0 os is.1) (help_keeps P, tt) in
      let held : P (held_rows s words) = rows_hold s words P each (λ r e. cc e) passed in
      let same : end ≡ fold with_default (held_rows s words) (map built_rule os) = with_help os (held_rows s words) in
      has_of o end (subst P (sym same) (each_default o is.0 os is.1 (held_rows s words) held)) given
      (λ has. subst (λ rows. has_row (name_of o) rows ≡ true) (sym same) (comes o has os is.1 (held_rows s words)))

  each_had : (ps : List Opt) → AllByRecursion (IsOf os) ps
      → AllByRecursion (λ a. a.required ≡ true → is_given a.id end ≡ true) (map built_rule ps) → HasAll ps end
  each_had [] are given = tt
  each_had (p ∷ ps) are given = (one_had p are.0 given.0, each_had ps are.1 given.1)

-- words which pass give each option of their command
pub all_had : (command : Text) (os : List Opt) → are_apart os ≡ true → (words : List Text) → Passed (shape command os) words
    → HasAll os (rows_after (rules_of os) [] words)
all_had command os apart words passed =
    each_had command os words passed os (each_stands os apart) (required command os (rows_after (rules_of os) [] words) passed.checked)
