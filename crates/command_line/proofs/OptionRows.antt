-- What stands under a name among the rows of a command whose words have no fault.
use Rattle.std.proofs.Common.{◌≡◌, ◌∙◌, ◌⊎◌, ◌≤◌, ◌++◌, ℕ, pos, Bool, true, false, ◌&&◌, ◌||◌, ◌==◌, List, [], ◌∷◌, Option, Some, None, refl, sym, ap, subst, inl, inr, arith, length, cond, find, bytes_eq, codes, nat_le, slice_get, append-nil, eqb-true, unwrap_or}
use Rattle.std.specs.Int.{IsInRange}
use Rattle.std.specs.List.{AllByRecursion}
use Rattle.std.specs.Option.{option_map_or}
use Rattle.std.specs.Str.Parse.{IsNumeral, digits_value, starts_with_minus, without_leading_plus}
use Rattle.std.proofs.lemmas.Bool.{leb-true}
use Rattle.std.proofs.lemmas.Int.{ints}
use Rattle.std.proofs.lemmas.Slice.Eq.{bytes_eq-Decides}
use Rattle.clap.specs.Kinds.{Kinds, or_else, range_kinds}
use Rattle.clap.specs.Lexer.{without_minus}
use Rattle.clap.specs.Values.{IsSignedIn}
use Rattle.clap.specs.ValueTests.{accepts}
use Rattle.clap.specs.Facts.{explicit_source, unwrap_or_range}
use Rattle.clap.specs.Takes.{is_given}
use Rattle.clap.specs.Walk.{Held, Row, Rule, Text, action_of, at_row, default_rows, finished, first_of, has_row, more_values, most_values, nothing_held, reading_by, row_text, settled, used, used_as, values_or_missing, walk, walk_from, with_default, with_values, without}
use Rattle.clap.specs.Simple.{Shape, filled, help_rule, with_index}
use Rattle.clap.specs.Faults.{action_fault, check_fault, defaults_fault, level_fault, repeat_fault, set_fault, settle_fault, values_fault, walk_fault}
use Rattle.clap.specs.declared.builder.value_parser.ValueParser.TheVariants as vp
use Rattle.clap.specs.declared.error.kind.ErrorKind.{ErrorKind}
use Rattle.clap.specs.declared.error.kind.ErrorKind.TheVariants as kind
use Rattle.clap.specs.declared.parser.matches.ValueSource.TheVariants.{CommandLine, DefaultValue}
use Rattle.clap.proofs.ValueTestLemmas.{accepts-Accepts}
use Rattle.command_line.specs.Arguments.{Choices, HasFlag, HasNumber, choice_rule, flag_rule, flag_text, number_rule}
use Rattle.command_line.proofs.WalkKeeps.{Keeps, first_none, second_none, settle_keeps, walk_keeps}

-- ---- a row at the end

has_id : Text → Row → Bool
has_id id r = bytes_eq r.id id

-- where no row has the id, a change of its row adds one at the end
pub at_end : (id : Text) (change : Row → List Row) (missing rows : List Row) → has_row id rows ≡ false → at_row id change missing rows ≡ rows ++ missing
at_end id change missing [] e = refl
at_end id change missing (r ∷ rs) e = go (bytes_eq r.id id) e (λ f. at_end id change missing rs f)
  where
    go : (b : Bool) → (b || has_row id rs) ≡ false → (has_row id rs ≡ false → at_row id change missing rs ≡ rs ++ missing)
        → cond b (change r ++ rs) (r ∷ at_row id change missing rs) ≡ r ∷ rs ++ missing
    go true f later = cc f
    go false f later = ap (λ l. r ∷ l) (later f)

added : (id : Text) (change : Row → List Row) (new : Row) (rows : List Row) → has_row id rows ≡ false → at_row id change (new ∷ []) (without id rows) ≡ rows
    ++ new ∷ []
added id change new rows none =
    let same : without id rows ≡ rows = at_end id (λ _. []) [] rows none ∙ append-nil rows in
    ap (at_row id change (new ∷ [])) same ∙ at_end id change (new ∷ []) rows none

-- what is found with one more row was found before, or is that row
find_last : (p : Row → Bool) (rows : List Row) (new r : Row) → find p (rows ++ new ∷ []) ≡ Some r → (find p rows ≡ Some r) ⊎ ((p new ≡ true) × (new ≡ r))
find_last p [] new r e = go (p new) refl e
  where
    go : (b : Bool) → p new ≡ b → cond b (Some new) None ≡ Some r → (None ≡ Some r) ⊎ ((p new ≡ true) × (new ≡ r))
    go true t f = let same : new ≡ r = cc f in inr (t, same)
    go false t f = cc f
find_last p (x ∷ xs) new r e = go (p x) e (λ f. find_last p xs new r f)
  where
    go : (b : Bool) → cond b (Some x) (find p (xs ++ new ∷ [])) ≡ Some r
        → (find p (xs ++ new ∷ []) ≡ Some r → (find p xs ≡ Some r) ⊎ ((p new ≡ true) × (new ≡ r)))
        → (cond b (Some x) (find p xs) ≡ Some r) ⊎ ((p new ≡ true) × (new ≡ r))
    go true f later = inl f
    go false f later = later f

-- ---- rows under a name

-- the row of this id, where there is one, is so
abbrev pub Holds : Text → (Row → Type 0) → List Row → Type 0
Holds id Good rows = (r : Row) → find (λ r. bytes_eq r.id id) rows ≡ Some r → Good r

abbrev used_row : Rule → List Text → Row
used_row a values = record { id = a.id; values = values; count = None; source = Some CommandLine; reading = reading_by a }

pub one_more : (id : Text) (Good : Row → Type 0) (rows : List Row) (new : Row) → (bytes_eq new.id id ≡ true → Good new) → Holds id Good rows
    → Holds id Good (rows ++ new ∷ [])
one_more id Good rows new good h r e = elim (find_last (λ r. bytes_eq r.id id) rows new r e) [
  | inl before ↦ h r before
  | inr here ↦ subst Good here.1 (good here.0)
]

not_twice : (id : Text) (rows : List Row) → repeat_fault false id rows ≡ [] → has_row id rows ≡ false
not_twice id rows e = go (has_row id rows) refl e
  where
    go : (b : Bool) → has_row id rows ≡ b → cond (b && true) (kind.ArgumentConflict ∷ []) [] ≡ [] → has_row id rows ≡ false
    go true t f = cc f
    go false t f = t

-- an argument with one value, or a flag: a use adds a row, whose values pass
set_keeps : (a : Rule) (id : Text) (Good : Row → Type 0)
    → ((values : List Text) (rows : List Row) → action_fault (action_of a) false a values rows ≡ set_fault false a values rows)
    → ((values : List Text) (rows : List Row) → used_as (action_of a) a.id (reading_by a) values rows
    ≡ with_values a.id (reading_by a) CommandLine values (without a.id rows))
    → ((values : List Text) → bytes_eq a.id id ≡ true → range_kinds (unwrap_or_range a.range).start_inclusive (most_values a) (length values) ≡ []
    → values_fault a (values_or_missing a values) ≡ [] → Good (used_row a (values_or_missing a values)))
    → Keeps false (Holds id Good) a
set_keeps a id Good faults uses good values rows e h =
    let given : List Text = values_or_missing a values in
    let set : set_fault false a given rows ≡ [] = sym (faults given rows) ∙ second_none _ _ e in
    let none = not_twice a.id rows (first_none _ _ set) in
    let here : used a values rows ≡ rows ++ used_row a given ∷ [] = uses given rows ∙ added a.id (more_values CommandLine given) (used_row a given) rows none in
    subst (Holds id Good) (sym here) (one_more id Good rows (used_row a given) (λ own. good values own (first_none _ _ e) (second_none _ _ set)) h)

-- ---- the options of the program

-- an option that a command may have: a number in a range, which is required, a flag, and one of some choices
pub data Opt : Type 0 where
  number : Text → ℕ → ℕ → Opt
  flag : Text → Opt
  choice : Text → Choices → Text → Opt

abbrev pub name_of : Opt → Text
name_of (number name least most) = name
name_of (flag name) = name
name_of (choice name choices usual) = name

abbrev rule_by : Opt → Rule
rule_by (number name least most) = number_rule name least most
rule_by (flag name) = flag_rule name
rule_by (choice name choices usual) = choice_rule name choices usual

-- as it is built
abbrev pub built_rule : Opt → Rule
built_rule o = with_index 1 (filled (rule_by o))

abbrev pub help : Rule
help = with_index 1 (filled help_rule)

-- a row gives a number of a range
abbrev GivesNumber : ℕ → ℕ → Row → Type 0
GivesNumber least most r = (t : Text) × (row_text r ≡ Some t) × IsNumeral 10 (without_leading_plus t)
    × (least ≤ digits_value 10 (without_leading_plus t)) × (digits_value 10 (without_leading_plus t) ≤ most)

-- and what an option gives
abbrev pub Gives : Opt → Row → Type 0
Gives (number name least most) r = GivesNumber least most r
Gives (flag name) r = (b : Bool) × (row_text r ≡ Some (flag_text b))
Gives (choice name choices usual) r = (t : Text) × (slice_get r.values 0 ≡ Some t) × (accepts false (vp.Names choices) t ≡ true)

-- a number is above 0, and what is usual is a choice
abbrev pub is_sound : Opt → Bool
is_sound (number name least most) = nat_le 1 least
is_sound (flag name) = true
is_sound (choice name choices usual) = accepts false (vp.Names choices) usual

-- a text that the parser of a number takes
number_text : (least most : ℕ) (t : Text) → 1 ≤ least → accepts false (vp.Signed (pos least) (pos most)) t ≡ true
    → IsNumeral 10 (without_leading_plus (without_minus t))
    × (least ≤ digits_value 10 (without_leading_plus (without_minus t))) × (digits_value 10 (without_leading_plus (without_minus t)) ≤ most)
number_text least most t some taken = go (starts_with_minus t) refl (accepts-Accepts false (vp.Signed (pos least) (pos most)) t taken)
  where
    go : (b : Bool) → starts_with_minus t ≡ b → IsSignedIn (pos least) (pos most) t
        → IsNumeral 10 (without_leading_plus (without_minus t))
        × (least ≤ digits_value 10 (without_leading_plus (without_minus t))) × (digits_value 10 (without_leading_plus (without_minus t)) ≤ most)
    go true minus passed =
        let low = rw minus at passed.2 in
        absurd (omega (arith, ints, some, low))
    go false minus passed =
        let same : without_minus t ≡ t = whole t minus in
        let numeral = rw minus at passed.0 in
        let low = rw minus at passed.2 in
        let high = rw minus at passed.3 in
        let least_holds : least ≤ digits_value 10 (without_leading_plus t) = omega (arith, ints, low) in
        let most_holds : digits_value 10 (without_leading_plus t) ≤ most = omega (arith, ints, high) in
        rw same (numeral, least_holds, most_holds)
      where
        whole : (t : Text) → starts_with_minus t ≡ false → without_minus t ≡ t
        whole [] e = refl
        whole (x ∷ xs) e = by (x == 45) e
          where
            by : (b : Bool) → b ≡ false → unwrap_or (cond b (Some xs) None) (x ∷ xs) ≡ x ∷ xs
            by true e = cc e
            by false e = refl

pub no_kind : (k : ErrorKind) → k ∷ [] ≡ [] → ⊥
no_kind k e = cc e

-- an option takes one value, and a flag none
one_count : (n : ℕ) → range_kinds 1 1 n ≡ [] → n ≡ 1
one_count n e = go (n == 0) (1 == n) refl e
  where
    go : (a b : Bool) → (1 == n) ≡ b → cond a (kind.InvalidValue ∷ []) (cond b [] (kind.WrongNumberOfValues ∷ [])) ≡ [] → n ≡ 1
    go true b t e = absurd (no_kind kind.InvalidValue e)
    go false true t e = sym (eqb-true 1 n t)
    go false false t e = absurd (no_kind kind.WrongNumberOfValues e)

no_count : (n : ℕ) → range_kinds 0 0 n ≡ [] → n ≡ 0
no_count n e = go (0 == n) refl e
  where
    go : (b : Bool) → (0 == n) ≡ b → cond b [] (kind.WrongNumberOfValues ∷ []) ≡ [] → n ≡ 0
    go true t e = sym (eqb-true 0 n t)
    go false t e = absurd (no_kind kind.WrongNumberOfValues e)

one_value : (values : List Text) → length values ≡ 1 → (v : Text) × (values ≡ v ∷ [])
one_value [] e = absurd (omega (arith, e))
one_value (v ∷ []) e = (v, refl)
one_value (v ∷ w ∷ rest) e = absurd (omega (arith, e))

accepted : (k : ErrorKind) (b : Bool) → or_else (cond b [] (k ∷ [])) [] ≡ [] → b ≡ true
accepted k true e = refl
accepted k false e = cc e

-- a use with one value, whose row gives what the option gives
one_row : (o : Opt) (values : List Text) → range_kinds 1 1 (length values) ≡ []
    → ((v : Text) → values_fault (built_rule o) (v ∷ []) ≡ [] → Gives o (used_row (built_rule o) (v ∷ [])))
    → values_fault (built_rule o) (values_or_missing (built_rule o) values) ≡ []
    → Gives o (used_row (built_rule o) (values_or_missing (built_rule o) values))
one_row o values range gives passed =
    let one = one_value values (one_count (length values) range) in
    subst (λ (vs : List Text). values_fault (built_rule o) (values_or_missing (built_rule o) vs) ≡ []
    → Gives o (used_row (built_rule o) (values_or_missing (built_rule o) vs))) (sym one.1) (gives one.0) passed

flag_row : (name : Text) (values : List Text) → range_kinds 0 0 (length values) ≡ []
    → Gives (flag name) (used_row (built_rule (flag name)) (values_or_missing (built_rule (flag name)) values))
flag_row name [] range = (true, refl)
flag_row name (v ∷ values) range = let none = no_count (length (v ∷ values)) range in absurd (omega (arith, none))

-- a use of an option gives what it gives
pub own_keeps : (o : Opt) → is_sound o ≡ true → Keeps false (Holds (name_of o) (Gives o)) (built_rule o)
own_keeps (number name least most) sound =
    set_keeps (built_rule (number name least most)) name (Gives (number name least most)) (λ values rows. refl) (λ values rows. refl)
    (λ values own range passed. one_row (number name least most) values range
    (λ v e. let read = number_text least most v (leb-true 1 least sound)
    (accepted kind.ValueValidation (accepts false (vp.Signed (pos least) (pos most)) v) e) in
    (without_minus v, refl, read.0, read.1, read.2)) passed)
own_keeps (flag name) sound =
    set_keeps (built_rule (flag name)) name (Gives (flag name)) (λ values rows. refl) (λ values rows. refl)
    (λ values own range passed. flag_row name values range)
own_keeps (choice name choices usual) sound =
    set_keeps (built_rule (choice name choices usual)) name (Gives (choice name choices usual)) (λ values rows. refl) (λ values rows. refl)
    (λ values own range passed. one_row (choice name choices usual) values range
    (λ v e. (v, refl, accepted kind.InvalidValue (accepts false (vp.Names choices) v) e)) passed)

-- and a use of another leaves that
pub other_keeps : (o p : Opt) → bytes_eq (name_of p) (name_of o) ≡ false → Keeps false (Holds (name_of o) (Gives o)) (built_rule p)
other_keeps o (number name least most) differs =
    set_keeps (built_rule (number name least most)) (name_of o) (Gives o) (λ values rows. refl) (λ values rows. refl)
    (λ values own range passed. absurd (let bad : false ≡ true = sym differs ∙ own in cc bad))
other_keeps o (flag name) differs =
    set_keeps (built_rule (flag name)) (name_of o) (Gives o) (λ values rows. refl) (λ values rows. refl)
    (λ values own range passed. absurd (let bad : false ≡ true = sym differs ∙ own in cc bad))
other_keeps o (choice name choices usual) differs =
    set_keeps (built_rule (choice name choices usual)) (name_of o) (Gives o) (λ values rows. refl) (λ values rows. refl)
    (λ values own range passed. absurd (let bad : false ≡ true = sym differs ∙ own in cc bad))

-- help is no use
pub help_keeps : (P : List Row → Type 0) → Keeps false P help
help_keeps P values rows e h = h

-- ---- defaults

pub plain_default : (rows : List Row) (a : Rule) → a.defaults ≡ [] → with_default rows a ≡ rows
plain_default rows a none = go (has_row a.id rows) a.defaults none
  where
    go : (b : Bool) (values : List Text) → values ≡ [] → cond b rows (default_rows a.id (reading_by a) values rows) ≡ rows
    go true values e = refl
    go false [] e = refl
    go false (v ∷ vs) e = cc e

abbrev default_row : Rule → Text → Row
default_row a usual = record { id = a.id; values = usual ∷ []; count = None; source = Some DefaultValue; reading = reading_by a }

-- what holds after a default was added, where there was no row
one_default : (a : Rule) (usual : Text) (P : List Row → Type 0) (rows : List Row) → a.defaults ≡ usual ∷ []
    → (has_row a.id rows ≡ true → P rows) → (has_row a.id rows ≡ false → P (rows ++ default_row a usual ∷ [])) → P (with_default rows a)
one_default a usual P rows is stays new = go (has_row a.id rows) refl
  where
    go : (b : Bool) → has_row a.id rows ≡ b → P (cond b rows (default_rows a.id (reading_by a) a.defaults rows))
    go true t = stays t
    go false t =
        let at : at_row a.id (more_values DefaultValue (usual ∷ [])) (default_row a usual ∷ []) rows ≡ rows ++ default_row a usual ∷ [] =
        at_end a.id (more_values DefaultValue (usual ∷ [])) (default_row a usual ∷ []) rows t in
        subst (λ vs. P (default_rows a.id (reading_by a) vs rows)) (sym is) (subst P (sym at) (new t))

-- an option with its default gives what it gives, and leaves what others give
default_keeps : (o p : Opt) (usual : Text) → (built_rule p).id ≡ name_of p → (built_rule p).defaults ≡ usual ∷ []
    → (bytes_eq (name_of p) (name_of o) ≡ true → Gives o (default_row (built_rule p) usual)) → (rows : List Row)
    → Holds (name_of o) (Gives o) rows → Holds (name_of o) (Gives o) (with_default rows (built_rule p))
default_keeps o p usual id is gives rows h =
    one_default (built_rule p) usual (Holds (name_of o) (Gives o)) rows is (λ _. h)
    (λ none. one_more (name_of o) (Gives o) rows (default_row (built_rule p) usual)
    (λ own. gives (subst (λ i. bytes_eq i (name_of o) ≡ true) id own)) h)

pub own_default : (o : Opt) → is_sound o ≡ true → (rows : List Row) → Holds (name_of o) (Gives o) rows
    → Holds (name_of o) (Gives o) (with_default rows (built_rule o))
own_default (number name least most) sound rows h =
    subst (Holds name (Gives (number name least most))) (sym (plain_default rows (built_rule (number name least most)) refl)) h
own_default (flag name) sound rows h = default_keeps (flag name) (flag name) (codes "false") refl refl (λ own. (false, refl)) rows h
own_default (choice name choices usual) sound rows h =
    default_keeps (choice name choices usual) (choice name choices usual) usual refl refl (λ own. (usual, refl, sound)) rows h

pub other_default : (o p : Opt) → bytes_eq (name_of p) (name_of o) ≡ false → (rows : List Row) → Holds (name_of o) (Gives o) rows
    → Holds (name_of o) (Gives o) (with_default rows (built_rule p))
other_default o (number name least most) differs rows h =
    subst (Holds (name_of o) (Gives o)) (sym (plain_default rows (built_rule (number name least most)) refl)) h
other_default o (flag name) differs rows h =
    default_keeps o (flag name) (codes "false") refl refl (λ own. absurd (let bad : false ≡ true = sym differs ∙ own in cc bad)) rows h
other_default o (choice name choices usual) differs rows h =
    default_keeps o (choice name choices usual) usual refl refl (λ own. absurd (let bad : false ≡ true = sym differs ∙ own in cc bad)) rows h

-- an option that may be left out has a default
abbrev pub has_default : Opt → Bool
has_default (number name least most) = false
has_default o = true

-- with one more row a name has its row
has_more : (name : Text) (rows : List Row) (new : Row) → (has_row name rows ≡ true) ⊎ (bytes_eq new.id name ≡ true) → has_row name (rows ++ new ∷ []) ≡ true
has_more name [] new (inl e) = cc e
has_more name [] new (inr e) = rw e refl
has_more name (r ∷ rs) new e = go (bytes_eq r.id name) e (has_more name rs new)
  where
    go : (b : Bool) → ((b || has_row name rs) ≡ true) ⊎ (bytes_eq new.id name ≡ true)
        → ((has_row name rs ≡ true) ⊎ (bytes_eq new.id name ≡ true) → has_row name (rs ++ new ∷ []) ≡ true)
        → (b || has_row name (rs ++ new ∷ [])) ≡ true
    go true f later = refl
    go false f later = later f

default_there : (p : Opt) (usual name : Text) → (built_rule p).defaults ≡ usual ∷ [] → (rows : List Row)
    → (has_row name rows ≡ true) ⊎ (bytes_eq (built_rule p).id name ≡ true) → has_row name (with_default rows (built_rule p)) ≡ true
default_there p usual name is rows e =
    one_default (built_rule p) usual (λ rs. has_row name rs ≡ true) rows is
    (λ there. elim e [
      | inl before ↦ before
      | inr here ↦ subst (λ i. has_row i rows ≡ true) ((bytes_eq-Decides (built_rule p).id name).0 here) there
    ])
    (λ none. has_more name rows (default_row (built_rule p) usual) e)

pub own_there : (o : Opt) → has_default o ≡ true → (rows : List Row) → has_row (name_of o) (with_default rows (built_rule o)) ≡ true
own_there (number name least most) has rows = cc has
own_there (flag name) has rows = default_there (flag name) (codes "false") name refl rows (inr ((bytes_eq-Decides name name).1 refl))
own_there (choice name choices usual) has rows =
    default_there (choice name choices usual) usual name refl rows (inr ((bytes_eq-Decides name name).1 refl))

pub still_there : (p : Opt) (name : Text) (rows : List Row) → has_row name rows ≡ true → has_row name (with_default rows (built_rule p)) ≡ true
still_there (number other least most) name rows e =
    subst (λ rs. has_row name rs ≡ true) (sym (plain_default rows (built_rule (number other least most)) refl)) e
still_there (flag other) name rows e = default_there (flag other) (codes "false") name refl rows (inl e)
still_there (choice other choices usual) name rows e = default_there (choice other choices usual) usual name refl rows (inl e)

-- ---- after the walk

-- the steps of a command without a fault
pub record Passed (s : Shape) (words : List Text) : Type 0 where
  pub walked : walk_fault s [] (walk_from nothing_held) words ≡ []
  pub settles : settle_fault s.rules s.args_override_self (walk s.rules [] nothing_held words).held ≡ []
  pub checked : check_fault s (finished s.rules (walk s.rules [] nothing_held words).held) false ≡ []

pub passed_of : (s : Shape) (words : List Text) → level_fault s [] nothing_held words false [] ≡ [] → Passed s words
passed_of s words e =
    let end : Held = (walk s.rules [] nothing_held words).held in
    let walks : Kinds = walk_fault s [] (walk_from nothing_held) words in
    let settles : Kinds = settle_fault s.rules s.args_override_self end in
    let defaults : Kinds = defaults_fault (settled s.rules end).rows s.rules in
    let checks : Kinds = check_fault s (finished s.rules end) false in
    let after = second_none walks (or_else settles (or_else defaults checks)) e in
    let last = second_none settles (or_else defaults checks) after in
    record {
      walked = first_none walks (or_else settles (or_else defaults checks)) e;
      settles = first_none settles (or_else defaults checks) after;
      checked =
          second_none defaults checks last;
    }

-- the rows before defaults
abbrev pub held_rows : Shape → List Text → List Row
held_rows s words = (settled s.rules (walk s.rules [] nothing_held words).held).rows

pub rows_hold : (s : Shape) (words : List Text) (P : List Row → Type 0) → AllByRecursion (Keeps s.args_override_self P) s.rules → P [] → Passed s words
    → P (held_rows s words)
rows_hold s words P each none passed =
    settle_keeps s.rules s.args_override_self P each (walk s.rules [] nothing_held words).held passed.settles
    (walk_keeps s [] P each words (walk_from nothing_held) passed.walked none)

-- ---- what the rows have of an option

-- a number of the range stands under the name
abbrev pub HasNumberIn : Text → ℕ → ℕ → List Row → ℕ → Type 0
HasNumberIn name least most rows n = HasNumber name rows n × IsInRange least most n

abbrev pub Has : Opt → List Row → Type 0
Has (number name least most) rows = (n : ℕ) × HasNumberIn name least most rows n
Has (flag name) rows = (b : Bool) × HasFlag name rows b
Has (choice name choices usual) rows = (t : Text) × (first_of name rows ≡ Some t) × (accepts false (vp.Names choices) t ≡ true)

-- the row of a name that has one
there : (name : Text) (rows : List Row) → has_row name rows ≡ true → (r : Row) × (find (λ r. bytes_eq r.id name) rows ≡ Some r)
there name [] e = cc e
there name (r ∷ rs) e = go (bytes_eq r.id name) e (there name rs)
  where
    go : (b : Bool) → (b || has_row name rs) ≡ true → (has_row name rs ≡ true → (s : Row) × (find (λ r. bytes_eq r.id name) rs ≡ Some s))
        → (s : Row) × (cond b (Some r) (find (λ r. bytes_eq r.id name) rs) ≡ Some s)
    go true f later = (r, refl)
    go false f later = later f

given : (name : Text) (rows : List Row) → is_given name rows ≡ true → (r : Row) × (find (λ r. bytes_eq r.id name) rows ≡ Some r)
given name rows e = go (find (λ r. bytes_eq r.id name) rows) e
  where
    go : (o : Option Row) → option_map_or (λ r. explicit_source r.source) o false ≡ true → (r : Row) × (o ≡ Some r)
    go None f = cc f
    go (Some r) f = (r, refl)

-- what is required is given, and what has a default is there
pub has_of : (o : Opt) (rows : List Row) → Holds (name_of o) (Gives o) rows
    → ((built_rule o).required ≡ true → is_given (built_rule o).id rows ≡ true) → (has_default o ≡ true → has_row (name_of o) rows ≡ true) → Has o rows
has_of (number name least most) rows h required default =
    let found = given name rows (required refl) in
    let good = h found.0 found.1 in
    (digits_value 10 (without_leading_plus good.0), ((good.0, rw found.1 good.1, good.2, refl), (good.3, good.4)))
has_of (flag name) rows h required default =
    let found = there name rows (default refl) in
    let good = h found.0 found.1 in
    (good.0, rw found.1 good.1)
has_of (choice name choices usual) rows h required default =
    let found = there name rows (default refl) in
    let good = h found.0 found.1 in
    (good.0, rw found.1 good.1, good.2)
