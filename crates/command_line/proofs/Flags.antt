-- What `get_one` says of a flag among the matches.
use Rattle.std.proofs.Common.{◌≡◌, ◌∙◌, Bool, List, Option, Some, None, IfNone, IfSome, true, false, ap, refl, sym, ℕ}
use Rattle.std.specs.Str.Parse.{ParsesBool}
use Rattle.clap.specs.Words.{ReadsOne, Row, Text, one_of, one_text, rows_of}
use Rattle.clap.specs.declared.parser.matches.Found.{Found}
use Rattle.clap.proofs.WalkLemmas.{one_text-rows}
use Rattle.command_line.specs.Arguments.{HasFlag, flag_text}

module _ (E : Type 0) where
  by_some : (rows : List Row) (name : Text) (r : Option Bool) (o : Option Text) → o ≡ one_of name rows → (o ≡ None → r ≡ None)
      → ((t : List ℕ) → o ≡ Some t → ReadsOne (ParsesBool {E = E}) t r) → IfSome r (HasFlag name rows)
  by_some rows name None o is lacks has = tt
  by_some rows name (Some b) None is lacks has = cc (lacks refl)
  by_some rows name (Some true) (Some t) is lacks has = sym is ∙ ap (λ x. Some x) (has t refl)
  by_some rows name (Some false) (Some t) is lacks has = sym is ∙ ap (λ x. Some x) (has t refl)

  pub flag_some : (f : Found) (name : Text) (r : Option Bool) → (one_text f name ≡ None → r ≡ None)
      → ((t : List ℕ) → one_text f name ≡ Some t → ReadsOne (ParsesBool {E = E}) t r) → IfSome r (HasFlag name (rows_of f))
  flag_some f name r = by_some (rows_of f) name r (one_text f name) (one_text-rows f name)

  by_none : (rows : List Row) (name : Text) (r : Option Bool) (o : Option Text) → o ≡ one_of name rows
      → ((t : List ℕ) → o ≡ Some t → ReadsOne (ParsesBool {E = E}) t r) → IfNone r ((b : Bool) → HasFlag name rows b → ⊥)
  by_none rows name (Some b) o is has = tt
  by_none rows name None o is has = λ b h. other b (has (flag_text b) (is ∙ h))
    where
      other : (b : Bool) → ReadsOne (ParsesBool {E = E}) (flag_text b) None → ⊥
      other true r = r.1.0 refl
      other false r = r.1.1 refl

  pub flag_none : (f : Found) (name : Text) (r : Option Bool)
      → ((t : List ℕ) → one_text f name ≡ Some t → ReadsOne (ParsesBool {E = E}) t r) → IfNone r ((b : Bool) → HasFlag name (rows_of f) b → ⊥)
  flag_none f name r = by_none (rows_of f) name r (one_text f name) (one_text-rows f name)
