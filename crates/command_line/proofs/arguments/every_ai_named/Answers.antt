-- The text under `ais` is one of the two choices, or there is none.
use Rattle.std.proofs.Common.{◌≡◌, ◌∙◌, Bool, false, true, Option, None, Some, ap, codes, option_map, sym}
use Rattle.std.specs.Borrow.{Bor}
use Rattle.clap.specs.Words.{Text, first_of, first_value, found_of, rows_of}
use Rattle.clap.specs.declared.parser.matches.Found.{Found}
use Rattle.clap.proofs.WalkLemmas.{first_value-rows}
use Rattle.command_line.specs.Arguments.{ais_text}
use Rattle.command_line.proofs.Matches.{in_none}
use Rattle.command_line.proofs.arguments.every_ai_named.Goals as goal

-- what `get_str` says of the rows
no_text : (f : Found) (name : Text) (r : Option (Bor Text)) → option_map (λ s. s.now) r ≡ first_value f name → r ≡ None → (t : Text)
    → first_of name (rows_of f) ≡ Some t → ⊥
no_text f name r e none t h =
    let bad : None ≡ Some t = sym (ap (option_map (λ s. s.now)) none) ∙ e ∙ first_value-rows f name ∙ h in
    cc bad

some_text : (f : Found) (name : Text) (r : Option (Bor Text)) (s : Bor Text) → option_map (λ s. s.now) r ≡ first_value f name → r ≡ Some s
    → first_of name (rows_of f) ≡ Some s.now
some_text f name r s e is = sym (sym (ap (option_map (λ s. s.now)) is) ∙ e ∙ first_value-rows f name)

pub returns-in_err-get_str-clause-none : goal.returns-in_err-get_str-clause-none
returns-in_err-get_str-clause-none c = in_none c.from_residual.result _
    (λ b h. no_text (found_of c.args.matches.now) (codes "ais") c.get_str.result c.get_str.ensures c.in_err-get_str.was (ais_text b) h)

pub returns-in-profile-clause-some : goal.returns-in-profile-clause-some
returns-in-profile-clause-some c =
    some_text (found_of c.args.matches.now) (codes "ais") c.get_str.result c.in_ok-get_str.field-0 c.get_str.ensures c.in_ok-get_str.was
    ∙ ap (λ t. Some t) c.in-profile.is

pub returns-in-all-clause-some : goal.returns-in-all-clause-some
returns-in-all-clause-some c =
    some_text (found_of c.args.matches.now) (codes "ais") c.get_str.result c.in_ok-get_str.field-0 c.get_str.ensures c.in_ok-get_str.was
    ∙ ap (λ t. Some t) c.in-all.is

-- a text that is neither
neither : (f : Found) (name s : Text) → first_of name (rows_of f) ≡ Some s → (s ≡ codes "profile" → ⊥) → (s ≡ codes "all" → ⊥) → (b : Bool)
    → first_of name (rows_of f) ≡ Some (ais_text b) → ⊥
neither f name s is no_profile no_all true h = no_all (let same : s ≡ codes "all" = cc (sym is ∙ h) in same)
neither f name s is no_profile no_all false h = no_profile (let same : s ≡ codes "profile" = cc (sym is ∙ h) in same)

pub returns-in_default-clause-none : goal.returns-in_default-clause-none
returns-in_default-clause-none c =
    neither (found_of c.args.matches.now) (codes "ais") c.in_ok-get_str.field-0.now
    (some_text (found_of c.args.matches.now) (codes "ais") c.get_str.result c.in_ok-get_str.field-0 c.get_str.ensures c.in_ok-get_str.was)
    c.in_default.not-profile c.in_default.not-all
