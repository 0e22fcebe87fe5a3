-- What `get_one` says of a number among the matches, and what holds if an `Option` has a value or none.
use Rattle.std.proofs.Common.{◌≡◌, ◌∙◌, ◌<◌, ◌^◌, ℕ, List, Option, Some, None, Result, IfNone, IfSome, IsSome, ap, is_some, sym, refl, subst}
use Rattle.std.specs.Str.Parse.{ExplainsUnsignedError, HasUnsignedDigitsIfOk, ParsesUnsigned, digits_value, without_leading_plus}
use Rattle.std.specs.declared.num.ParseIntError.{ParseIntError}
use Rattle.clap.specs.Words.{Row, Text, one_of, one_text, rows_of}
use Rattle.clap.specs.Matches.{ReadsOne}
use Rattle.clap.specs.declared.parser.matches.Found.{Found}
use Rattle.clap.proofs.WalkLemmas.{one_text-rows}
use Rattle.command_line.specs.Arguments.{HasNumber}

-- what a number of this many bits is read of
abbrev pub gives : ℕ → List ℕ → Result ℕ ParseIntError → Type 0
gives bits text r = ParsesUnsigned bits 10 text r × ExplainsUnsignedError 10 text r × HasUnsignedDigitsIfOk text r

by_some : (bits : ℕ) (rows : List Row) (name : Text) (r : Option ℕ) (o : Option Text) → o ≡ one_of name rows → (o ≡ None → r ≡ None)
    → ((t : List ℕ) → o ≡ Some t → ReadsOne (gives bits) t r) → IfSome r (HasNumber name rows)
by_some bits rows name None o is lacks has = tt
by_some bits rows name (Some v) None is lacks has = cc (lacks refl)
by_some bits rows name (Some v) (Some t) is lacks has =
    let parsed = (has t refl).0 in
    (t, sym is, parsed.0.0, parsed.1)

pub number_some : (bits : ℕ) (f : Found) (name : Text) (r : Option ℕ) → (one_text f name ≡ None → r ≡ None)
    → ((t : List ℕ) → one_text f name ≡ Some t → ReadsOne (gives bits) t r) → IfSome r (HasNumber name (rows_of f))
number_some bits f name r = by_some bits (rows_of f) name r (one_text f name) (one_text-rows f name)

pub number_none : (bits : ℕ) (f : Found) (name : Text) (r : Option ℕ)
    → ((t : List ℕ) → one_text f name ≡ Some t → ReadsOne (gives bits) t r) → IfNone r ((n : ℕ) → n < 2 ^ bits → HasNumber name (rows_of f) n → ⊥)
number_none bits f name (Some v) has = tt
number_none bits f name None has = λ n small h.
    let failed = has h.0 (one_text-rows f name ∙ h.1) in
    failed.1.0 (h.2, subst (λ k. k < 2 ^ bits) h.3 small)

-- what holds where there is nothing
pub in_none : {T : Type 0} (r : Option T) (P : Type 0) → P → IfNone r P
in_none None P p = p
in_none (Some x) P p = tt

-- and where there is nothing else either
pub none_after : {T U : Type 0} (found : Option T) (result : Option U) (P Q : Type 0) → is_some result ≡ is_some found → IfNone found P → (P → Q)
    → IfNone result Q
none_after None None P Q same p so = so p
none_after None (Some x) P Q same p so = tt
none_after (Some y) None P Q same p so = cc same
none_after (Some y) (Some x) P Q same p so = tt

-- what follows of a value, and of there being one
pub some_with : {T : Type 0} (r : Option T) {P Q : T → Type 0} {K : Type 0} → IfSome r P → (IsSome r → K) → ((x : T) → P x → K → Q x) → IfSome r Q
some_with None p k f = tt
some_with (Some x) p k f = f x p (k refl)

-- what there is nothing of, where it would give a value
pub none_by : {T X : Type 0} (r : Option T) {P : X → Type 0} → ((x : X) → P x → IsSome r) → IfNone r ((x : X) → P x → ⊥)
none_by None some = λ x p. cc (some x p)
none_by (Some y) some = tt

-- a name has one number
pub one_number : (name : Text) (rows : List Row) (m n : ℕ) → HasNumber name rows m → HasNumber name rows n → m ≡ n
one_number name rows m n h k =
    let same : h.0 ≡ k.0 = cc (sym h.1 ∙ k.1) in
    h.3 ∙ ap (λ t. digits_value 10 (without_leading_plus t)) same ∙ sym k.3
