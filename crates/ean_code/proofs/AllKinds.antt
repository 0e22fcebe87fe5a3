-- All kinds: a test that each passes is one computation, and the number of its widths tells each.
use Rattle.std.proofs.Common.{◌≡◌, ℕ, ◌==◌, Bool, true, List, [], ◌∷◌, Option, Some, refl, sym, ap, ◌∙◌}
use Rattle.std.proofs.lemmas.Bool.{and_parts}
use Rattle.std.specs.List.{find, list_all}
use Rattle.ean_code.specs.Symbols.{width_count}
use Rattle.ean_code.specs.declared.kind.Kind.{Kind}
use Rattle.ean_code.specs.declared.kind.Kind.TheVariants.{Ean13, Ean8, UpcE, Itf14}

abbrev kinds : List Kind
kinds = Ean13 ∷ Ean8 ∷ UpcE ∷ Itf14 ∷ []

pub each_kind : (test : Kind → Bool) → list_all test kinds ≡ true → (kind : Kind) → test kind ≡ true
each_kind test h Ean13 = (and_parts (test Ean13) _ h).0
each_kind test h Ean8 = (and_parts (test Ean8) _ (and_parts (test Ean13) _ h).1).0
each_kind test h UpcE = (and_parts (test UpcE) _ (and_parts (test Ean8) _ (and_parts (test Ean13) _ h).1).1).0
each_kind test h Itf14 = (and_parts (test Itf14) true (and_parts (test UpcE) _ (and_parts (test Ean8) _ (and_parts (test Ean13) _ h).1).1).1).0

abbrev kind_with : ℕ → Option Kind
kind_with n = find (λ kind. width_count kind == n) kinds

found_back : (kind : Kind) → kind_with (width_count kind) ≡ Some kind
found_back Ean13 = refl
found_back Ean8 = refl
found_back UpcE = refl
found_back Itf14 = refl

pub one_kind : (k l : Kind) → width_count k ≡ width_count l → k ≡ l
one_kind k l e = let same = sym (found_back k) ∙ ap kind_with e ∙ found_back l in cc
