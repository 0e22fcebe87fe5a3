-- Terms that are compared.
use Rattle.std.proofs.Common.{◌≡◌, ◌&&◌, Bool, true, false, eqb, refl}
use Rattle.std.proofs.Math.Bool.{beq}
use Rattle.std.proofs.lemmas.Bool.{and_parts, eqb-true}
use Rattle.element_core.specs.Terms.{Terms}

one_flag : (a b : Bool) → beq a b ≡ true → a ≡ b
one_flag true true e = refl
one_flag true false e = absurd (cc)
one_flag false true e = absurd (cc)
one_flag false false e = refl

-- the same year, and the same AIs
pub same_terms : (a b : Terms) → (eqb a.year b.year && beq a.every b.every) ≡ true → a ≡ b
same_terms a b same =
    let parts = and_parts (eqb a.year b.year) (beq a.every b.every) same in
    let year = eqb-true a.year b.year parts.0 in
    let every = one_flag a.every b.every parts.1 in
    λ i. record { year = year i; every = every i }
