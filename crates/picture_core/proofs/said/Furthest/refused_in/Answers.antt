use Rattle.std.proofs.Common.{subst, sym}
use Rattle.element_core.specs.Terms.{Terms}
use Rattle.picture_core.specs.Saids.{IsRefusal}
use Rattle.picture_core.proofs.TermsFacts.{same_terms}
use Rattle.picture_core.proofs.said.Furthest.refused_in.Goals as goal

pub returns-then-eq : goal.returns-then-eq
returns-then-eq c =
    let refused = c.in-Some.refused in
    subst (λ (terms : Terms). IsRefusal terms refused.fault) (same_terms refused.year c.args.year (sym c.if-eq.ensures)) refused.of_widths
