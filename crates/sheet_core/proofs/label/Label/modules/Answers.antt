use Rattle.std.proofs.Common.{ℕ, List, subst}
use Rattle.ean_code.specs.Spelling.{IsPrintedUpce}
use Rattle.sheet_core.specs.Labels.{IsLabelSymbol}
use Rattle.sheet_core.proofs.OneLabelSymbol.{none_from, symbol_of_upce}
use Rattle.sheet_core.proofs.label.Label.modules.Goals as goal

pub returns-in-UpcA-clause-none : goal.returns-in-UpcA-clause-none
returns-in-UpcA-clause-none c =
    none_from c.upca.result _ ((modules : List ℕ) → IsLabelSymbol c.args.self.now modules → ⊥)
    (λ none modules symbol. none modules (subst (λ label. IsLabelSymbol label modules) c.in-UpcA.is symbol))
    c.upca.ensures.none

pub returns-in-UpcE-clause-none : goal.returns-in-UpcE-clause-none
returns-in-UpcE-clause-none c =
    none_from c.upce.result _ ((modules : List ℕ) → IsLabelSymbol c.args.self.now modules → ⊥)
    (λ none modules symbol.
    let printed : IsPrintedUpce c.in-UpcE.gtin modules = subst (λ label. IsLabelSymbol label modules) c.in-UpcE.is symbol in
    none modules (symbol_of_upce c.in-UpcE.gtin modules printed))
    c.upce.ensures.none

pub returns-in-Gs1128-clause-none : goal.returns-in-Gs1128-clause-none
returns-in-Gs1128-clause-none c =
    none_from c.gs1128.result _ ((modules : List ℕ) → IsLabelSymbol c.args.self.now modules → ⊥)
    (λ none modules symbol. none modules (subst (λ label. IsLabelSymbol label modules) c.in-Gs1128.is symbol))
    c.gs1128.ensures.none

pub returns-in-Ean13-clause-none : goal.returns-in-Ean13-clause-none
returns-in-Ean13-clause-none c =
    none_from c.ean13_of.result _ ((modules : List ℕ) → IsLabelSymbol c.args.self.now modules → ⊥)
    (λ none modules symbol. none modules (subst (λ label. IsLabelSymbol label modules) c.in-Ean13.is symbol))
    c.ean13_of.ensures.none

pub returns-in-Ean8-clause-none : goal.returns-in-Ean8-clause-none
returns-in-Ean8-clause-none c =
    none_from c.ean8_of.result _ ((modules : List ℕ) → IsLabelSymbol c.args.self.now modules → ⊥)
    (λ none modules symbol. none modules (subst (λ label. IsLabelSymbol label modules) c.in-Ean8.is symbol))
    c.ean8_of.ensures.none
