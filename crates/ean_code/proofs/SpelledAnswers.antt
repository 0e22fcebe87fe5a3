-- What a reader answers to modules is one.
use Rattle.std.proofs.Common.{◌≡◌, ℕ, List, refl, sym, ap, subst, ◌∙◌}
use Rattle.ean_code.specs.declared.reading.Spelled.TheVariants.{NoPattern, BadCheck, Found}
use Rattle.ean_code.specs.Laws.{OneSpelled}
use Rattle.ean_code.specs.Spelling.{IsGtinOf}
use Rattle.ean_code.specs.Symbols.{IsNumberSymbol}
use Rattle.ean_code.specs.declared.kind.Kind.{Kind}
use Rattle.ean_code.proofs.EachKind.{owed}

same_digits : (kind : Kind) (ms ds es : List ℕ) → IsNumberSymbol kind ms ds → IsNumberSymbol kind ms es → ds ≡ es
same_digits kind ms ds es a b = sym ((owed kind).shown_is ms ds a) ∙ (owed kind).shown_is ms es b

same_gtin : (kind : Kind) (ds gtin other : List ℕ) → IsGtinOf kind ds gtin → IsGtinOf kind ds other → gtin ≡ other
same_gtin kind ds gtin other a b = a ∙ sym b

pub one_answer : OneSpelled
one_answer kind ms NoPattern NoPattern a b = refl
one_answer kind ms NoPattern BadCheck a b = absurd (a b.0 b.1)
one_answer kind ms NoPattern (Found gtin) a b = absurd (a b.0 b.1)
one_answer kind ms BadCheck NoPattern a b = absurd (b a.0 a.1)
one_answer kind ms BadCheck BadCheck a b = refl
one_answer kind ms BadCheck (Found gtin) a b =
    absurd (a.2 gtin (subst (λ ds. IsGtinOf kind ds gtin) (same_digits kind ms b.0 a.0 b.1 a.1) b.2) b.3)
one_answer kind ms (Found gtin) NoPattern a b = absurd (b a.0 a.1)
one_answer kind ms (Found gtin) BadCheck a b =
    absurd (b.2 gtin (subst (λ ds. IsGtinOf kind ds gtin) (same_digits kind ms a.0 b.0 a.1 b.1) a.2) a.3)
one_answer kind ms (Found gtin) (Found other) a b =
    ap Found (same_gtin kind b.0 gtin other (subst (λ ds. IsGtinOf kind ds gtin) (same_digits kind ms a.0 b.0 a.1 b.1) a.2) b.2)
