use Rattle.std.proofs.Common.{◌∙◌, sym}
use Rattle.shop_core.specs.Drawings.{TellsText, field_number, text_of}
use Rattle.shop_core.specs.declared.part.Field.{Field}
use Rattle.shop_core.specs.declared.part.Field.TheVariants.{Name, Price, OldPrice, UnitPrice, Deposit, BestBefore, Batch, Lines, Digits}
use Rattle.shop_core.proofs.texts.tell_all.Goals as goal

all_fields : (P : Field → Type 0) → P Name → P Price → P OldPrice → P UnitPrice → P Deposit → P BestBefore → P Batch → P Lines → P Digits → (f : Field) → P f
all_fields P a b c d e f g h i Name = a
all_fields P a b c d e f g h i Price = b
all_fields P a b c d e f g h i OldPrice = c
all_fields P a b c d e f g h i UnitPrice = d
all_fields P a b c d e f g h i Deposit = e
all_fields P a b c d e f g h i BestBefore = f
all_fields P a b c d e f g h i Batch = g
all_fields P a b c d e f g h i Lines = h
all_fields P a b c d e f g h i Digits = i

pub returns : goal.returns
returns c =
    let P : Field → Type 0 = λ f. TellsText c.args.parts.now (field_number f) (text_of c.args.article.now f) in (
      (λ yes. all_fields P (c.tells_field.ensures.0 (cc)) (c.tells_field-2.ensures.0 (cc)) (c.tells_field-3.ensures.0 (cc)) (c.tells_field-4.ensures.0 (cc))
          (c.tells_field-5.ensures.0 (cc)) (c.tells_field-6.ensures.0 (cc)) (c.tells_field-7.ensures.0 (cc)) (c.tells_field-8.ensures.0 (cc)) (c.tells_field-9.ensures.0 yes)),
      (λ all. c.tells_field-9.ensures.1 (all Digits)),
    )

pub returns-then-not-tells_field : goal.returns-then-not-tells_field
returns-then-not-tells_field c = ((λ never. cc), (λ all. sym c.if-not-tells_field.true ∙ c.tells_field.ensures.1 (all Name)))

pub returns-then-not-tells_field-2 : goal.returns-then-not-tells_field-2
returns-then-not-tells_field-2 c = ((λ never. cc), (λ all. sym c.if-not-tells_field-2.true ∙ c.tells_field-2.ensures.1 (all Price)))

pub returns-then-not-tells_field-3 : goal.returns-then-not-tells_field-3
returns-then-not-tells_field-3 c = ((λ never. cc), (λ all. sym c.if-not-tells_field-3.true ∙ c.tells_field-3.ensures.1 (all OldPrice)))

pub returns-then-not-tells_field-4 : goal.returns-then-not-tells_field-4
returns-then-not-tells_field-4 c = ((λ never. cc), (λ all. sym c.if-not-tells_field-4.true ∙ c.tells_field-4.ensures.1 (all UnitPrice)))

pub returns-then-not-tells_field-5 : goal.returns-then-not-tells_field-5
returns-then-not-tells_field-5 c = ((λ never. cc), (λ all. sym c.if-not-tells_field-5.true ∙ c.tells_field-5.ensures.1 (all Deposit)))

pub returns-then-not-tells_field-6 : goal.returns-then-not-tells_field-6
returns-then-not-tells_field-6 c = ((λ never. cc), (λ all. sym c.if-not-tells_field-6.true ∙ c.tells_field-6.ensures.1 (all BestBefore)))

pub returns-then-not-tells_field-7 : goal.returns-then-not-tells_field-7
returns-then-not-tells_field-7 c = ((λ never. cc), (λ all. sym c.if-not-tells_field-7.true ∙ c.tells_field-7.ensures.1 (all Batch)))

pub returns-then-not-tells_field-8 : goal.returns-then-not-tells_field-8
returns-then-not-tells_field-8 c = ((λ never. cc), (λ all. sym c.if-not-tells_field-8.true ∙ c.tells_field-8.ensures.1 (all Lines)))
