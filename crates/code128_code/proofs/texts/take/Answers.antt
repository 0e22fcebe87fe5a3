use Rattle.std.proofs.Common.{◌+◌, ◌/◌, ◌%◌, ◌++◌, ◌∷◌, [], ◌∙◌, ap, sym, append_assoc}
use Rattle.code128_code.specs.inner.Steps.{text_by}
use Rattle.code128_code.specs.Texts.{before, two_digits}
use Rattle.code128_code.specs.declared.meanings.Meaning.TheVariants.{Byte, Digits, Latch, Shift}
use Rattle.code128_code.proofs.ValuesSay.{plain_step, pushed}
use Rattle.code128_code.proofs.texts.take.Goals as goal

pub returns-in-Byte-clause-ok : goal.returns-in-Byte-clause-ok
returns-in-Byte-clause-ok c = λ rest.
    let reader = c.args.reader.now in
    pushed reader.text.items (c.in-Byte.byte ∷ []) c.push.new.self.items _ c.push.ensures.items
    ∙ ap (λ shift. before reader.text.items (before (c.in-Byte.byte ∷ []) (text_by reader.set shift rest))) c.if-reader.false
    ∙ ap (before reader.text.items) (sym (plain_step reader.set reader.shifted c.args.value rest (Byte c.in-Byte.byte) c.if-reader.false
    (sym c.meaning_of.ensures ∙ c.in-Byte.is)))

pub returns-in-Digits-clause-ok : goal.returns-in-Digits-clause-ok
returns-in-Digits-clause-ok c = λ rest.
    let reader = c.args.reader.now in
    let n = c.in-Digits.number in
    pushed reader.text.items (two_digits n) c.push-in-Digits-2.new.self.items _
    (c.push-in-Digits-2.ensures.items ∙ ap (λ t. t ++ (48 + n % 10) ∷ []) c.push-in-Digits.ensures.items
    ∙ append_assoc reader.text.items ((48 + n / 10) ∷ []) ((48 + n % 10) ∷ []))
    ∙ ap (λ shift. before reader.text.items (before (two_digits n) (text_by reader.set shift rest))) c.if-reader.false
    ∙ ap (before reader.text.items) (sym (plain_step reader.set reader.shifted c.args.value rest (Digits n) c.if-reader.false
    (sym c.meaning_of.ensures ∙ c.in-Digits.is)))

pub returns-in-Latch-clause-ok : goal.returns-in-Latch-clause-ok
returns-in-Latch-clause-ok c = λ rest.
    let reader = c.args.reader.now in
    let set = c.in-Latch.set in
    ap (λ shift. before reader.text.items (text_by set shift rest)) c.if-reader.false
    ∙ ap (before reader.text.items) (sym (plain_step reader.set reader.shifted c.args.value rest (Latch set) c.if-reader.false
    (sym c.meaning_of.ensures ∙ c.in-Latch.is)))

pub returns-in-Shift-clause-ok : goal.returns-in-Shift-clause-ok
returns-in-Shift-clause-ok c = λ rest.
    let reader = c.args.reader.now in
    ap (before reader.text.items) (sym (plain_step reader.set reader.shifted c.args.value rest Shift c.if-reader.false
    (sym c.meaning_of.ensures ∙ c.in-Shift.is)))
