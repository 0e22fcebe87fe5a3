use Rattle.std.proofs.Common.{◌++◌, ◌∷◌, [], ◌∙◌, ap, sym}
use Rattle.code128_code.specs.Texts.{before}
use Rattle.code128_code.proofs.ValuesSay.{pushed, shifted_step}
use Rattle.code128_code.proofs.texts.take_shifted.Goals as goal

pub returns-clause-ok : goal.returns-clause-ok
returns-clause-ok c = λ rest.
    let text = c.args.reader.now.text.items in
    pushed text _ c.push.new.self.items _ (c.push.ensures.items ∙ ap (λ b. text ++ b ∷ []) c.byte_after_shift.ensures)
    ∙ ap (before text) (sym (shifted_step c.args.reader.now.set c.args.reader.now.shifted c.args.value rest c.requires.shifted c.if-value-ge96.false))
