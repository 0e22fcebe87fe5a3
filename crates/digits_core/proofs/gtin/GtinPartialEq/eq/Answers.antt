use Rattle.std.proofs.Common.{◌≡◌, ◌∙◌, ap, sym, List, ℕ}
use Rattle.digits_core.specs.Digits.{AreAsciiDigits, ascii_of, ascii_of-digits_of, digits_of}
use Rattle.digits_core.proofs.gtin.GtinPartialEq.eq.Goals as goal

shown_again : (text ds : List ℕ) → AreAsciiDigits text → digits_of text ≡ ds → text ≡ ascii_of ds
shown_again text ds valid is = sym (ascii_of-digits_of text valid) ∙ ap ascii_of is

pub returns : goal.returns
returns c =
    let one = shown_again c.t1-1.inside.digits c.args.self.now c.t1-1.invariant.0 c.t1-1.view_is in
    let two = shown_again c.t2-1.inside.digits c.args.other.now c.t2-1.invariant.0 c.t2-1.view_is in
    rw (← one, ← two) c.eq.ensures
