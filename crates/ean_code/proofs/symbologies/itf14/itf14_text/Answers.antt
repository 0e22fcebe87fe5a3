use Rattle.std.proofs.Common.{◌+◌, ◌∙◌, [], ◌∷◌, ◌++◌, sym, ap, subst, arith}
use Rattle.std.proofs.lemmas.List.{append_assoc}
use Rattle.digits_core.specs.Digits.{AreAsciiDigits}
use Rattle.ean_code.proofs.symbologies.Itf14Facts.{ascii_more, found_itf14, framed_pairs_of, pair_shown, text_more}
use Rattle.ean_code.proofs.symbologies.itf14.itf14_text.Goals as goal

pub returns-in_err-pairs-clause-none : goal.returns-in_err-pairs-clause-none
returns-in_err-pairs-clause-none c = rw c.from_residual.ensures (λ ds e. c.in_err-pairs.ensures.none _ (framed_pairs_of c.args.widths.now ds e))

pub returns-in_err-first-clause-none : goal.returns-in_err-first-clause-none
returns-in_err-first-clause-none c = rw c.from_residual-in_err-first.ensures (λ ds e.
    let shown = pair_shown c.args.widths.now c.in_ok-pairs.pairs.now ds c.loop-i.i c.in_ok-pairs.ensures.found e c.loop-i-test.true in
    c.in_err-first.ensures.none _ shown.0.0 shown.0.1 shown.1)

pub loop-i-preserved : goal.loop-i-preserved
loop-i-preserved c =
    let found = c.in_ok-first.ensures.found in
    let a = c.in_ok-first.first in
    let b = c.in_ok-first.second in
    let more = c.push-in-loop-i.ensures.items ∙ ap (λ t. t ++ (48 + b) ∷ []) c.push.ensures.items
    ∙ append_assoc c.loop-i.text.items ((48 + a) ∷ []) ((48 + b) ∷ []) in
    record {
      count = omega (arith, c.push.ensures.len, c.push-in-loop-i.ensures.len);
      valid = subst AreAsciiDigits (sym more) (ascii_more c.loop-i.text.items a b c.loop-i.invariant.valid found.0 found.1);
      read = text_more c.in_ok-pairs.pairs.now c.loop-i.text.items c.push-in-loop-i.new.self.items c.loop-i.i a b c.loop-i.invariant.count
          c.loop-i.invariant.read found.2 more;
    }

pub returns-clause-found : goal.returns-clause-found
returns-clause-found c =
    found_itf14 c.args.widths.now c.in_ok-pairs.pairs.now c.loop-i.text.items c.loop-i.i c.in_ok-pairs.ensures.found (omega (arith, c.loop-i.invariant.count))
    (omega (arith, c.loop-i-test.false)) c.loop-i.invariant.valid c.loop-i.invariant.read
