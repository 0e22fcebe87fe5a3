use Rattle.std.proofs.Common.{◌≡◌, ◌∙◌, ◌-◌, ◌∷◌, [], ◌++◌, ℕ, List, ap, append_assoc, sym}
use Rattle.std.proofs.lemmas.List.{map-append}
use Rattle.digits_core.specs.Digits.{AreAsciiDigits, ascii_of, ascii_of-digits_of, digits_of}
use Rattle.digits_core.proofs.DigitTexts.{digits-append}
use Rattle.shop_core.proofs.under.push_upce.Goals as goal

pub unreachable-requires : goal.unreachable-requires
unreachable-requires c =
    let spelled = c.requires.spelled in
    c.in-None.ensures.none spelled.0 spelled.1 spelled.2.spelling

pub returns : goal.returns
returns c =
    let old : List ℕ = c.args.digits.now.items in
    let six : List ℕ = c.in-Some.spelled.0 in
    let check : ℕ = c.in-Some.spelled.1 in
    let said = c.in-Some.ensures in
    let text : List ℕ = six ++ check ∷ [] in
    let digits : AreAsciiDigits text = digits-append six (check ∷ []) said.digits (said.check, tt) in
    let same : digits_of text ≡ digits_of six ++ (check - 48) ∷ [] = map-append (λ (b : ℕ). b - 48) six (check ∷ []) in
    let under : 48 ∷ text ≡ ascii_of (0 ∷ digits_of six ++ (check - 48) ∷ []) =
    ap (λ (t : List ℕ). 48 ∷ t) (sym (ascii_of-digits_of text digits) ∙ ap ascii_of same) in
    let pushed = c.push-in-Some-2.ensures ∙ ap (λ (t : List ℕ). t ++ check ∷ []) (c.push-in-Some.ensures ∙ ap (λ (t : List ℕ). t ++ six) c.push.ensures) in (
      48 ∷ text,
      (digits_of six, check - 48, said.some, under),
      pushed ∙ append_assoc (old ++ 48 ∷ []) six (check ∷ []) ∙ append_assoc old (48 ∷ []) text,
    )
