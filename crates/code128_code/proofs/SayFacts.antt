-- The text of a symbol is that of its modules.
use Rattle.std.proofs.Common.{◌≡◌, ℕ, List, [], ◌∷◌, Ok, Err, refl, sym, ap, ap₂, subst, ◌∙◌, eq-eqb, inl, inr}
use Rattle.std.proofs.lemmas.Bool.{cases_eq, ne_eqb}
use Rattle.code128_code.specs.declared.fault.Code128Fault.TheVariants as faults
use Rattle.code128_code.specs.Laws.{ModulesSay}
use Rattle.code128_code.specs.Symbols.{IsCode128Symbol, mod103}
use Rattle.code128_code.specs.Texts.{IsGs1Symbol, gs1_text, set_of, symbol_text, text_from}
use Rattle.code128_code.proofs.OneCharacterList.{one_reading}

gs1_symbol : (s c : ℕ) (vs ms text : List ℕ) → IsCode128Symbol s vs c ms → c ≡ mod103 s vs → gs1_text (set_of s) vs ≡ Ok text → IsGs1Symbol ms text
gs1_symbol s c [] ms text e right h = cc
gs1_symbol s c (v ∷ vs) ms text e right h =
    elim (cases_eq v 102) [
      | inl first ↦
          let all : v ∷ vs ≡ 102 ∷ vs = ap (λ n. n ∷ vs) first in
          let test : gs1_text (set_of s) (v ∷ vs) ≡ text_from (set_of s) vs = rw (eq-eqb v 102 first) refl in
          record {
            start = s;
            values = vs;
            symbol = subst (λ xs. IsCode128Symbol s xs (mod103 s xs) ms) all (subst (λ n. IsCode128Symbol s (v ∷ vs) n ms) right e);
            says = sym test ∙ h;
          }
      | inr other ↦ absurd (let none : gs1_text (set_of s) (v ∷ vs) ≡ Err faults.NotGs1 =
          rw (ne_eqb v 102 other) refl in let both : Err faults.NotGs1 ≡ Ok text = sym none ∙ h in cc)
    ]

said : (s c : ℕ) (vs ms text : List ℕ) → IsCode128Symbol s vs c ms → symbol_text s vs c ≡ Ok text → IsGs1Symbol ms text
said s c vs ms text e h =
    elim (cases_eq c (mod103 s vs)) [
      | inl right ↦
          let test : symbol_text s vs c ≡ gs1_text (set_of s) vs = rw (eq-eqb c (mod103 s vs) right) refl in
          gs1_symbol s c vs ms text e right (sym test ∙ h)
      | inr wrong ↦ absurd (let none : symbol_text s vs c ≡ Err faults.CheckCharacter =
          rw (ne_eqb c (mod103 s vs) wrong) refl in let both : Err faults.CheckCharacter ≡ Ok text = sym none ∙ h in cc)
    ]

told : (s c : ℕ) (vs ms text : List ℕ) → IsCode128Symbol s vs c ms → IsGs1Symbol ms text → symbol_text s vs c ≡ Ok text
told s c vs ms text e g =
    let values : List ℕ = 102 ∷ g.values in
    let same = one_reading s g.start c (mod103 g.start values) vs values ms e g.symbol in
    let right : symbol_text g.start values (mod103 g.start values) ≡ text_from (set_of g.start) g.values =
    rw (eq-eqb (mod103 g.start values) (mod103 g.start values) refl) refl in
    ap₂ (λ n xs. symbol_text n xs c) same.0 same.1 ∙ ap (symbol_text g.start values) same.2 ∙ right ∙ g.says

pub modules_say : ModulesSay
modules_say = λ s c vs ms text e. (said s c vs ms text e, told s c vs ms text e)
