-- The parts that a symbol is read by and drawn of.
use Rattle.std.proofs.Common.{◌≡◌, ℕ, ◌+◌, ◌-◌, ◌*◌, ◌≤◌, List, [], ◌++◌, length, take, drop, sym, ap, ap₂, ◌∙◌, arith}
use Rattle.std.specs.List.{flat_map}
use Rattle.std.proofs.lemmas.List.{append_assoc, drop-drop, length-drop, length-take-le, take-append-drop}
use Rattle.code128_code.specs.Characters.{pattern, stop}
use Rattle.code128_code.specs.Symbols.{AreValues, IsCode128Symbol, symbol_widths}
use Rattle.code128_code.proofs.DataFacts.{rest_of}
use Rattle.code128_code.proofs.OneCharacterList.{check_part, data_part, length-data, length-parts, stop_part, widths-parts}

module _ (s : ℕ) (vs : List ℕ) (c : ℕ) (ws : List ℕ) (e : IsCode128Symbol s vs c ws) where
  pub stop_slice : take (length ws - (length ws - 7)) (drop (length ws - 7) ws) ≡ stop
  stop_slice = let n = length-parts s vs c ws e in rest_of ws (length ws - 7) ∙ stop_part s vs c ws e (length ws - 7) (omega arith)

  pub data_slice : take (length ws - 7 - 6 - 6) (drop 6 ws) ≡ flat_map pattern vs
  data_slice = let n = length-parts s vs c ws e in data_part s vs c ws e (length ws - 7 - 6 - 6) (omega arith)

  pub check_slice : take (length ws - 7 - (length ws - 7 - 6)) (drop (length ws - 7 - 6) ws) ≡ pattern c
  check_slice =
      let n = length-parts s vs c ws e in
      let six : length ws - 7 - (length ws - 7 - 6) ≡ 6 = omega arith in
      ap (λ k. take k (drop (length ws - 7 - 6) ws)) six ∙ check_part s vs c ws e (length ws - 7 - 6) (omega arith)

-- parts that are right make a symbol
pub symbol_of : (s : ℕ) (vs : List ℕ) (c : ℕ) (ws : List ℕ) → 25 ≤ length ws → length ws ≤ 595 → 103 ≤ s → s ≤ 105 → AreValues vs → c ≤ 102
    → pattern s ≡ take 6 ws
    → flat_map pattern vs ≡ take (length ws - 7 - 6 - 6) (drop 6 ws)
    → pattern c ≡ take (length ws - 7 - (length ws - 7 - 6)) (drop (length ws - 7 - 6) ws)
    → take (length ws - (length ws - 7)) (drop (length ws - 7) ws) ≡ stop
    → IsCode128Symbol s vs c ws
symbol_of s vs c ws least most low high valid small start values check end =
    let m = length ws - 7 - 6 - 6 in
    let k = length ws - 7 - 6 in
    let all : length (drop 6 ws) ≡ length ws - 6 = length-drop 6 ws in
    let part : length (take m (drop 6 ws)) ≡ m = length-take-le m (drop 6 ws) (omega arith) in
    let count : length vs * 6 ≡ m = sym (length-data vs valid) ∙ ap length values ∙ part in
    let six : length ws - 7 - (length ws - 7 - 6) ≡ 6 = omega arith in
    let at : 6 + m ≡ k = omega arith in
    let past : k + 6 ≡ length ws - 7 = omega arith in
    let last : drop 6 (drop k ws) ≡ stop = drop-drop 6 k ws ∙ ap (λ n. drop n ws) past ∙ sym (rest_of ws (length ws - 7)) ∙ end in
    let third : drop k ws ≡ pattern c ++ stop =
    sym (take-append-drop 6 (drop k ws)) ∙ ap₂ (λ xs ys. xs ++ ys) (sym (check ∙ ap (λ n. take n (drop k ws)) six)) last in
    let second : drop 6 ws ≡ flat_map pattern vs ++ (pattern c ++ stop) =
    sym (take-append-drop m (drop 6 ws)) ∙ ap₂ (λ xs ys. xs ++ ys) (sym values) (drop-drop m 6 ws ∙ ap (λ n. drop n ws) at ∙ third) in
    let whole : ws ≡ pattern s ++ (flat_map pattern vs ++ (pattern c ++ stop)) =
    sym (take-append-drop 6 ws) ∙ ap₂ (λ xs ys. xs ++ ys) (sym start) second in
    record {
      start_least = low;
      start_greatest = high;
      some = omega arith;
      few = omega arith;
      valid = valid;
      check_valid = small;
      widths = whole ∙ sym (widths-parts s vs c);
    }

-- parts drawn one after another are the widths of a symbol
pub drawn : (s : ℕ) (vs : List ℕ) (c : ℕ) (a b d e : List ℕ) → a ≡ [] ++ pattern s → b ≡ a ++ flat_map pattern vs → d ≡ b ++ pattern c → e ≡ d ++ stop → e
    ≡ symbol_widths s vs c
drawn s vs c a b d e p q r t =
    t
    ∙ ap (λ xs. xs ++ stop) (r ∙ ap (λ xs. xs ++ pattern c) (q ∙ ap (λ xs. xs ++ flat_map pattern vs) p))
    ∙ append_assoc (pattern s ++ flat_map pattern vs) (pattern c) stop
    ∙ append_assoc (pattern s) (flat_map pattern vs) (pattern c ++ stop)
    ∙ sym (widths-parts s vs c)
