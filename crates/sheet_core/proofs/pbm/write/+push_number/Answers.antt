use Rattle.std.proofs.Common.{◌≡◌, ◌≤◌, ◌<◌, ◌^◌, ◌+◌, ◌/◌, ◌%◌, ◌++◌, ◌∷◌, [], ℕ, sym, ap, ◌∙◌, append_assoc, arith, length, length-append}
use Rattle.std.specs.Fmt.{decimal}
use Rattle.std.proofs.lemmas.Fmt.{decimal_digit, decimal_step}
use Rattle.sheet_core.proofs.pbm.write.«+push_number».Goals as goal
use Rattle.sheet_core.proofs.pbm.write.«+push_number».Goals.{then-number-ge10, else-number-ge10}

-- one digit more
longer : (n : ℕ) → 10 ≤ n → n < 2 ^ 64 → length (decimal n) ≡ length (decimal (n / 10)) + 1
longer n h k = ap length (decimal_step n h k) ∙ length-append (decimal (n / 10)) ((48 + n % 10) ∷ [])

pub push_number-requires : goal.push_number-requires
push_number-requires t c = let l = longer c.args.number (omega arith) (omega arith) in (omega arith, omega arith)

pub push-requires : goal.push-requires
push-requires t c =
    elim c.if-number-ge10.branch [
      | then-number-ge10 w ↦
          let l = longer c.args.number w.if-number-ge10.true (omega arith) in
          let n = length-append c.args.text.now.items (decimal (c.args.number / 10)) in
          let items = ap length (w.push_number.ensures) in
          let r = c.requires in
          (omega arith, rw w.text-is (omega arith))
      | else-number-ge10 w ↦
          let d = ap length (decimal_digit c.args.number w.if-number-ge10.false) in
          let r = c.requires in
          (omega arith, rw w.text-is (omega arith))
    ]

pub returns : goal.returns
returns t c =
    c.push.ensures.items
    ∙ elim c.if-number-ge10.branch [
      | then-number-ge10 w ↦
          rw w.text-is (
          ap (λ text. text ++ (48 + c.args.number % 10) ∷ []) w.push_number.ensures
          ∙ append_assoc c.args.text.now.items (decimal (c.args.number / 10)) ((48 + c.args.number % 10) ∷ [])
          ∙ ap (λ digits. c.args.text.now.items ++ digits) (sym (decimal_step c.args.number w.if-number-ge10.true (omega arith))))
      | else-number-ge10 w ↦
          rw w.text-is (
          ap (λ d. c.args.text.now.items ++ (48 + d) ∷ []) (let e : c.args.number % 10 ≡ c.args.number = let low = w.if-number-ge10.false in omega arith in e)
          ∙ ap (λ digits. c.args.text.now.items ++ digits) (sym (decimal_digit c.args.number (let low = w.if-number-ge10.false in omega arith))))
    ]
