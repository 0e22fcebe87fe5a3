use Rattle.std.proofs.Common.{◌≡◌, ◌==◌, ◌-◌, ◌∙◌, Bool, List, ℕ, arith, drop, length, take, true, ap, sym}
use Rattle.std.specs.List.{list_all}
use Rattle.digits_core.specs.Digits.{AreAsciiDigits, digits_of, padded}
use Rattle.digits_core.proofs.Zeros.{padded_from, text_from}
use Rattle.digits_core.proofs.gtin.Gtin.last_digits.Goals as goal

-- whether zeros stand before the last n of 14 digits, by the digits that the text shows
zeros_told : (n : ℕ) (text zeros ds : List ℕ) (told : Bool) → length text ≡ 14 → AreAsciiDigits text → digits_of text ≡ ds
    → zeros ≡ take (length text - n) text → told ≡ list_all (λ b. b == 48) zeros
    → ((told ≡ true → ds ≡ padded (drop (14 - n) ds)) × (ds ≡ padded (drop (14 - n) ds) → told ≡ true))
zeros_told n text zeros ds told long valid is front all =
    let both = rw is at (padded_from (14 - n) text long (omega arith) valid) in rw (all, front, long) both

pub returns-then-not-are_zeros-clause-some : goal.returns-then-not-are_zeros-clause-some
returns-then-not-are_zeros-clause-some g c =
    zeros_told g.row.N c.self.inside.digits c.in_ok-zeros.zeros.now c.args.self.now _ c.self.told c.self.invariant.0 c.self.view_is
    c.in_ok-zeros.ensures.cases.0 (sym c.if-not-are_zeros.true ∙ c.are_zeros.ensures)

pub returns-clause-some : goal.returns-clause-some
returns-clause-some g c =
    zeros_told g.row.N c.self.inside.digits c.in_ok-zeros.zeros.now c.args.self.now _ c.self.told c.self.invariant.0 c.self.view_is
    c.in_ok-zeros.ensures.cases.0 (sym c.if-not-are_zeros.false ∙ c.are_zeros.ensures)

pub returns-clause-value : goal.returns-clause-value
returns-clause-value g c =
    let text = c.self.inside.digits in
    let from = text_from (14 - g.row.N) text c.args.self.now c.self.invariant.0 c.self.view_is in
    c.in_ok-zeros.ensures.cases.1 ∙ ap (λ n. drop (n - g.row.N) text) c.self.told ∙ from
