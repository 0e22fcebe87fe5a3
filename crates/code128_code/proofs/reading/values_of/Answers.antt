use Rattle.std.proofs.Common.{ℕ, List, arith, sym}
use Rattle.code128_code.proofs.SymbolParts.{check_slice, data_slice, stop_slice, symbol_of}
use Rattle.code128_code.proofs.OneCharacterList.{length-parts, start_part}
use Rattle.code128_code.proofs.reading.values_of.Goals as goal

pub returns-then-not-is_symbol_length-clause-none : goal.returns-then-not-is_symbol_length-clause-none
returns-then-not-is_symbol_length-clause-none c = λ s vs k e.
    let n = length-parts s vs k _ e in
    let some = e.some in
    let passes = c.is_symbol_length.ensures.1 (omega arith, omega arith) in
    let fails = c.if-not-is_symbol_length.true in cc

pub returns-then-not-is_stop-clause-none : goal.returns-then-not-is_stop-clause-none
returns-then-not-is_stop-clause-none c = λ s vs k e.
    let passes = c.is_stop.ensures.1 (stop_slice s vs k _ e) in
    let fails = c.if-not-is_stop.true in cc

pub returns-in_err-start-clause-none : goal.returns-in_err-start-clause-none
returns-in_err-start-clause-none c = rw c.from_residual.ensures (λ s vs k e.
    c.in_err-start.ensures.none s e.start_least e.start_greatest
    (sym (start_part s vs k _ e)))

pub returns-in_err-values-clause-none : goal.returns-in_err-values-clause-none
returns-in_err-values-clause-none c = rw c.from_residual-in_err-values.ensures (λ s vs k e.
    c.in_err-values.ensures.none vs e.valid (sym (data_slice s vs k _ e)))

pub returns-in_err-check-clause-none : goal.returns-in_err-check-clause-none
returns-in_err-check-clause-none c = rw c.from_residual-in_err-check.ensures (λ s vs k e.
    c.in_err-check.ensures.none k e.check_valid (sym (check_slice s vs k _ e)))

pub returns-clause-some : goal.returns-clause-some
returns-clause-some c =
    let ws : List ℕ = c.args.widths.now in
    let start = c.in_ok-start.ensures.found in
    let middle = c.in_ok-values.ensures.found in
    let check = c.in_ok-check.ensures.found in
    let long = c.is_symbol_length.ensures.0 c.if-not-is_symbol_length.false in
    symbol_of _ _ _ ws long.0 c.requires.0 start.0 start.1 middle.0 check.0 start.2 middle.1 check.1 (c.is_stop.ensures.0 c.if-not-is_stop.false)
