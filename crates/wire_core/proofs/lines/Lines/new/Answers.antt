use Rattle.std.proofs.Common.{List, ap, false, ℕ}
use Rattle.wire_core.specs.Lines.{Held}
use Rattle.wire_core.proofs.lines.Lines.new.Goals as goal

pub returns : goal.returns
returns c =
    let with_rest : List ℕ → Held = λ rest. record { rest = rest; is_cut = false; has_ended = false } in
    ap with_rest c.in_ok-with_capacity.ensures.items
