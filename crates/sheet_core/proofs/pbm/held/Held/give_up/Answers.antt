use Rattle.std.proofs.Common.{◌∙◌, ap, arith, drop, length, subst, sym, ◌≤◌}
use Rattle.sheet_core.proofs.pbm.HeldFacts.{given_up}
use Rattle.sheet_core.proofs.pbm.held.Held.give_up.Goals as goal

pub returns : goal.returns
returns c =
    let h = c.self.inside in
    given_up h.bytes.items h.start h.end c.args.count c.self.invariant.0 c.self.invariant.1 (subst (λ xs. c.args.count ≤ length xs) (sym c.self.view_is) c.requires)
    ∙ ap (drop c.args.count) c.self.view_is
