use Rattle.std.proofs.Common.{◌∙◌, ◌+◌, ℕ, List, ap, arith, sum, take}
use Rattle.scan_core.specs.Bits.{dots_at}
use Rattle.scan_core.specs.DotRuns.{runs_of_dots}
use Rattle.scan_core.proofs.RowParts.{part_moves, part_of, row_of_dots}
use Rattle.scan_core.proofs.RowFacts.{row_short}
use Rattle.scan_core.proofs.dot_symbols.Section.go_on.Goals as goal

pub slice_bounds-total_dots-end : goal.slice_bounds-total_dots-end
slice_bounds-total_dots-end c =
    let m = part_moves c.args.bits.now c.args.width c.args.self.now c.requires.few c.requires.part c.requires.more in
    rw c.as_slice.ensures.value m.there

pub total_dots-requires : goal.total_dots-requires
total_dots-requires c =
    let m = part_moves c.args.bits.now c.args.width c.args.self.now c.requires.few c.requires.part c.requires.more in
    let most = m.at_most in
    let few = c.requires.few in
    rw c.as_slice.ensures.value (omega arith)

pub overflow_add-self : goal.overflow_add-self
overflow_add-self c =
    let m = part_moves c.args.bits.now c.args.width c.args.self.now c.requires.few c.requires.part c.requires.more in
    let most = m.at_most in
    let few = c.requires.few in
    let total = c.total_dots.ensures ∙ ap (λ (ws : List ℕ). sum (take 600 ws)) c.as_slice.ensures.value in omega arith

pub overflow_add-self-2 : goal.overflow_add-self-2
overflow_add-self-2 c =
    let m = part_moves c.args.bits.now c.args.width c.args.self.now c.requires.few c.requires.part c.requires.more in
    let within = m.within in
    let row = row_of_dots c.args.bits.now c.args.width c.requires.few in
    let short = row_short (runs_of_dots (dots_at c.args.bits.now 0 c.args.width)) row.0 in omega arith

pub overflow_sub-width : goal.overflow_sub-width
overflow_sub-width c =
    let m = part_moves c.args.bits.now c.args.width c.args.self.now c.requires.few c.requires.part c.requires.more in
    let most = m.at_most in
    let total = c.total_dots.ensures ∙ ap (λ (ws : List ℕ). sum (take 600 ws)) c.as_slice.ensures.value in omega arith

pub first_runs-self-requires-clause-within : goal.first_runs-self-requires-clause-within
first_runs-self-requires-clause-within c =
    let m = part_moves c.args.bits.now c.args.width c.args.self.now c.requires.few c.requires.part c.requires.more in
    let most = m.at_most in
    let enough = c.requires.enough in
    let total = c.total_dots.ensures ∙ ap (λ (ws : List ℕ). sum (take 600 ws)) c.as_slice.ensures.value in omega arith

pub returns-clause-part : goal.returns-clause-part
returns-clause-part c =
    let m = part_moves c.args.bits.now c.args.width c.args.self.now c.requires.few c.requires.part c.requires.more in
    let total = c.total_dots.ensures ∙ ap (λ (ws : List ℕ). sum (take 600 ws)) c.as_slice.ensures.value in
    let light = c.requires.part.light in
    part_of c.args.bits.now c.args.width (c.args.self.now.before + 600) (c.args.self.now.at + c.total_dots.result) c.first_runs-self.result c.requires.few
    (omega arith) m.within (ap (λ k. c.args.self.now.at + k) total ∙ m.begins) c.first_runs-self.ensures
