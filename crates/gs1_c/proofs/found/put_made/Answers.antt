use Rattle.std.proofs.Common.{◌≡◌, ◌∙◌, ◌+◌, ◌<◌, ◌≤◌, ap, length, subst}
use Rattle.digits_core.specs.Buffers.{pasted}
use Rattle.gs1_c.proofs.found.put_made.Goals as goal

pub returns-clause-end : goal.returns-clause-end
returns-clause-end c = c.put_fitting.ensures.end ∙ ap (λ line. c.args.at + length line) (c.as_slice.ensures.value ∙ c.line_of.ensures.line)

pub returns-clause-put : goal.returns-clause-put
returns-clause-put c =
    let out = c.args.out.now in
    let same = c.as_slice.ensures.value ∙ c.line_of.ensures.line in
    subst (λ line. c.args.at + length line ≤ length out → c.put_fitting.new.out ≡ pasted out c.args.at line) same c.put_fitting.ensures.put

pub returns-clause-unchanged : goal.returns-clause-unchanged
returns-clause-unchanged c =
    let out = c.args.out.now in
    let same = c.as_slice.ensures.value ∙ c.line_of.ensures.line in
    subst (λ line. length out < c.args.at + length line → c.put_fitting.new.out ≡ out) same c.put_fitting.ensures.unchanged
