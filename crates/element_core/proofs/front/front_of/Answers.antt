use Rattle.std.proofs.Common.{◌∙◌, length, sym, ap, refl}
use Rattle.element_core.specs.inner.Families.{row_with}
use Rattle.element_core.specs.Fronts.{after_separator}
use Rattle.element_core.proofs.Shown.{IsShown, shown_as}
use Rattle.element_core.proofs.Listed.{shown_none, shown_first, first_within}
use Rattle.element_core.proofs.front.front_of.Goals as goal
use Rattle.element_core.proofs.front.front_of.Goals.{After-skip_separator-rest}

pub returns-in_err-family-clause-elements : goal.returns-in_err-family-clause-elements
returns-in_err-family-clause-elements c = rw c.from_residual.ensures (shown_none c.args.text.now (sym c.in_err-family.ensures.row))

seen : (c : After-skip_separator-rest) → IsShown (row_with c.in_ok-family.family c.args.text.now) c.args.text.now c.split_at.result.0.now
    c.value_of.result.0.now c.skip_separator-rest.result.now
seen c =
    shown_as (length c.in_ok-family.family.least.now) (row_with c.in_ok-family.family c.args.text.now) c.args.text.now c.split_at.result.0.now
    c.split_at.result.1.now c.value_of.result.0.now c.skip_separator-rest.result.now
    c.in_ok-family.ensures.within refl c.split_at.ensures.front c.split_at.ensures.back c.value_of.ensures.value
    (c.skip_separator-rest.ensures ∙ ap after_separator c.value_of.ensures.after)

pub returns-clause-elements : goal.returns-clause-elements
returns-clause-elements c =
    shown_first c.args.text.now (row_with c.in_ok-family.family c.args.text.now) (record { ai = c.split_at.result.0.now; value = c.value_of.result.0.now })
    c.skip_separator-rest.result.now
    (sym c.in_ok-family.ensures.row) (seen (goal.at.returns-clause-elements c).After-skip_separator-rest)

pub returns-clause-within : goal.returns-clause-within
returns-clause-within c =
    (first_within c.args.text.now (row_with c.in_ok-family.family c.args.text.now) c.split_at.result.0.now c.value_of.result.0.now
    c.skip_separator-rest.result.now (sym c.in_ok-family.ensures.row) (seen (goal.at.returns-clause-within c).After-skip_separator-rest)).0

pub returns-clause-some : goal.returns-clause-some
returns-clause-some c =
    (first_within c.args.text.now (row_with c.in_ok-family.family c.args.text.now) c.split_at.result.0.now c.value_of.result.0.now
    c.skip_separator-rest.result.now (sym c.in_ok-family.ensures.row) (seen (goal.at.returns-clause-some c).After-skip_separator-rest)).1
