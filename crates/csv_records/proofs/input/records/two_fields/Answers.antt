-- A record of two fields is these two.
use Rattle.std.proofs.Common.{◌∙◌, sym}
use Rattle.csv.specs.Records.{fields_of}
use Rattle.csv_records.proofs.input.TwoFields.{pair_has_first, pair_has_second, two_fields_are}
use Rattle.csv_records.proofs.input.records.two_fields.Goals as goal

pub returns-in_err-get-clause-none : goal.returns-in_err-get-clause-none
returns-in_err-get-clause-none c = rw c.from_residual.ensures (λ two. pair_has_first (fields_of c.args.fields.now) two c.in_err-get.ensures.value)

pub returns-in_err-get-2-clause-none : goal.returns-in_err-get-2-clause-none
returns-in_err-get-2-clause-none c = rw c.from_residual-in_err-get-2.ensures
    (λ two. pair_has_second (fields_of c.args.fields.now) two c.in_err-get-2.ensures.value)

pub returns-clause-some : goal.returns-clause-some
returns-clause-some c =
    two_fields_are (fields_of c.args.fields.now) c.in_ok-get.field-0.now c.in_ok-get-2.field-0.now (sym c.len.ensures ∙ c.if-len-ne2.false)
    c.in_ok-get.ensures.value c.in_ok-get-2.ensures.value
