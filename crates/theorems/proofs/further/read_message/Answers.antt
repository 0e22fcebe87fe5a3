use Rattle.std.proofs.Common.{subst, sym}
use Rattle.message_core.specs.Faults.{heard}
use Rattle.message_core.specs.Messages.{IsMessage}
use Rattle.theorems.proofs.further.read_message.Goals as goal

pub returns-clause-one : goal.returns-clause-one
returns-clause-one c head told =
    let r = c.read_message.result in
    let is = c.read_message.ensures in (
      (λ other. c.one_message.ensures c.args.year c.args.text.now head r.head told (heard r.said) other is),
      (λ same. subst (λ h. IsMessage c.args.year c.args.text.now h told) (sym same.0) (subst (λ t. IsMessage c.args.year c.args.text.now r.head t) (sym same.1) is)),
    )
