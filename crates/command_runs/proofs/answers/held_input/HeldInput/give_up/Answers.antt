use Rattle.std.proofs.Common.{refl}
use Rattle.command_runs.proofs.answers.HeldBytes.{given_up}
use Rattle.command_runs.proofs.answers.held_input.HeldInput.give_up.Goals as goal

pub returns : goal.returns
returns g c =
    let i = c.args.self.now in
    (given_up i.bytes.items i.start i.end c.args.count i.ok.0 i.ok.1 c.requires, refl, refl)
