use Rattle.clap.specs.Words.{found_of}
use Rattle.command_line.proofs.Flags.{flag_none, flag_some}
use Rattle.command_line.proofs.arguments.flag_named.Goals as goal

pub returns-clause-some : goal.returns-clause-some
returns-clause-some c = flag_some _ (found_of c.args.matches.now) c.args.name.now c.get_one.result c.get_one.ensures.none c.get_one.ensures.value

pub returns-clause-none : goal.returns-clause-none
returns-clause-none c = flag_none _ (found_of c.args.matches.now) c.args.name.now c.get_one.result c.get_one.ensures.value
