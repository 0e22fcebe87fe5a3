use Rattle.clap.specs.Words.{found_of}
use Rattle.command_line.proofs.Matches.{number_none, number_some}
use Rattle.command_line.proofs.arguments.number_named.Goals as goal

pub returns-clause-some : goal.returns-clause-some
returns-clause-some c = number_some 16 (found_of c.args.matches.now) c.args.name.now c.get_one.result c.get_one.ensures.none c.get_one.ensures.value

pub returns-clause-none : goal.returns-clause-none
returns-clause-none c = number_none 16 (found_of c.args.matches.now) c.args.name.now c.get_one.result c.get_one.ensures.value
