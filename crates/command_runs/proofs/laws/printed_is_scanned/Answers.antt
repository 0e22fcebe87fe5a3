-- Of what is printed a scan answers the labels, and nothing else.
use Rattle.command_runs.proofs.LabelReadings.{labels_say}
use Rattle.command_runs.proofs.ScanOfPrinted.{printed_is_answered, printed_is_scanned}
use Rattle.command_runs.proofs.laws.printed_is_scanned.Goals as goal

pub returns-clause-answered : goal.returns-clause-answered
returns-clause-answered c =
    let say = labels_say c.gtins_are_checked.ensures c.gtin_reads.ensures c.canonical_reads.ensures in
    printed_is_answered say c.printed_is_read.ensures c.printed_answer.ensures c.scanned_once.ensures

pub returns-clause-scanned : goal.returns-clause-scanned
returns-clause-scanned c =
    let say = labels_say c.gtins_are_checked.ensures c.gtin_reads.ensures c.canonical_reads.ensures in
    printed_is_scanned say c.printed_is_read.ensures c.printed_answer.ensures c.scanned_once.ensures
