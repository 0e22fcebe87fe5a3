use Rattle.theorems.proofs.what_print_writes_scan_reads.Goals as goal

pub returns : goal.returns
returns c = λ scan print rows labels bytes text printed. c.printed_is_scanned.ensures.scanned scan print rows labels bytes printed text
