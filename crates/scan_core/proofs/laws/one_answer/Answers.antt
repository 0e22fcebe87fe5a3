use Rattle.scan_core.proofs.AnswerFacts.{one_answer as law}
use Rattle.scan_core.proofs.laws.one_answer.Goals as goal

pub returns : goal.returns
returns c =
    law (record {
      symbols = record { ean = c.kind_is_one_way.ensures; code = c.one_way.ensures; measures = c.measures.ensures };
      numbers = c.one_list_of_digits.ensures;
      codes = c.one_reading.ensures;
      texts = c.one_list_or_fault.ensures;
    })
