-- What `csv` reads next is the next record, or there is none.
use Rattle.std.proofs.Common.{Bool, Ok, Result, false, inl, true, ◌∙◌, ◌≡◌}
use Rattle.csv.specs.Reading.{default_config, strip_bom}
use Rattle.csv.specs.Records.{fields_of}
use Rattle.csv.specs.declared.parser.State.TheVariants as st
use Rattle.csv.proofs.ReadFacts.{rows-end, rows-more}
use Rattle.csv_records.specs.declared.input.fault.RecordRefusal.{RecordRefusal}
use Rattle.csv_records.specs.input.Reading.{left_in}
use Rattle.csv_records.proofs.Reaching.{are_records}
use Rattle.csv_records.proofs.input.records.Records.read.Goals as goal

-- `Ok` holds one answer
same : (a b : Bool) → ◌≡◌ {A = Result Bool RecordRefusal} (Ok a) (Ok b) → a ≡ b
same a b is = cc is

pub returns-in-Ok-clause-more : goal.returns-in-Ok-clause-more
returns-in-Ok-clause-more c = λ is bytes rows h.
    let found = same c.in-Ok.is_found true is in
    let fields = fields_of c.read_byte_record.new.row in
    let s = rw found at (c.in-Ok.ensures.reads h.plain h.ready) in
    let more = rows-more left_in c.args.self.now.reader c.read_byte_record.new.self fields default_config st.StartRecord
    (strip_bom bytes) h.rest rows h.config h.source h.reached s in
    record {
      plain = s.3 ∙ h.plain;
      ready = inl (c.in-Ok.ensures.ready h.plain);
      flexible = c.in-Ok.ensures.flexible ∙ h.flexible;
      config = s.2 ∙ h.config;
      rest = more.0;
      source = more.1;
      reached = more.2;
    }

pub returns-in-Ok-clause-end : goal.returns-in-Ok-clause-end
returns-in-Ok-clause-end c = λ is bytes rows h.
    let found = same c.in-Ok.is_found false is in
    let s = rw found at (c.in-Ok.ensures.reads h.plain h.ready) in
    are_records default_config (strip_bom bytes) rows (
      c.args.self.now.reader.state,
      h.rest,
      h.reached,
      rows-end left_in c.args.self.now.reader c.read_byte_record.new.self
          (fields_of c.read_byte_record.new.row) default_config h.rest h.config h.source s,
    )
