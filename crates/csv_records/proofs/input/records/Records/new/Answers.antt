-- A new reader of `csv` has read none of the bytes.
use Rattle.std.proofs.Common.{◌∙◌, inr, refl, sym}
use Rattle.csv.specs.Reading.{Reached, strip_bom}
use Rattle.csv_records.proofs.input.records.Records.new.Goals as goal

pub returns : goal.returns
unfolding Reached
returns c =
    let fr = c.from_reader-reader.ensures in
    let flexible = c.flexible.ensures in
    let named = c.has_headers.ensures in
    record {
      plain = rw (flexible, named) at fr.trim ∙ c.new.ensures.trim;
      ready = inr (inr (rw (flexible, named) at fr.has_headers, fr.headers));
      flexible = rw flexible at fr.flexible;
      config = rw (flexible, named) at fr.config ∙ c.new.ensures.config;
      rest = strip_bom c.args.bytes.items;
      source = rw (c.new-2.ensures.position, c.new-2.ensures.inner) at fr.source;
      reached = (sym fr.state, refl);
    }
