-- Records that were read: they are the first records of the bytes, and at most one more than there are bytes.
use Rattle.std.proofs.Common.{List, arith, length, ◌+◌, ◌++◌, ◌≡◌, ◌≤◌, ℕ}
use Rattle.csv.specs.Reading.{default_config, strip_bom}
use Rattle.csv.specs.declared.parser.State.TheVariants as st
use Rattle.csv_records.specs.input.Reading.{HasRead}
use Rattle.csv_records.specs.input.Records.{Fields, records_of}
use Rattle.csv_records.specs.declared.input.records.Records.{Records}
use Rattle.csv_records.proofs.Reaching.{are_front, reached_few, stripped_short}

-- the records of the bytes begin with those that were read
pub read_front : (bytes : List ℕ) (r : Records) (rows : List Fields) → HasRead bytes r rows → (more : List Fields) × (records_of bytes ≡ rows ++ more)
read_front bytes r rows h = are_front default_config r.reader.state (strip_bom bytes) h.rest rows h.reached

-- at most one record more was read than there are bytes
pub read_few : (bytes : List ℕ) (r : Records) (rows : List Fields) → HasRead bytes r rows → length rows ≤ length bytes + 1
read_few bytes r rows h =
    let few = reached_few default_config rows st.StartRecord r.reader.state (strip_bom bytes) h.rest h.reached in
    let short = stripped_short bytes in
    omega (arith, few, short)
