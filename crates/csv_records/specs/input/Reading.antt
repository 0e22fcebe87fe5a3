-- Records that are read one after another.
use Rattle.std.specs.Prelude.{◌≡◌, ℕ, List, Option, Some, true}
use Rattle.std.specs.Io.Cursor.{cursor_remaining}
use Rattle.std.specs.declared.io.impls.Cursor.{Cursor}
use Rattle.std.specs.Global.{Vec}
use Rattle.csv.specs.Reading.{Reached, Ready, default_config, source_of, strip_bom}
use Rattle.csv.specs.declared.parser.State.TheVariants as st
use Rattle.csv.specs.declared.reader.Trim.TheVariants as trim
use Rattle.csv_records.specs.input.Records.{Fields}
use Rattle.csv_records.specs.declared.input.records.Records.{Records}

-- the bytes that a reader of memory has left
abbrev pub left_in : Cursor (Vec ℕ) → Option (List ℕ)
left_in = cursor_remaining (λ v. Some v.items)

-- these records of the bytes, `rows`, were read so far, by a reader with the settings of `records_of`
pub record HasRead (bytes : List ℕ) (r : Records) (rows : List Fields) : Type 0 where
  pub plain : r.reader.trim ≡ trim.None
  pub ready : Ready r.reader
  pub flexible : r.reader.flexible ≡ true
  pub config : r.reader.config ≡ default_config
  pub rest : List ℕ
  pub source : source_of left_in r.reader ≡ Some rest
  pub reached : Reached default_config st.StartRecord (strip_bom bytes) rows r.reader.state rest
