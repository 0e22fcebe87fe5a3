-- Of records that come one after another, the first that has a fault.
use Rattle.std.proofs.Common.{◌++◌, ◌≡◌, ◌∙◌, ◌∷◌, Err, List, Some, [], append_assoc, length, refl, ℕ}
use Rattle.std.specs.List.{slice_get}
use Rattle.std.proofs.Math.Seq.{take-append_seam}
use Rattle.csv_records.specs.input.Records.{AreItems, Fields, IsFirstFault, Meaning}
use Rattle.csv_records.specs.declared.input.fault.RecordFault.{RecordFault}

-- the record that stands behind `rows` has their number as its index (std has it of `get_or`: get_or-append_seam)
seam : (rows : List Fields) (r : Fields) (more : List Fields) → slice_get (rows ++ r ∷ more) (length rows) ≡ Some r
seam [] r more = refl
seam (x ∷ rows) r more = seam rows r more

-- a record with a fault behind records that all mean items is the first with a fault
pub first_at : {Item : Type 0} (means : Meaning Item) (rows : List Fields) (items : List Item) (r : Fields) (more all : List Fields) (index : ℕ)
    (f : RecordFault) → all ≡ rows ++ r ∷ [] ++ more
    → index ≡ length rows → AreItems means rows items → means r (Err f) → IsFirstFault means all index f
first_at means rows items r more all index f are here none bad =
    let is : all ≡ rows ++ r ∷ more = are ∙ append_assoc rows (r ∷ []) more in
    rw (is, here) record {
      fields = r;
      here = seam rows r more;
      items = items;
      before = rw (take-append_seam rows (r ∷ more)) none;
      faulty = bad;
    }
