-- The records so far mean the items, or the next is the first that has a fault.
use Rattle.std.proofs.Common.{Err, List, Ok, ap, arith, length-append, refl, ◌++◌, ◌∷◌, ◌≡◌, [], ℕ}
use Rattle.csv.specs.Records.{fields_of}
use Rattle.csv_records.specs.input.Faults.{refusal_at}
use Rattle.csv_records.specs.inner.Refusals.{NamesFirst}
use Rattle.csv_records.specs.input.Records.{IsFirstFault, Meaning, records_of}
use Rattle.csv_records.specs.declared.input.fault.RecordFault.{RecordFault}
use Rattle.csv_records.specs.declared.input.fault.RecordRefusal.{RecordRefusal}
use Rattle.csv_records.specs.declared.input.fault.RecordRefusal.TheVariants as refusal
use Rattle.csv_records.proofs.FirstFault.{first_at}
use Rattle.csv_records.proofs.RecordsReadFirst.{read_few, read_front}
use Rattle.std.proofs.lemmas.Slice.Zip.{all_zipped_more}
use Rattle.csv_records.proofs.input.records.read_records.Goals as goal

pub returns-in-Ok-false-clause-ok : goal.returns-in-Ok-false-clause-ok
returns-in-Ok-false-clause-ok g c =
    let inv = c.each.invariant in
    let all = c.in-Ok-false.ensures.end (ap (λ b. Ok b) c.in-Ok-false.field-0-test) c.args.bytes.items inv.rows inv.read in
    (inv.items, rw (← all) inv.taken, inv.made)

-- if the record at `index` is the first with a fault, its refusal names it; a refusal for memory names none
refusal_named : {Item : Type 0} (means : Meaning Item) (index : ℕ) (rows : List (List (List ℕ))) (r : RecordRefusal)
    → ((f : RecordFault) → r ≡ refusal.Record f → IsFirstFault means rows index f)
    → NamesFirst means rows (refusal_at index r)
refusal_named means index rows (refusal.Record f) why = why f refl
refusal_named means index rows refusal.NoMemory why = tt

pub returns-in-Err-take-clause-refused : goal.returns-in-Err-take-clause-refused
returns-in-Err-take-clause-refused g c =
    let inv = c.each.invariant in
    let fields = fields_of c.read.new.self.last in
    let read = c.in-Ok-true.ensures.more (ap (λ b. Ok b) c.in-Ok-true.field-0-test) c.args.bytes.items inv.rows inv.read in
    let front = read_front c.args.bytes.items c.read.new.self (inv.rows ++ fields ∷ []) read in
    rw c.at.ensures (refusal_named (g.I.Intake.means c.args.intake.now) c.each.index (records_of c.args.bytes.items) c.in-Err-take.refusal (λ f is.
    first_at (g.I.Intake.means c.args.intake.now) inv.rows inv.items fields front.0 (records_of c.args.bytes.items) c.each.index f front.1 inv.index inv.taken
    (c.in-Err-take.ensures.refused f (ap (λ (r : RecordRefusal). Err r) is))))

pub each-preserved : goal.each-preserved
each-preserved g c =
    let inv = c.each.invariant in
    let fields = fields_of c.read.new.self.last in
    record {
      rows = inv.rows ++ fields ∷ [];
      read = c.in-Ok-true.ensures.more (ap (λ b. Ok b) c.in-Ok-true.field-0-test) c.args.bytes.items inv.rows inv.read;
      index = omega (arith, inv.index, length-append inv.rows (fields ∷ []));
      items = inv.items ++ c.in-Ok.ensures.taken.0 ∷ [];
      taken = all_zipped_more _ inv.rows inv.items fields c.in-Ok.ensures.taken.0 inv.taken c.in-Ok.ensures.taken.1;
      made = c.in-Ok.ensures.taken.2 inv.items inv.made;
    }

-- the loop never ends at its bound: there is at most one record more than bytes
pub unreachable-requires : goal.unreachable-requires
unreachable-requires g c =
    let inv = c.each.invariant in
    let few = read_few c.args.bytes.items c.each.records inv.rows inv.read in
    omega (arith, few, inv.index, c.requires.few, c.each-test.false)
