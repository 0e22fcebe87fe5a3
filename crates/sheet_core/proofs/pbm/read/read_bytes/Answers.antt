use Rattle.std.proofs.Common.{◌≡◌, ℕ, ◌+◌, ◌≤◌, Bool, true, false, if◌then◌else◌, List, ◌++◌, length}
use Rattle.std.proofs.Common.{take, replicate, ◌-◌, append_assoc, length-take, refl, sym, ap, subst, ◌∙◌, arith, vec_len}
use Rattle.std.proofs.lemmas.List.{length-take-le, take-append-le, take-take, take_all}
use Rattle.std.proofs.Math.Seq.{take-append-add}
use Rattle.std.specs.Prelude.{Option, Result, Ok, Err, IfErr}
use Rattle.std.specs.Result.{IsErrAnd, is_ok}
use Rattle.std.proofs.KnownBytes.{Consumes-kept, Consumes-trans}
use Rattle.std.specs.Io.KnownBytes.{Consumes, Keeps}
use Rattle.sheet_core.specs.declared.fault.PbmFault.{PbmFault}
use Rattle.sheet_core.specs.declared.fault.PbmFault.TheVariants.{ReadFault}
use Rattle.sheet_core.specs.inner.Images.{FailsFor, StopsBefore}
use Rattle.sheet_core.proofs.pbm.read.read_bytes.Goals as goal
use Rattle.sheet_core.proofs.pbm.read.read_bytes.Goals.{then-filled-len+else-is_err, else-filled-len}

-- what is read behind the first bytes follows them
read_behind : (f r n : ℕ) (xs buf post rest : List ℕ) → length xs ≡ f → r ≤ length buf → f + r ≤ n
    → take (f + r) (take n ((xs ++ (buf ++ post)) ++ rest)) ≡ xs ++ take r buf
read_behind f r n xs buf post rest e h k =
    take-take (f + r) n ((xs ++ (buf ++ post)) ++ rest) k
    ∙ ap (take (f + r)) (append_assoc xs (buf ++ post) rest)
    ∙ subst (λ i. take (i + r) (xs ++ ((buf ++ post) ++ rest)) ≡ xs ++ take r ((buf ++ post) ++ rest)) e (take-append-add xs ((buf ++ post) ++ rest) r)
    ∙ ap (λ ys. xs ++ ys) (ap (take r) (append_assoc buf post rest) ∙ take-append-le r buf (post ++ rest) h)

-- room behind the first bytes leaves them
front_kept : (ok : Bool) (f n k : ℕ) (xs : List ℕ) → length xs ≡ f → f ≤ n → take f (if ok then take n xs ++ replicate k 0 else xs) ≡ take f xs
front_kept true f n k xs h le =
    let all : take n xs ≡ xs = take_all n xs (omega arith) in
    ap (λ ys. take f (ys ++ replicate k 0)) all ∙ take-append-le f xs (replicate k 0) (omega arith)
front_kept false f n k xs h le = refl

-- a read that failed says so
fails_read : {A : Type 0} (old new : Bool) (r : Result A PbmFault) → IsErrAnd r (λ f. f ≡ ReadFault) → new ≡ true → FailsFor old new r
fails_read old new (Ok a) h e = absurd h
fails_read old new (Err f) h e = rw h e

-- and what came before it is all that came
stops_read : {A : Type 0} (count : ℕ) (old mid new : Option (List ℕ)) (bytes : List ℕ) (r : Result A PbmFault) → IsErrAnd r (λ f. f ≡ ReadFault)
    → Consumes old mid bytes → Keeps mid new → length bytes ≤ count → IfErr r (StopsBefore count old new)
stops_read count old mid new bytes (Ok a) h came kept few = tt
stops_read count old mid new bytes (Err f) h came kept few = rw h (bytes, Consumes-kept old mid new bytes came kept, few)

few_taken : (n len count : ℕ) (xs : List ℕ) → n ≤ len → len ≤ count → length (take n xs) ≤ count
few_taken n len count xs h k = rw length-take (omega arith)

room : (ok : Bool) (len f n count : ℕ) → len ≡ (if ok then n else f) → f ≤ n → n ≤ count → (f ≤ len) × (len ≤ count)
room true len f n count e h k = (omega arith, omega arith)
room false len f n count e h k = (omega arith, omega arith)

pub reads-preserved : goal.reads-preserved
reads-preserved g c =
    let v = c.as_mut_slice.ensures in
    let inv = c.reads.invariant in
    let filled : ℕ = c.reads.filled in
    let front : take filled c.if-filled-len.bytes.items ≡ take filled c.reads.bytes.items = elim c.if-filled-len.branch [
      | then-filled-len+else-is_err w ↦
          let items : length c.reads.bytes.items ≡ filled = omega (arith, c.reads.bytes.ok, w.if-filled-len.true, c.len.ensures) in
          rw w.bytes-is (ap (take filled) w.resize.ensures.items
          ∙ front_kept (is_ok w.resize.result) filled (filled + w.min-more.result) (filled + w.min-more.result - vec_len c.reads.bytes) c.reads.bytes.items
          items (omega arith))
      | else-filled-len w ↦ rw w.bytes-is refl
    ] in
    let fits : (filled ≤ vec_len c.if-filled-len.bytes) × (vec_len c.if-filled-len.bytes ≤ c.args.count) = elim c.if-filled-len.branch [
      | then-filled-len+else-is_err w ↦
          let n : ℕ = filled + w.min-more.result in
          let below : n ≤ c.args.count = omega (arith, w.min-more.ensures, inv.few, inv.fits, c.reads-test.true) in
          let full : vec_len c.reads.bytes ≡ filled = omega (arith, w.if-filled-len.true, c.len.ensures) in
          let len : vec_len w.resize.new.self ≡ (if is_ok w.resize.result then n else filled) =
          w.resize.ensures.len ∙ ap (λ f. if is_ok w.resize.result then n else f) full in
          let more : filled ≤ n = omega arith in
          let both : (filled ≤ vec_len w.resize.new.self) × (vec_len w.resize.new.self ≤ c.args.count) =
          room (is_ok w.resize.result) (vec_len w.resize.new.self) filled n c.args.count len more below in
          rw w.bytes-is both
      | else-filled-len w ↦ rw w.bytes-is (inv.few, inv.fits)
    ] in
    let read : ℕ = c.in_ok-read.read in
    let buf = c.read.new.buf in
    let now : take filled c.as_mut_slice.result.now ≡ take filled c.reads.bytes.items = ap (take filled) v.value ∙ front in
    let begun : length (take filled c.as_mut_slice.result.now) ≡ filled = length-take-le filled c.as_mut_slice.result.now (omega (arith, v.len, fits.0)) in
    let fewer : filled + read ≤ vec_len c.if-filled-len.bytes = omega (arith, c.in_ok-read.ensures.bound, c.read.auto.buf, v.len, fits.0) in
    let bytes = read_behind filled read (vec_len c.if-filled-len.bytes) (take filled c.as_mut_slice.result.now) buf _ _ begun c.in_ok-read.ensures.bound fewer
    in
    record {
      gave = subst (Consumes (g.R.Source.left c.args.reader.now) (g.R.Source.left c.read.new.self)) (sym (bytes ∙ ap (λ xs. xs ++ take read buf) now))
          (Consumes-trans _ _ _ (take filled c.reads.bytes.items) (take read buf) inv.gave c.in_ok-read.ensures.bytes.0);
      few = fewer;
      fits = fits.1;
      same = c.in_ok-read.ensures.ok ∙ inv.same;
    }

pub returns-in_err-read-clause-stopped : goal.returns-in_err-read-clause-stopped
returns-in_err-read-clause-stopped g c =
    let inv = c.reads.invariant in
    let few = few_taken c.reads.filled (vec_len c.reads.bytes) c.args.count c.reads.bytes.items inv.few inv.fits in
    stops_read c.args.count (g.R.Source.left c.args.reader.now) (g.R.Source.left c.reads.reader) (g.R.Source.left c.read.new.self)
    (take c.reads.filled c.reads.bytes.items) c.from_residual.result c.from_residual.ensures.1 inv.gave c.in_err-read.ensures.bytes few

pub returns-in_err-read-clause-failed : goal.returns-in_err-read-clause-failed
returns-in_err-read-clause-failed g c =
    fails_read (g.R.Source.failed c.args.reader.now) (g.R.Source.failed c.read.new.self) c.from_residual.result c.from_residual.ensures.1
    c.in_err-read.ensures.err

pub returns-clause-ok : goal.returns-clause-ok
returns-clause-ok g c =
    let inv = c.reads.invariant in
    let whole : length c.reads.bytes.items ≤ c.reads.filled = omega (arith, c.reads.bytes.ok, inv.fits, c.reads-test.false) in
    subst (Consumes (g.R.Source.left c.args.reader.now) (g.R.Source.left c.reads.reader)) (take_all c.reads.filled c.reads.bytes.items whole) inv.gave
