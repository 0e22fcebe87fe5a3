-- All the bytes that are read as a header have its pieces.
use Rattle.std.proofs.Common.{◌≡◌, ℕ, zero, suc, ◌+◌, ◌≤◌, List, [], ◌∷◌, ◌++◌, length, Result, Ok, Err, refl, ap, subst, ◌∙◌, arith}
use Rattle.std.specs.List.{concat}
use Rattle.sheet_core.specs.declared.fault.PbmFault.{PbmFault}
use Rattle.sheet_core.specs.declared.fault.PbmFault.TheVariants.{PbmHeader, Truncated}
use Rattle.sheet_core.specs.declared.pbm.state.Size.{Size}
use Rattle.sheet_core.specs.declared.pbm.state.State.{State}
use Rattle.sheet_core.specs.declared.pbm.state.State.TheVariants.{Start}
use Rattle.sheet_core.specs.declared.pbm.state.Step.{Step}
use Rattle.sheet_core.specs.declared.pbm.state.Step.TheVariants.{Goes, Done, Refused}
use Rattle.sheet_core.specs.pbm.Grammar.{IsHeader}
use Rattle.sheet_core.specs.pbm.Headers.{after_header_step, header_by, header_step}
use Rattle.sheet_core.proofs.pbm.HeaderPieces.{Ends, done, goes}

-- the front of the bytes ends the header, within the limit
record Front (size : Size) (s : State) (limit : ℕ) (bytes rest : List ℕ) : Type 0 where
  front : List ℕ
  joined : bytes ≡ front ++ rest
  short : length front ≤ limit
  ends : Ends size s front

first_of : (p q : Result Size PbmFault × List ℕ) → p ≡ q → p.0 ≡ q.0
first_of p q e = ap (λ (p : Result Size PbmFault × List ℕ). p.0) e

not_read : (f : PbmFault) (size : Size) → (let r : Result Size PbmFault = Err f in r ≡ Ok size) → ⊥
not_read f size e = cc

read_size : (a b : Size) → (let r : Result Size PbmFault = Ok a in r ≡ Ok b) → a ≡ b
read_size a b e = cc

one_more : (size : Size) (s : State) (limit b : ℕ) (bytes rest : List ℕ)
    → ((t : State) → header_by limit t bytes ≡ (Ok size, rest) → Front size t limit bytes rest) → (st : Step) → header_step s b ≡ st
    → after_header_step st (λ t. header_by limit t bytes) bytes ≡ (Ok size, rest) → Front size s (limit + 1) (b ∷ bytes) rest
one_more size s limit b bytes rest hyp (Goes t) step_is e =
    let f = hyp t e in
    let short = f.short in
    record { front = b ∷ f.front; joined = ap (λ bs. b ∷ bs) f.joined; short = omega arith; ends = goes size s t b f.front step_is f.ends }
one_more size s limit b bytes rest hyp (Done other) step_is e =
    let same = read_size other size (ap (λ (p : Result Size PbmFault × List ℕ). p.0) e) in
    let tail : bytes ≡ rest = ap (λ (p : Result Size PbmFault × List ℕ). p.1) e in
    record { front = b ∷ []; joined = ap (λ bs. b ∷ bs) tail; short = omega arith; ends = done size s b (step_is ∙ ap (λ z. Done z) same) }
one_more size s limit b bytes rest hyp (Refused f) step_is e = absurd (not_read f size (ap (λ (p : Result Size PbmFault × List ℕ). p.0) e))

front_of : (size : Size) (limit : ℕ) (s : State) (bytes rest : List ℕ) → header_by limit s bytes ≡ (Ok size, rest) → Front size s limit bytes rest
front_of size limit s [] rest e = absurd (not_read Truncated size (ap (λ (p : Result Size PbmFault × List ℕ). p.0) e))
front_of size zero s (b ∷ bytes) rest e = absurd (not_read PbmHeader size (ap (λ (p : Result Size PbmFault × List ℕ). p.0) e))
front_of size (suc limit) s (b ∷ bytes) rest e =
    subst (λ n. Front size s n (b ∷ bytes) rest) (let n : limit + 1 ≡ suc limit = omega arith in n)
    (one_more size s limit b bytes rest (λ t h. front_of size limit t bytes rest h) (header_step s b) refl e)

-- the pieces put together
header_is : (size : Size) (bytes : List ℕ) → Ends size Start bytes → IsHeader bytes size
header_is size bytes h =
    let before = h.4 in
    let width = before.behind in
    let between = width.behind in
    let height = between.behind in
    let last = height.behind in
    record {
      before = before.blanks;
      between = between.blanks;
      width = width.digits;
      height = height.digits;
      last = last.0;
      before_is = record { some = before.enough refl; each = before.each };
      between_is = record { some = between.enough refl; each = between.each };
      width_is = width.is;
      height_is = height.is;
      last_is = last.1;
      joined =
          h.1 ∙ ap (λ bs. 80 ∷ bs) h.3
          ∙ ap (λ bs. 80 ∷ 52 ∷ bs) (before.joined
          ∙ ap (λ bs. concat before.blanks ++ bs) (width.joined
          ∙ ap (λ bs. width.digits ++ bs) (between.joined
          ∙ ap (λ bs. concat between.blanks ++ bs) (height.joined ∙ ap (λ bs. height.digits ++ bs) last.2))));
    }

-- what is read as a header is one of at most this many bytes, and the rest follows it
pub record HeaderFront (size : Size) (bytes rest : List ℕ) : Type 0 where
  pub header : List ℕ
  pub joined : bytes ≡ header ++ rest
  pub short : length header ≤ 4096
  pub is : IsHeader header size

pub header_front : (size : Size) (bytes rest : List ℕ) → header_by 4096 Start bytes ≡ (Ok size, rest) → HeaderFront size bytes rest
header_front size bytes rest e = let f = front_of size 4096 Start bytes rest e in
    record { header = f.front; joined = f.joined; short = f.short; is = header_is size f.front f.ends }
