-- A header that is read byte by byte.
use Rattle.std.proofs.Common.{◌≡◌, ℕ, suc, ◌+◌, ◌-◌, ◌<◌, IsTrue, List, [], ◌∷◌, ◌++◌, Option, Some, None, Result, Ok, Err, refl, sym, ap, subst, ◌∙◌, inl, arith}
use Rattle.std.specs.Prelude.{MatchOption}
use Rattle.std.specs.Io.KnownBytes.{Consumes, IsAtEnd, Keeps}
use Rattle.std.proofs.KnownBytes.{Consumes-kept, Consumes-nil, Consumes-trans}
use Rattle.std.proofs.lemmas.List.{append_assoc, append-nil}
use Rattle.sheet_core.specs.declared.fault.PbmFault.{PbmFault}
use Rattle.sheet_core.specs.declared.fault.PbmFault.TheVariants.{NotP4, PbmHeader, Truncated, PbmSize, ReadFault, NoMemory}
use Rattle.sheet_core.specs.declared.pbm.state.Size.{Size}
use Rattle.sheet_core.specs.declared.pbm.state.State.{State}
use Rattle.sheet_core.specs.declared.pbm.state.State.TheVariants.{Start}
use Rattle.sheet_core.specs.declared.pbm.state.Step.{Step}
use Rattle.sheet_core.specs.declared.pbm.state.Step.TheVariants.{Goes, Done, Refused}
use Rattle.sheet_core.specs.pbm.Headers.{after_header_step, header_by, header_of, header_step}
use Rattle.sheet_core.specs.inner.Headers.{is_reached_by}
use Rattle.sheet_core.specs.pbm.Images.{BytesTell, ReadsBytes}

-- where a reader is: the bytes before this one were read, and the header goes on from here
pub record At (old now : Option (List ℕ)) (first k : ℕ) (state : State) (byte : ℕ) : Type 0 where
  pub before : List ℕ
  pub consumed : Consumes old now before
  pub same : (more : List ℕ) → header_of (first ∷ (before ++ more)) ≡ header_by (4096 - k) state (byte ∷ more)

-- what a header that begins with this byte is
abbrev pub told : ℕ → List ℕ → Result Size PbmFault × List ℕ
told first bytes = header_of (first ∷ bytes)

-- one byte
one : (k : ℕ) (state : State) (byte : ℕ) (more : List ℕ) → k < 4096 → header_by (4096 - k) state (byte ∷ more)
    ≡ after_header_step (header_step state byte) (λ t. header_by (4096 - (k + 1)) t more) more
one k state byte more h = ap (λ n. header_by n state (byte ∷ more)) (let e : 4096 - k ≡ suc (4096 - (k + 1)) = omega arith in e)

-- all of it
whole : (old now : Option (List ℕ)) (first k : ℕ) (state : State) (byte : ℕ) (p : At old now first k state byte) → header_of (first ∷ p.before)
    ≡ header_by (4096 - k) state (byte ∷ [])
whole old now first k state byte p = ap (λ bs. header_of (first ∷ bs)) (sym (append-nil p.before)) ∙ p.same []

-- all of it, by what its last byte does
decided : (old now : Option (List ℕ)) (first k : ℕ) (state : State) (byte : ℕ) (s : Step) (p : At old now first k state byte) → k < 4096
    → header_step state byte ≡ s
    → header_of (first ∷ p.before) ≡ after_header_step s (λ t. header_by (4096 - (k + 1)) t []) []
decided old now first k state byte s p h e = whole old now first k state byte p ∙ one k state byte [] h
    ∙ ap (λ s. after_header_step s (λ t. header_by (4096 - (k + 1)) t []) []) e

pub done : (old now : Option (List ℕ)) (first k : ℕ) (state : State) (byte : ℕ) (size : Size) → At old now first k state byte → k < 4096
    → header_step state byte ≡ Done size → ReadsBytes (told first) old now (Ok size)
done old now first k state byte size p h e = record { bytes = p.before; consumed = p.consumed; tells = decided old now first k state byte (Done size) p h e }

pub refused : (old now : Option (List ℕ)) (first k : ℕ) (state : State) (byte : ℕ) (f : PbmFault) → At old now first k state byte → k < 4096
    → header_step state byte ≡ Refused f → IsTrue (is_reached_by (Refused f))
    → ReadsBytes (told first) old now (Err f)
refused old now first k state byte f p h e ok = record {
  bytes = p.before;
  consumed = p.consumed;
  tells =
      by f (decided old now first k state byte (Refused f) p h e) ok;
}
  where
    by : (f : PbmFault) → header_of (first ∷ p.before) ≡ (Err f, []) → IsTrue (is_reached_by (Refused f)) → BytesTell (told first p.before) now (Err f)
    by NotP4 e ok = e
    by PbmHeader e ok = e
    by PbmSize e ok = e
    by Truncated e ok = absurd cc
    by ReadFault e ok = absurd cc
    by NoMemory e ok = absurd cc

pub goes : (old now later : Option (List ℕ)) (first k : ℕ) (state next : State) (byte b : ℕ) → At old now first k state byte → k < 4096 → header_step state byte
    ≡ Goes next → Consumes now later (b ∷ [])
    → At old later first (k + 1) next b
goes old now later first k state next byte b p h e c = record {
  before = p.before ++ b ∷ [];
  consumed = Consumes-trans old now later p.before (b ∷ []) p.consumed c;
  same = λ more.
      ap (λ bs. header_of (first ∷ bs)) (append_assoc p.before (b ∷ []) more)
      ∙ p.same (b ∷ more) ∙ one k state byte (b ∷ more) h ∙ ap (λ s. after_header_step s (λ t. header_by (4096 - (k + 1)) t (b ∷ more)) (b ∷ more)) e;
}

pub ended : (old now later : Option (List ℕ)) (first k : ℕ) (state next : State) (byte : ℕ) → At old now first k state byte → k < 4096 → header_step state byte
    ≡ Goes next → Consumes now later [] → IsAtEnd later
    → ReadsBytes (told first) old later (Err Truncated)
ended old now later first k state next byte p h e c end = record {
  bytes = p.before;
  consumed = subst (Consumes old later) (append-nil p.before) (Consumes-trans old now later p.before [] p.consumed c);
  tells = (decided old now first k state byte (Goes next) p h e, end);
}

pub broken : (old now later : Option (List ℕ)) (first k : ℕ) (state next : State) (byte : ℕ) → At old now first k state byte → k < 4096 → header_step state byte
    ≡ Goes next → Keeps now later
    → ReadsBytes (told first) old later (Err ReadFault)
broken old now later first k state next byte p h e c = record {
  bytes = p.before;
  consumed = Consumes-kept old now later p.before p.consumed c;
  tells = inl (decided old now first k state byte (Goes next) p h e);
}

pub too_long : (old now : Option (List ℕ)) (first : ℕ) (state : State) (byte : ℕ) → At old now first 4096 state byte
    → ReadsBytes (told first) old now (Err PbmHeader)
too_long old now first state byte p = record { bytes = p.before; consumed = p.consumed; tells = whole old now first 4096 state byte p }

pub begins : (old : Option (List ℕ)) (first : ℕ) → At old old first 0 Start first
begins old first = record { before = []; consumed = Consumes-nil old; same = λ more. refl }

pub at_none : (o : Option ℕ) (P : Type 0) (Q : ℕ → Type 0) → o ≡ None → MatchOption o P Q → P
at_none None P Q e h = h
at_none (Some n) P Q e h = absurd cc

pub at_some : (o : Option ℕ) (n : ℕ) (P : Type 0) (Q : ℕ → Type 0) → o ≡ Some n → MatchOption o P Q → Q n
at_some None n P Q e h = absurd cc
at_some (Some m) n P Q e h = let same : m ≡ n = cc in subst Q same h
