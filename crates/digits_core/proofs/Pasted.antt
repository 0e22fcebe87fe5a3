-- Bytes that are put into a buffer one after the other.
use Rattle.std.proofs.Common.{◌≡◌, ◌∙◌, ◌+◌, ◌≤◌, ℕ, List, [], ◌++◌, ap, ap₂, append_assoc, arith, drop, length, length-append, sym, take}
use Rattle.std.proofs.lemmas.List.{drop-drop, drop_at, length-drop, length-take-le, take_at, take-append-drop}
use Rattle.digits_core.specs.Buffers.{pasted}

-- as long as it was
pub length-pasted : (old : List ℕ) (at : ℕ) (bytes : List ℕ) → at + length bytes ≤ length old → length (pasted old at bytes) ≡ length old
length-pasted old at bytes room =
    let rest : List ℕ = drop (at + length bytes) old in
    omega (
      arith,
      length-append (take at old) (bytes ++ rest),
      length-append bytes rest,
      length-take-le at old (omega arith),
      length-drop (at + length bytes)
          old,
    )

-- nothing is put
pub pasted_none : (old : List ℕ) (at : ℕ) → pasted old at [] ≡ old
pasted_none old at = ap (λ k. take at old ++ drop k old) (let e : at + length {A = ℕ} [] ≡ at = omega arith in e) ∙ take-append-drop at old

-- more behind what is put
pub pasted_more : (old : List ℕ) (at : ℕ) (bytes more : List ℕ) → at ≤ length old
    → pasted (pasted old at bytes) (at + length bytes) more ≡ pasted old at (bytes ++ more)
pasted_more old at bytes more room =
    let front : List ℕ = take at old ++ bytes in
    let next : ℕ = at + length bytes in
    let rest : List ℕ = drop next old in
    let long : length front ≡ next = omega (arith, length-append (take at old) bytes, length-take-le at old room) in
    let now : pasted old at bytes ≡ front ++ rest = sym (append_assoc (take at old) bytes rest) in
    let before : take next (pasted old at bytes) ≡ front = ap (take next) now ∙ take_at front rest next long in
    let behind : drop (next + length more) (pasted old at bytes) ≡ drop (next + length more) old =
    sym (drop-drop (length more) next (pasted old at bytes)) ∙ ap (drop (length more)) (ap (drop next) now ∙ drop_at front rest next long)
    ∙ drop-drop (length more) next old in
    let end : next + length more ≡ at + length (bytes ++ more) = omega (arith, length-append bytes more) in
    ap₂ (λ a b. a ++ (more ++ b)) before (behind ∙ ap (λ k. drop k old) end)
    ∙ append_assoc (take at old) bytes (more ++ drop (at + length (bytes ++ more)) old)
    ∙ ap (λ b. take at old ++ b) (sym (append_assoc bytes more (drop (at + length (bytes ++ more)) old)))

-- the same of what is put where the first bytes end
pub pasted_next : (old now next : List ℕ) (at end : ℕ) (bytes more : List ℕ) → at ≤ length old → end ≡ at + length bytes
    → now ≡ pasted old at bytes → next ≡ pasted now end more → next ≡ pasted old at (bytes ++ more)
pasted_next old now next at end bytes more room ends before put =
    put ∙ ap₂ (λ out n. pasted out n more) before ends ∙ pasted_more old at bytes more room
