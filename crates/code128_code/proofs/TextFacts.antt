-- Values have a text exactly where each has a meaning in turn.
use Rattle.std.proofs.Common.{◌≡◌, ℕ, Bool, true, false, nat_lt, List, [], ◌∷◌, ◌++◌, Result, Ok, Err, refl, sym, ap, subst, ◌∙◌, inl, inr}
use Rattle.std.proofs.lemmas.Bool.{cases_Bool, le-ltb, ltb-false, ltb-true}
use Rattle.std.proofs.lemmas.List.{append-nil}
use Rattle.code128_code.specs.declared.code_set.CodeSet.{CodeSet}
use Rattle.code128_code.specs.declared.fault.Code128Fault.{Code128Fault}
use Rattle.code128_code.specs.declared.fault.Code128Fault.TheVariants as faults
use Rattle.code128_code.specs.declared.meanings.Meaning.{Meaning}
use Rattle.code128_code.specs.declared.meanings.Meaning.TheVariants.{Byte, Digits, Latch, Shift, Function}
use Rattle.code128_code.specs.Laws.{TextOrFault}
use Rattle.code128_code.specs.inner.Steps.{text_by}
use Rattle.code128_code.specs.Texts.{HasFault, Says, before, meaning, says, shifted_byte, two_digits}
use Rattle.code128_code.specs.Texts.Says.{byte, digits, latch, nothing, shift}
use Rattle.code128_code.proofs.ValuesSay.{before-before, before-ok, plain_step, shifted_step, step_is}

-- ---- a text

-- values say a text, or they do after a SHIFT
abbrev Told : Bool → CodeSet → List ℕ → List ℕ → Type 0
Told false set values text = (to : CodeSet) × Says set values text to
Told true set values text = (u : ℕ) → meaning set u ≡ Shift → (to : CodeSet) × Says set (u ∷ values) text to

told_says : (m : Meaning) (set : CodeSet) (v : ℕ) (values text : List ℕ) → meaning set v ≡ m
    → ((s : CodeSet) (b : Bool) (t : List ℕ) → text_by s b values ≡ Ok t → Told b s values t)
    → says m set (λ next. text_by next false values) (text_by set true values) ≡ Ok text → (to : CodeSet) × Says set (v ∷ values) text to
told_says (Byte b) set v values text e ih h =
    let p = before-ok (b ∷ []) (text_by set false values) text h in
    let q = ih set false p.0 p.1 in
    (q.0, subst (λ t. Says set (v ∷ values) t q.0) (sym p.2) (byte set q.0 v b values p.0 e q.1))
told_says (Digits n) set v values text e ih h =
    let p = before-ok (two_digits n) (text_by set false values) text h in
    let q = ih set false p.0 p.1 in
    (q.0, subst (λ t. Says set (v ∷ values) t q.0) (sym p.2) (digits set q.0 v n values p.0 e q.1))
told_says (Latch other) set v values text e ih h = let q = ih other false text h in (q.0, latch set other q.0 v values text e q.1)
told_says Shift set v values text e ih h = ih set true text h v e
told_says Function set v values text e ih h = cc

told : (values : List ℕ) (set : CodeSet) (b : Bool) (text : List ℕ) → text_by set b values ≡ Ok text → Told b set values text
told [] set false text e = let h : [] ≡ text = cc in (set, subst (λ t. Says set [] t set) h (nothing set))
told [] set true text e = cc
told (v ∷ values) set false text e = told_says (meaning set v) set v values text refl (told values) (sym (step_is set v values) ∙ e)
told (w ∷ values) set true text e = λ u m.
    elim (cases_Bool (nat_lt w 96)) [
      | inl low ↦
          let p = before-ok (shifted_byte set w ∷ []) (text_by set false values) text (sym (shifted_step set true w values refl (ltb-true w 96 low)) ∙ e) in
          let q = told values set false p.0 p.1 in
          (q.0, subst (λ t. Says set (u ∷ w ∷ values) t q.0) (sym p.2) (shift set q.0 u w values p.0 m (ltb-true w 96 low) q.1))
      | inr high ↦
          let none : text_by set true (w ∷ values) ≡ Err faults.CodeSet =
          rw high refl in absurd (let impossible : Err faults.CodeSet ≡ Ok text = sym none ∙ e in cc)
    ]

-- what is said of some values stands before what is said of the rest
joined : (set to : CodeSet) (front said : List ℕ) → Says set front said to → (rest : List ℕ) → text_by set false (front ++ rest)
    ≡ before said (text_by to false rest)
joined set to front said (nothing s) rest = sym (before-nothing (text_by s false rest))
  where
    before-nothing : (r : Result (List ℕ) Code128Fault) → before [] r ≡ r
    before-nothing (Ok t) = refl
    before-nothing (Err f) = refl
joined set to front said (byte s t v b values text e more) rest =
    plain_step s false v (values ++ rest) (Byte b) refl e ∙ ap (before (b ∷ [])) (joined s t values text more rest) ∙ sym (before-before (b ∷ []) text _)
joined set to front said (digits s t v d values text e more) rest =
    plain_step s false v (values ++ rest) (Digits d) refl e ∙ ap (before (two_digits d)) (joined s t values text more rest)
    ∙ sym (before-before (two_digits d) text _)
joined set to front said (latch s other t v values text e more) rest =
    plain_step s false v (values ++ rest) (Latch other) refl e ∙ joined other t values text more rest
joined set to front said (shift s t v w values text e low more) rest =
    plain_step s false v (w ∷ (values ++ rest)) Shift refl e
    ∙ shifted_step s true w (values ++ rest) refl low
    ∙ ap (before (shifted_byte s w ∷ [])) (joined s t values text more rest)
    ∙ sym (before-before (shifted_byte s w ∷ []) text _)

said_whole : (set to : CodeSet) (values text : List ℕ) → Says set values text to → text_by set false values ≡ Ok text
said_whole set to values text s =
    ap (text_by set false) (sym (append-nil values)) ∙ joined set to values text s [] ∙ ap Ok (append-nil text)

-- ---- a fault

-- these values, from the left, say something up to a value that has the fault
abbrev FailsAt : CodeSet → List ℕ → Code128Fault → Type 0
FailsAt set values f =
    (front : List ℕ) × (rest : List ℕ) × (said : List ℕ) × (to : CodeSet) × (values ≡ front ++ rest) × Says set front said to × HasFault to rest f

abbrev Failed : Bool → CodeSet → List ℕ → Code128Fault → Type 0
Failed false set values f = FailsAt set values f
Failed true set values f = (u : ℕ) → meaning set u ≡ Shift → FailsAt set (u ∷ values) f

before-err : (bytes : List ℕ) (r : Result (List ℕ) Code128Fault) (f : Code128Fault) → before bytes r ≡ Err f → r ≡ Err f
before-err bytes (Ok t) f e = cc
before-err bytes (Err g) f e = e

failed_says : (m : Meaning) (set : CodeSet) (v : ℕ) (values : List ℕ) (f : Code128Fault) → meaning set v ≡ m
    → ((s : CodeSet) (b : Bool) (g : Code128Fault) → text_by s b values ≡ Err g → Failed b s values g)
    → says m set (λ next. text_by next false values) (text_by set true values) ≡ Err f → FailsAt set (v ∷ values) f
failed_says (Byte b) set v values f e ih h =
    let q = ih set false f (before-err (b ∷ []) (text_by set false values) f h) in
    (v ∷ q.0, q.1, b ∷ q.2, q.3, ap (λ vs. v ∷ vs) q.4, byte set q.3 v b q.0 q.2 e q.5, q.6)
failed_says (Digits n) set v values f e ih h =
    let q = ih set false f (before-err (two_digits n) (text_by set false values) f h) in
    (v ∷ q.0, q.1, two_digits n ++ q.2, q.3, ap (λ vs. v ∷ vs) q.4, digits set q.3 v n q.0 q.2 e q.5, q.6)
failed_says (Latch other) set v values f e ih h =
    let q = ih other false f h in
    (v ∷ q.0, q.1, q.2, q.3, ap (λ vs. v ∷ vs) q.4, latch set other q.3 v q.0 q.2 e q.5, q.6)
failed_says Shift set v values f e ih h = ih set true f h v e
failed_says Function set v values f e ih h =
    let is : faults.FunctionCharacter ≡ f = cc in
    ([], v ∷ values, [], set, refl, nothing set, subst (HasFault set (v ∷ values)) is e)

failed : (values : List ℕ) (set : CodeSet) (b : Bool) (f : Code128Fault) → text_by set b values ≡ Err f → Failed b set values f
failed [] set false f e = cc
failed [] set true f e = λ u m. let is : faults.CodeSet ≡ f = cc in ([], u ∷ [], [], set, refl, nothing set, subst (HasFault set (u ∷ [])) is m)
failed (v ∷ values) set false f e = failed_says (meaning set v) set v values f refl (failed values) (sym (step_is set v values) ∙ e)
failed (w ∷ values) set true f e = λ u m.
    elim (cases_Bool (nat_lt w 96)) [
      | inl low ↦
          let less = ltb-true w 96 low in
          let r = before-err (shifted_byte set w ∷ []) (text_by set false values) f (sym (shifted_step set true w values refl less) ∙ e) in
          let q = failed values set false f r in
          (u ∷ w ∷ q.0, q.1, shifted_byte set w ∷ q.2, q.3, ap (λ vs. u ∷ w ∷ vs) q.4, shift set q.3 u w q.0 q.2 m less q.5, q.6)
      | inr high ↦
          let none : text_by set true (w ∷ values) ≡ Err faults.CodeSet = rw high refl in
          let is : faults.CodeSet ≡ f = (let same : Err faults.CodeSet ≡ Err f = sym none ∙ e in cc) in
          ([], u ∷ w ∷ values, [], set, refl, nothing set, subst (HasFault set (u ∷ w ∷ values)) is (m, ltb-false w 96 high))
    ]

fault_is : (set : CodeSet) (rest : List ℕ) (f : Code128Fault) → HasFault set rest f → text_by set false rest ≡ Err f
fault_is set (v ∷ values) faults.FunctionCharacter h = plain_step set false v values Function refl h
fault_is set (v ∷ []) faults.CodeSet h = plain_step set false v [] Shift refl h
fault_is set (v ∷ w ∷ values) faults.CodeSet h =
    let high : nat_lt w 96 ≡ false = le-ltb w 96 h.1 in
    plain_step set false v (w ∷ values) Shift refl h.0 ∙ rw high refl
fault_is set _ _ h = absurd h

pub text_or_fault : (set : CodeSet) (values : List ℕ) → TextOrFault set values
text_or_fault set values = record {
  text = λ text. (told values set false text, λ s. said_whole set s.0 values text s.1);
  fault = λ f. (
    failed values set false f,
    λ q. ap (text_by set false) q.4 ∙ joined set q.3 q.0 q.2 q.5 q.1 ∙ ap (before q.2) (fault_is q.3 q.1 f q.6),
  );
}
