-- What the grammar says is a header is read as that header.
use Rattle.std.proofs.Common.{◌≡◌, ℕ, suc, ◌+◌, ◌-◌, ◌*◌, ◌≤◌, ◌==◌, ◌&&◌, min, Bool, true, false, IsTrue, List, [], ◌∷◌, ◌++◌, length, Option, Some, None, Ok, refl, sym, ap, ap₂, subst, ◌∙◌, inl, inr, arith, add-one}
use Rattle.std.specs.Prelude.{if◌then◌else◌}
use Rattle.std.specs.List.{concat, AllByRecursion}
use Rattle.std.proofs.lemmas.Bool.Decides.{nat_tests}
use Rattle.std.proofs.lemmas.List.{append_assoc, length-append}
use Rattle.sheet_core.specs.declared.fault.PbmFault.TheVariants.{PbmHeader, PbmSize}
use Rattle.sheet_core.specs.declared.pbm.state.Size.{Size}
use Rattle.sheet_core.specs.declared.pbm.state.State.{State}
use Rattle.sheet_core.specs.declared.pbm.state.State.TheVariants.{Start, Magic, Blanks, Number, Comment}
use Rattle.sheet_core.specs.declared.pbm.state.Step.TheVariants.{Goes, Done, Refused}
use Rattle.sheet_core.specs.pbm.Headers.{is_white, is_line_end, is_size, grown, header_step, after_header_step, header_by}
use Rattle.element_core.specs.Elements.{is_digit}
use Rattle.sheet_core.specs.pbm.Grammar.{IsComment, IsBlank, AreBlanks, number_from, IsNumeral, IsNumber, IsHeader}

-- these bytes lead from a state to another
pub record Leads (s t : State) (bytes : List ℕ) : Type 0 where
  pub at : (limit : ℕ) (more : List ℕ) → header_by (limit + length bytes) s (bytes ++ more) ≡ header_by limit t more

pub nothing : (s : State) → Leads s s []
nothing s = record { at = λ limit more. ap (λ n. header_by n s more) (let e : limit + length {A = ℕ} [] ≡ limit = omega arith in e) }

pub one : (s t : State) (b : ℕ) → header_step s b ≡ Goes t → Leads s t (b ∷ [])
one s t b e = record {
  at = λ limit more. ap (λ n. header_by n s (b ∷ more)) (add-one limit)
      ∙ ap (λ x. after_header_step x (λ t. header_by limit t more) more) e;
}

pub both : (s t u : State) (xs ys : List ℕ) → Leads s t xs → Leads t u ys → Leads s u (xs ++ ys)
both s t u xs ys h k = record {
  at = λ limit more.
      ap₂ (λ n bytes. header_by n s bytes) (let l = length-append xs ys in let e : limit + length (xs ++ ys) ≡ (limit + length ys) + length xs =
      omega arith in e) (append_assoc xs ys more)
      ∙ h.at (limit + length ys) (ys ++ more) ∙ k.at limit more;
}

pub comment_text : (w : Option ℕ) (text : List ℕ) → AllByRecursion (λ b. is_line_end b ≡ false) text → Leads (Comment w) (Comment w) text
comment_text w [] h = nothing (Comment w)
comment_text w (b ∷ text) h =
    both (Comment w) (Comment w) (Comment w) (b ∷ []) text (one (Comment w) (Comment w) b (ap (λ x. if x then Goes (Blanks w true) else Goes (Comment w)) h.0))
    (comment_text w text h.1)

comment : (w : Option ℕ) (bytes : List ℕ) → IsComment bytes → Leads (Comment w) (Blanks w true) bytes
comment w bytes c =
    subst (Leads (Comment w) (Blanks w true)) (sym c.joined)
    (both (Comment w) (Comment w) (Blanks w true) c.text (c.end ∷ []) (comment_text w c.text c.inside)
    (one (Comment w) (Blanks w true) c.end (ap (λ x. if x then Goes (Blanks w true) else Goes (Comment w)) c.ends)))

blank : (w : Option ℕ) (some : Bool) (bytes : List ℕ) → IsBlank bytes → Leads (Blanks w some) (Blanks w true) bytes
blank w some [] h = absurd h
blank w some (b ∷ bytes) h =
    elim h [
      | inl white ↦
          subst (λ bs. Leads (Blanks w some) (Blanks w true) (b ∷ bs)) (sym white.1)
          (one (Blanks w some) (Blanks w true) b
          (ap (λ x. if x then Goes (Blanks w true) else if b == 35 then Goes (Comment w) else if some && is_digit b then Goes (Number w (b - 48)) else Refused
          PbmHeader) white.0))
      | inr sharp ↦
          subst (λ c. Leads (Blanks w some) (Blanks w true) (c ∷ bytes)) (sym sharp.0)
          (both (Blanks w some) (Comment w) (Blanks w true) (35 ∷ []) bytes (one (Blanks w some) (Comment w) 35 refl) (comment w bytes sharp.1))
    ]

pub blanks : (w : Option ℕ) (all : List (List ℕ)) → AllByRecursion IsBlank all → Leads (Blanks w true) (Blanks w true) (concat all)
blanks w [] h = nothing (Blanks w true)
blanks w (x ∷ all) h = both (Blanks w true) (Blanks w true) (Blanks w true) x (concat all) (blank w true x h.0) (blanks w all h.1)

pub blanks_first : (w : Option ℕ) (all : List (List ℕ)) → AreBlanks all → Leads (Blanks w false) (Blanks w true) (concat all)
blanks_first w [] h = absurd (let n = h.some in omega arith)
blanks_first w (x ∷ all) h = both (Blanks w false) (Blanks w true) (Blanks w true) x (concat all) (blank w false x h.each.0) (blanks w all h.each.1)

-- ---- numbers

pub of_digit : (b : ℕ) → is_digit b ≡ true → (is_white b ≡ false) × ((b == 35) ≡ false) × (b ≤ 57)
of_digit b h = (grind (arith, nat_tests), grind (arith, nat_tests), grind (arith, nat_tests))

pub of_white : (b : ℕ) → is_white b ≡ true → is_digit b ≡ false
of_white b h = grind (arith, nat_tests)

abbrev capped : ℕ → List ℕ → ℕ
capped n [] = n
capped n (b ∷ digits) = capped (grown n b) digits

capped_is : (digits : List ℕ) (n : ℕ) → capped (min n 65536) digits ≡ min (number_from n digits) 65536
capped_is [] n = refl
capped_is (b ∷ digits) n =
    let same : grown (min n 65536) b ≡ min (10 * n + (b - 48)) 65536 = omega arith in
    ap (λ m. capped m digits) same ∙ capped_is digits (10 * n + (b - 48))

digit : (w : Option ℕ) (n b : ℕ) → is_digit b ≡ true → header_step (Number w n) b ≡ Goes (Number w (grown n b))
digit None n b h =
    ap (λ x. if x then Goes (Number None (grown n b)) else if is_white b then (if is_size n then Goes (Blanks (Some n) true) else Refused PbmSize) else if b ==
    35 then (if is_size n then Goes (Comment (Some n)) else Refused PbmSize) else Refused PbmHeader) h
digit (Some w) n b h =
    ap (λ x. if x then Goes (Number (Some w) (grown n b)) else if is_white b then
    (if is_size n then Done (record { width = w; height = n }) else Refused PbmSize) else Refused PbmHeader) h

digits : (w : Option ℕ) (n : ℕ) (ds : List ℕ) → AllByRecursion (λ b. IsTrue (is_digit b)) ds → Leads (Number w n) (Number w (capped n ds)) ds
digits w n [] h = nothing (Number w n)
digits w n (b ∷ ds) h =
    both (Number w n) (Number w (grown n b)) (Number w (capped (grown n b) ds)) (b ∷ []) ds (one (Number w n) (Number w (grown n b)) b (digit w n b h.0))
    (digits w (grown n b) ds h.1)

first : (w : Option ℕ) (b : ℕ) → is_digit b ≡ true → header_step (Blanks w true) b ≡ Goes (Number w (b - 48))
first w b h =
    let t = of_digit b h in
    ap (λ x. if x then Goes (Blanks w true) else if b == 35 then Goes (Comment w) else if is_digit b then Goes (Number w (b - 48)) else Refused PbmHeader) t.0
    ∙ ap (λ x. if x then Goes (Comment w) else if is_digit b then Goes (Number w (b - 48)) else Refused PbmHeader) t.1
    ∙ ap (λ x. if x then Goes (Number w (b - 48)) else Refused PbmHeader) h

-- a number of any size; what is above 65,535 stays so
pub numeral : (w : Option ℕ) (n : ℕ) (ds : List ℕ) → IsNumeral ds n → Leads (Blanks w true) (Number w (min n 65536)) ds
numeral w n [] h = absurd (let s = h.some in omega arith)
numeral w n (b ∷ ds) h =
    let low = (of_digit b h.each.0).2 in
    let value : capped (b - 48) ds ≡ min n 65536 =
    ap (λ k. capped k ds) (let e : b - 48 ≡ min (10 * 0 + (b - 48)) 65536 = omega arith in e) ∙ capped_is ds (10 * 0 + (b - 48))
    ∙ ap (λ k. min k 65536) (sym h.value) in
    subst (λ k. Leads (Blanks w true) (Number w k) (b ∷ ds)) value
    (both (Blanks w true) (Number w (b - 48)) (Number w (capped (b - 48) ds)) (b ∷ []) ds (one (Blanks w true) (Number w (b - 48)) b (first w b h.each.0))
    (digits w (b - 48) ds h.each.1))

pub number : (w : Option ℕ) (n : ℕ) (ds : List ℕ) → IsNumber ds n → Leads (Blanks w true) (Number w n) ds
number w n ds h =
    let most = h.most in
    subst (λ k. Leads (Blanks w true) (Number w k) ds) (let e : min n 65536 ≡ n = omega arith in e) (numeral w n ds h.numeral)

pub sized : (n : ℕ) → 1 ≤ n → n ≤ 65535 → is_size n ≡ true
sized n a b = grind (arith, nat_tests)

-- a blank that ends the width
pub blank_after : (n : ℕ) → is_size n ≡ true → (bytes : List ℕ) → IsBlank bytes → Leads (Number None n) (Blanks (Some n) true) bytes
blank_after n size [] h = absurd h
blank_after n size (b ∷ bytes) h =
    elim h [
      | inl white ↦
          subst (λ bs. Leads (Number None n) (Blanks (Some n) true) (b ∷ bs)) (sym white.1)
          (one (Number None n) (Blanks (Some n) true) b
          (ap (λ x. if x then Goes (Number None (grown n b)) else if is_white b then (if is_size n then Goes (Blanks (Some n) true) else Refused PbmSize) else
          if b == 35 then (if is_size n then Goes (Comment (Some n)) else Refused PbmSize) else Refused PbmHeader) (of_white b white.0)
          ∙ ap (λ x. if x then (if is_size n then Goes (Blanks (Some n) true) else Refused PbmSize) else if b == 35 then
          (if is_size n then Goes (Comment (Some n)) else Refused PbmSize) else Refused PbmHeader) white.0
          ∙ ap (λ x. if x then Goes (Blanks (Some n) true) else Refused PbmSize) size))
      | inr sharp ↦
          subst (λ c. Leads (Number None n) (Blanks (Some n) true) (c ∷ bytes)) (sym sharp.0)
          (both (Number None n) (Comment (Some n)) (Blanks (Some n) true) (35 ∷ []) bytes
          (one (Number None n) (Comment (Some n)) 35 (ap (λ x. if x then Goes (Comment (Some n)) else Refused PbmSize) size)) (comment (Some n) bytes sharp.1))
    ]

pub blanks_after : (n : ℕ) → is_size n ≡ true → (all : List (List ℕ)) → AreBlanks all → Leads (Number None n) (Blanks (Some n) true) (concat all)
blanks_after n size [] h = absurd (let s = h.some in omega arith)
blanks_after n size (x ∷ all) h = both (Number None n) (Blanks (Some n) true) (Blanks (Some n) true) x (concat all) (blank_after n size x h.each.0)
    (blanks (Some n) all h.each.1)

pub grammar_read : (bytes rest : List ℕ) (size : Size) → IsHeader bytes size → length bytes ≤ 4096 → header_by 4096 Start (bytes ++ rest) ≡ (Ok size, rest)
grammar_read bytes rest size h few =
    let w : ℕ = size.width in
    let n : ℕ = size.height in
    let front : List ℕ = concat h.before ++ (h.width ++ (concat h.between ++ h.height)) in
    let wide = h.width_is in let high = h.height_is in
    let ws : is_size w ≡ true = sized w wide.least wide.most in
    let hs : is_size n ≡ true = sized n high.least high.most in
    let l4 = both (Number None w) (Blanks (Some w) true) (Number (Some w) n) (concat h.between) h.height (blanks_after w ws h.between h.between_is)
    (number (Some w) n h.height high) in
    let l3 = both (Blanks None true) (Number None w) (Number (Some w) n) h.width (concat h.between ++ h.height) (number None w h.width wide) l4 in
    let l2 = both (Blanks None false) (Blanks None true) (Number (Some w) n) (concat h.before) (h.width ++ (concat h.between ++ h.height))
    (blanks_first None h.before h.before_is) l3 in
    let l1 = both Magic (Blanks None false) (Number (Some w) n) (52 ∷ []) front (one Magic (Blanks None false) 52 refl) l2 in
    let l0 = both Start Magic (Number (Some w) n) (80 ∷ []) (52 ∷ front) (one Start Magic 80 refl) l1 in
    let shape : bytes ≡ 80 ∷ 52 ∷ (front ++ h.last ∷ []) =
    h.joined ∙ ap (λ bs. 80 ∷ 52 ∷ bs) (sym (
    append_assoc (concat h.before) (h.width ++ (concat h.between ++ h.height)) (h.last ∷ [])
    ∙ ap (λ bs. concat h.before ++ bs) (append_assoc h.width (concat h.between ++ h.height) (h.last ∷ [])
    ∙ ap (λ bs. h.width ++ bs) (append_assoc (concat h.between) h.height (h.last ∷ []))))) in
    let long : length bytes ≡ length (80 ∷ 52 ∷ front) + 1 = ap length shape ∙ (let l = length-append front (h.last ∷ []) in omega arith) in
    let left : ℕ = 4096 - length (80 ∷ 52 ∷ front) in
    let whole : bytes ++ rest ≡ (80 ∷ 52 ∷ front) ++ h.last ∷ rest =
    ap (λ bs. bs ++ rest) shape ∙ ap (λ bs. 80 ∷ 52 ∷ bs) (append_assoc front (h.last ∷ []) rest) in
    ap₂ (λ k bs. header_by k Start bs) (let e : 4096 ≡ left + length (80 ∷ 52 ∷ front) = omega arith in e) whole
    ∙ l0.at left (h.last ∷ rest)
    ∙ ap (λ k. header_by k (Number (Some w) n) (h.last ∷ rest)) (let e : left ≡ suc (left - 1) = omega arith in e)
    ∙ ap (λ x. after_header_step (if x then Goes (Number (Some w) (grown n h.last)) else if is_white h.last then
    (if is_size n then Done size else Refused PbmSize) else Refused PbmHeader) (λ t. header_by (left - 1) t rest) rest) (of_white h.last h.last_is)
    ∙ ap (λ x. after_header_step (if x then (if is_size n then Done size else Refused PbmSize) else Refused PbmHeader) (λ t. header_by (left - 1) t rest) rest)
    h.last_is
    ∙ ap (λ x. after_header_step (if x then Done size else Refused PbmSize) (λ t. header_by (left - 1) t rest) rest) hs
