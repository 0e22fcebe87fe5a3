-- What the bytes of a header that has come to a state are, by the grammar.
use Rattle.std.proofs.Common.{◌≡◌, ℕ, ◌+◌, ◌-◌, ◌*◌, ◌<◌, ◌≤◌, ◌==◌, ◌&&◌, min, nat_le, Bool, true, false, IsTrue, List, [], ◌∷◌, ◌++◌, length, Option, Some, None, refl, sym, ap, subst, ◌∙◌, inl, inr, arith, eqb-true, length-append}
use Rattle.std.specs.List.{concat, AllByRecursion}
use Rattle.std.proofs.lemmas.Bool.{and_parts, leb-true}
use Rattle.std.proofs.lemmas.List.{append-nil, append_assoc}
use Rattle.std.proofs.lemmas.List.Folds.{concat-append}
use Rattle.sheet_core.specs.declared.pbm.state.State.{State}
use Rattle.sheet_core.specs.declared.pbm.state.State.TheVariants.{Start, Magic, Blanks, Number, Comment}
use Rattle.sheet_core.specs.declared.pbm.state.Step.TheVariants.{Goes}
use Rattle.sheet_core.specs.pbm.Grammar.{IsBlank, IsNumeral, number_from}
use Rattle.sheet_core.specs.pbm.Headers.{grown, header_step, is_line_end, is_size, is_white}
use Rattle.element_core.specs.Elements.{is_digit}
use Rattle.sheet_core.specs.pbm.Refusals.{EndsInNumber, IsBeginning, IsLead}
use Rattle.sheet_core.proofs.pbm.HeaderPieces.{if_is, refused_goes, done_goes, same_state}

-- ---- the bytes of a state

pub record ComesToBlanks (w : Option ℕ) (some : Bool) (bytes : List ℕ) : Type 0 where
  pub lead : List ℕ
  pub blanks : List (List ℕ)
  pub lead_is : IsLead w lead
  pub each : AllByRecursion IsBlank blanks
  pub enough : some ≡ true → 0 < length blanks
  pub joined : bytes ≡ lead ++ concat blanks

pub record ComesToComment (w : Option ℕ) (bytes : List ℕ) : Type 0 where
  pub lead : List ℕ
  pub blanks : List (List ℕ)
  pub text : List ℕ
  pub lead_is : IsLead w lead
  pub each : AllByRecursion IsBlank blanks
  pub inside : AllByRecursion (λ c. is_line_end c ≡ false) text
  pub joined : bytes ≡ lead ++ (concat blanks ++ 35 ∷ text)

-- a number that is counted up to 65,536
pub record ComesToNumber (w : Option ℕ) (n : ℕ) (bytes : List ℕ) : Type 0 where
  pub number : ℕ
  pub is : EndsInNumber w number bytes
  pub counted : n ≡ min number 65536

abbrev pub Comes : State → List ℕ → Type 0
Comes Start bytes = bytes ≡ []
Comes Magic bytes = bytes ≡ 80 ∷ []
Comes (Blanks w some) bytes = ComesToBlanks w some bytes
Comes (Comment w) bytes = ComesToComment w bytes
Comes (Number w n) bytes = ComesToNumber w n bytes

-- each is a beginning of a header
pub beginning_of : (s : State) (bytes : List ℕ) → Comes s bytes → IsBeginning bytes
beginning_of Start bytes h = inl h
beginning_of Magic bytes h = inr (inl h)
beginning_of (Blanks w some) bytes h =
    inr (inr (inl (
      w,
      record {
        lead = h.lead;
        blanks = h.blanks;
        comment = [];
        lead_is = h.lead_is;
        each = h.each;
        comment_is = tt;
        joined =
            h.joined ∙ ap (λ bs. h.lead ++ bs) (sym (append-nil (concat h.blanks)));
      },
    )))
beginning_of (Comment w) bytes h =
    inr (inr (inl (
      w,
      record {
        lead = h.lead;
        blanks = h.blanks;
        comment = 35 ∷ h.text;
        lead_is = h.lead_is;
        each = h.each;
        comment_is =
            (refl, h.inside);
        joined = h.joined;
      },
    )))
beginning_of (Number w n) bytes h = inr (inr (inr (w, h.number, h.is)))

-- after `P4` there are two bytes at least
lead_length : (w : Option ℕ) (lead : List ℕ) → IsLead w lead → 2 ≤ length lead
lead_length None lead h = omega (arith, ap length h)
lead_length (Some n) lead h = omega (arith, ap length h.4)

abbrev pub IsPastMagic : State → Type 0
IsPastMagic Start = ⊥
IsPastMagic Magic = ⊥
IsPastMagic _ = Unit {0}

pub past_magic : (s : State) (bytes : List ℕ) → Comes s bytes → IsPastMagic s → 2 ≤ length bytes
past_magic Start bytes h p = absurd p
past_magic Magic bytes h p = absurd p
past_magic (Blanks w some) bytes h p = let two = lead_length w h.lead h.lead_is in omega (arith, ap length h.joined, length-append h.lead (concat h.blanks))
past_magic (Comment w) bytes h p = let two = lead_length w h.lead h.lead_is in
    omega (arith, ap length h.joined, length-append h.lead (concat h.blanks ++ 35 ∷ h.text))
past_magic (Number w n) bytes h p =
    let two = lead_length w h.is.lead h.is.lead_is in omega (arith, ap length h.is.joined, length-append h.is.lead (concat h.is.blanks ++ h.is.digits))

-- ---- one byte more

all_push : {X : Type 0} (P : X → Type 0) (xs : List X) (x : X) → AllByRecursion P xs → P x → AllByRecursion P (xs ++ x ∷ [])
all_push P [] x h p = (p, tt)
all_push P (y ∷ xs) x h p = (h.0, all_push P xs x h.1 p)

concat_push : (xs : List (List ℕ)) (x : List ℕ) → concat (xs ++ x ∷ []) ≡ concat xs ++ x
concat_push xs x = concat-append xs (x ∷ []) ∙ ap (λ bs. concat xs ++ bs) (append-nil x)

number_from_push : (n : ℕ) (digits : List ℕ) (b : ℕ) → number_from n (digits ++ b ∷ []) ≡ 10 * number_from n digits + (b - 48)
number_from_push n [] b = refl
number_from_push n (d ∷ digits) b = number_from_push (10 * n + (d - 48)) digits b

regroup : (bytes lead front more : List ℕ) → bytes ≡ lead ++ front → bytes ++ more ≡ lead ++ (front ++ more)
regroup bytes lead front more e = ap (λ bs. bs ++ more) e ∙ append_assoc lead front more

white : (w : Option ℕ) (some : Bool) (b : ℕ) (bytes : List ℕ) → is_white b ≡ true → ComesToBlanks w some bytes → ComesToBlanks w true (bytes ++ b ∷ [])
white w some b bytes e h = record {
  lead = h.lead;
  blanks = h.blanks ++ (b ∷ []) ∷ [];
  lead_is = h.lead_is;
  each = all_push IsBlank h.blanks (b ∷ []) h.each (inl (e, refl));
  enough = λ _. omega (arith, length-append h.blanks ((b ∷ []) ∷ []));
  joined = regroup bytes h.lead (concat h.blanks) (b ∷ []) h.joined ∙ ap (λ bs. h.lead ++ bs) (sym (concat_push h.blanks (b ∷ [])));
}

sharp : (w : Option ℕ) (some : Bool) (b : ℕ) (bytes : List ℕ) → b ≡ 35 → ComesToBlanks w some bytes → ComesToComment w (bytes ++ b ∷ [])
sharp w some b bytes e h = record {
  lead = h.lead;
  blanks = h.blanks;
  text = [];
  lead_is = h.lead_is;
  each = h.each;
  inside = tt;
  joined = regroup bytes h.lead (concat h.blanks) (b ∷ []) h.joined ∙ ap (λ c. h.lead ++ (concat h.blanks ++ c ∷ [])) e;
}

first_digit : (w : Option ℕ) (b : ℕ) (bytes : List ℕ) → is_digit b ≡ true → ComesToBlanks w true bytes → ComesToNumber w (b - 48) (bytes ++ b ∷ [])
first_digit w b bytes d h =
    let p = and_parts (nat_le 48 b) (nat_le b 57) d in
    let high = leb-true b 57 p.1 in
    record {
      number = 10 * 0 + (b - 48);
      is = record {
        lead = h.lead;
        blanks = h.blanks;
        digits = b ∷ [];
        lead_is = h.lead_is;
        blanks_are = record { some = h.enough refl; each = h.each };
        digits_are = record { some = omega arith; each = (d, tt); value = refl };
        joined = regroup bytes h.lead (concat h.blanks) (b ∷ []) h.joined;
      };
      counted = omega arith;
    }

line_end : (w : Option ℕ) (b : ℕ) (bytes : List ℕ) → is_line_end b ≡ true → ComesToComment w bytes → ComesToBlanks w true (bytes ++ b ∷ [])
line_end w b bytes e h =
    let comment : List ℕ = 35 ∷ (h.text ++ b ∷ []) in
    record {
      lead = h.lead;
      blanks = h.blanks ++ comment ∷ [];
      lead_is = h.lead_is;
      each = all_push IsBlank h.blanks comment h.each (inr (refl, record { text = h.text; end = b; joined = refl; inside = h.inside; ends = e }));
      enough = λ _. omega (arith, length-append h.blanks (comment ∷ []));
      joined =
          regroup bytes h.lead (concat h.blanks ++ 35 ∷ h.text) (b ∷ []) h.joined
          ∙ ap (λ bs. h.lead ++ bs) (append_assoc (concat h.blanks) (35 ∷ h.text) (b ∷ []) ∙ sym (concat_push h.blanks comment));
    }

in_comment : (w : Option ℕ) (b : ℕ) (bytes : List ℕ) → is_line_end b ≡ false → ComesToComment w bytes → ComesToComment w (bytes ++ b ∷ [])
in_comment w b bytes e h = record {
  lead = h.lead;
  blanks = h.blanks;
  text = h.text ++ b ∷ [];
  lead_is = h.lead_is;
  each = h.each;
  inside = all_push (λ c. is_line_end c ≡ false) h.text b h.inside e;
  joined = regroup bytes h.lead (concat h.blanks ++ 35 ∷ h.text) (b ∷ []) h.joined
      ∙ ap (λ bs. h.lead ++ bs) (append_assoc (concat h.blanks) (35 ∷ h.text) (b ∷ []));
}

digit : (w : Option ℕ) (n b : ℕ) (bytes : List ℕ) → is_digit b ≡ true → ComesToNumber w n bytes → ComesToNumber w (grown n b) (bytes ++ b ∷ [])
digit w n b bytes d h =
    let counted = h.counted in
    let is = h.is in
    record {
      number = 10 * h.number + (b - 48);
      is = record {
        lead = is.lead;
        blanks = is.blanks;
        digits = is.digits ++ b ∷ [];
        lead_is = is.lead_is;
        blanks_are = is.blanks_are;
        digits_are = record {
          some = omega (arith, length-append is.digits (b ∷ []));
          each = all_push (λ c. IsTrue (is_digit c)) is.digits b is.digits_are.each d;
          value = ap (λ k. 10 * k + (b - 48)) is.digits_are.value ∙ sym (number_from_push 0 is.digits b);
        };
        joined = regroup bytes is.lead (concat is.blanks ++ is.digits) (b ∷ []) is.joined
            ∙ ap (λ bs. is.lead ++ bs) (append_assoc (concat is.blanks) is.digits (b ∷ []));
      };
      counted = omega arith;
    }

-- a width of a right size leads on to the height
pub width_known : (n : ℕ) (bytes : List ℕ) → is_size n ≡ true → ComesToNumber None n bytes → IsLead (Some n) bytes
width_known n bytes s h =
    let p = and_parts (nat_le 1 n) (nat_le n 65535) s in
    let low = leb-true 1 n p.0 in
    let high = leb-true n 65535 p.1 in
    let counted = h.counted in
    let same : h.number ≡ n = omega arith in
    let is = h.is in (
      is.blanks,
      is.digits,
      is.blanks_are,
      record { numeral = subst (IsNumeral is.digits) same is.digits_are; least = low; most = high },
      is.joined
          ∙ ap (λ l. l ++ (concat is.blanks ++ is.digits)) is.lead_is,
    )

white_after : (n b : ℕ) (bytes : List ℕ) → is_size n ≡ true → is_white b ≡ true → ComesToNumber None n bytes → ComesToBlanks (Some n) true (bytes ++ b ∷ [])
white_after n b bytes s e h = record {
  lead = bytes;
  blanks = (b ∷ []) ∷ [];
  lead_is = width_known n bytes s h;
  each = (inl (e, refl), tt);
  enough = λ _. omega arith;
  joined = refl;
}

sharp_after : (n b : ℕ) (bytes : List ℕ) → is_size n ≡ true → b ≡ 35 → ComesToNumber None n bytes → ComesToComment (Some n) (bytes ++ b ∷ [])
sharp_after n b bytes s e h = record {
  lead = bytes;
  blanks = [];
  text = [];
  lead_is = width_known n bytes s h;
  each = tt;
  inside = tt;
  joined = ap (λ c. bytes ++ c ∷ []) e;
}

-- ---- by what the byte does

moved : (s t : State) (bytes : List ℕ) → Goes s ≡ Goes t → Comes s bytes → Comes t bytes
moved s t bytes e h = subst (λ u. Comes u bytes) (same_state s t e) h

pub comes : (s t : State) (b : ℕ) (bytes : List ℕ) → header_step s b ≡ Goes t → Comes s bytes → Comes t (bytes ++ b ∷ [])
comes Start t b bytes e h =
    elim (if_is (b == 80) _ _ (Goes t) e) [
      | inl x ↦ moved Magic t (bytes ++ b ∷ []) x.1 (ap (λ bs. bs ++ b ∷ []) h ∙ ap (λ c. c ∷ []) (eqb-true b 80 x.0))
      | inr x ↦ absurd (refused_goes _ t x.1)
    ]
comes Magic t b bytes e h =
    elim (if_is (b == 52) _ _ (Goes t) e) [
      | inl x ↦ moved (Blanks None false) t (bytes ++ b ∷ []) x.1 (record {
        lead = bytes ++ b ∷ [];
        blanks = [];
        lead_is = ap (λ bs. bs ++ b ∷ []) h ∙ ap (λ c. 80 ∷ c ∷ []) (eqb-true b 52 x.0);
        each = tt;
        enough = λ k. absurd cc;
        joined = sym (append-nil (bytes ++ b ∷ []));
      })
      | inr x ↦ absurd (refused_goes _ t x.1)
    ]
comes (Blanks w some) t b bytes e h =
    elim (if_is (is_white b) _ _ (Goes t) e) [
      | inl x ↦ moved (Blanks w true) t (bytes ++ b ∷ []) x.1 (white w some b bytes x.0 h)
      | inr x ↦ elim (if_is (b == 35) _ _ (Goes t) x.1) [
        | inl y ↦ moved (Comment w) t (bytes ++ b ∷ []) y.1 (sharp w some b bytes (eqb-true b 35 y.0) h)
        | inr y ↦ elim (if_is (some && is_digit b) _ _ (Goes t) y.1) [
          | inl z ↦
              let p = and_parts some (is_digit b) z.0 in
              moved (Number w (b - 48)) t (bytes ++ b ∷ []) z.1 (first_digit w b bytes p.1 (subst (λ k. ComesToBlanks w k bytes) p.0 h))
          | inr z ↦ absurd (refused_goes _ t z.1)
        ]
      ]
    ]
comes (Comment w) t b bytes e h =
    elim (if_is (is_line_end b) _ _ (Goes t) e) [
      | inl x ↦ moved (Blanks w true) t (bytes ++ b ∷ []) x.1 (line_end w b bytes x.0 h)
      | inr x ↦ moved (Comment w) t (bytes ++ b ∷ []) x.1 (in_comment w b bytes x.0 h)
    ]
comes (Number None n) t b bytes e h =
    elim (if_is (is_digit b) _ _ (Goes t) e) [
      | inl x ↦ moved (Number None (grown n b)) t (bytes ++ b ∷ []) x.1 (digit None n b bytes x.0 h)
      | inr x ↦ elim (if_is (is_white b) _ _ (Goes t) x.1) [
        | inl y ↦ elim (if_is (is_size n) _ _ (Goes t) y.1) [
          | inl z ↦ moved (Blanks (Some n) true) t (bytes ++ b ∷ []) z.1 (white_after n b bytes z.0 y.0 h)
          | inr z ↦ absurd (refused_goes _ t z.1)
        ]
        | inr y ↦ elim (if_is (b == 35) _ _ (Goes t) y.1) [
          | inl z ↦ elim (if_is (is_size n) _ _ (Goes t) z.1) [
            | inl u ↦ moved (Comment (Some n)) t (bytes ++ b ∷ []) u.1 (sharp_after n b bytes u.0 (eqb-true b 35 z.0) h)
            | inr u ↦ absurd (refused_goes _ t u.1)
          ]
          | inr z ↦ absurd (refused_goes _ t z.1)
        ]
      ]
    ]
comes (Number (Some w) n) t b bytes e h =
    elim (if_is (is_digit b) _ _ (Goes t) e) [
      | inl x ↦ moved (Number (Some w) (grown n b)) t (bytes ++ b ∷ []) x.1 (digit (Some w) n b bytes x.0 h)
      | inr x ↦ elim (if_is (is_white b) _ _ (Goes t) x.1) [
        | inl y ↦ elim (if_is (is_size n) _ _ (Goes t) y.1) [ inl z ↦ absurd (done_goes _ t z.1) | inr z ↦ absurd (refused_goes _ t z.1) ]
        | inr y ↦ absurd (refused_goes _ t y.1)
      ]
    ]
