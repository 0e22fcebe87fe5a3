-- What is read as a header has the pieces of one.
use Rattle.std.proofs.Common.{◌≡◌, ◌⊎◌, ℕ, ◌+◌, ◌-◌, ◌*◌, ◌<◌, ◌≤◌, ◌==◌, ◌&&◌, nat_le, Bool, true, false, IsTrue, List, [], ◌∷◌, ◌++◌, length, Option, Some, None, refl, sym, ap, subst, ◌∙◌, inl, inr, arith, eqb-true}
use Rattle.std.specs.Prelude.{if◌then◌else◌}
use Rattle.std.specs.List.{concat, AllByRecursion}
use Rattle.std.proofs.lemmas.Bool.{and_parts, leb-true}
use Rattle.std.proofs.lemmas.List.{append_assoc}
use Rattle.sheet_core.specs.declared.fault.PbmFault.{PbmFault}
use Rattle.sheet_core.specs.declared.pbm.state.Size.{Size}
use Rattle.sheet_core.specs.declared.pbm.state.State.{State}
use Rattle.sheet_core.specs.declared.pbm.state.State.TheVariants.{Start, Magic, Blanks, Number, Comment}
use Rattle.sheet_core.specs.declared.pbm.state.Step.{Step}
use Rattle.sheet_core.specs.declared.pbm.state.Step.TheVariants.{Goes, Done, Refused}
use Rattle.sheet_core.specs.pbm.Grammar.{IsBlank, IsComment, IsNumber, number_from}
use Rattle.sheet_core.specs.pbm.Headers.{grown, header_step, is_line_end, is_size, is_white, number_step}
use Rattle.element_core.specs.Elements.{is_digit}

-- ---- the pieces that are left

-- blanks, one at least where none has come, and what comes after them
pub record BlanksThen (some : Bool) (P : List ℕ → Type 0) (bytes : List ℕ) : Type 0 where
  pub blanks : List (List ℕ)
  pub rest : List ℕ
  pub each : AllByRecursion IsBlank blanks
  pub enough : some ≡ false → 0 < length blanks
  pub joined : bytes ≡ concat blanks ++ rest
  pub behind : P rest

-- the end of a comment, and what comes after it
pub record CommentThen (P : List ℕ → Type 0) (bytes : List ℕ) : Type 0 where
  pub comment : List ℕ
  pub rest : List ℕ
  pub is : IsComment comment
  pub joined : bytes ≡ comment ++ rest
  pub behind : P rest

-- further digits of a number, and what comes after them
pub record DigitsThen (n m : ℕ) (P : List ℕ → Type 0) (bytes : List ℕ) : Type 0 where
  pub digits : List ℕ
  pub rest : List ℕ
  pub each : AllByRecursion (λ b. IsTrue (is_digit b)) digits
  pub value : m ≡ number_from n digits
  pub least : 1 ≤ m
  pub most : m ≤ 65535
  pub joined : bytes ≡ digits ++ rest
  pub behind : P rest

-- a number, and what comes after it
pub record NumberThen (m : ℕ) (P : List ℕ → Type 0) (bytes : List ℕ) : Type 0 where
  pub digits : List ℕ
  pub rest : List ℕ
  pub is : IsNumber digits m
  pub joined : bytes ≡ digits ++ rest
  pub behind : P rest

-- the one byte after the height
abbrev pub Last : List ℕ → Type 0
Last bytes = (b : ℕ) × IsTrue (is_white b) × (bytes ≡ b ∷ [])

abbrev pub Height : Size → List ℕ → Type 0
Height size = NumberThen size.height Last

abbrev pub Width : Size → List ℕ → Type 0
Width size = NumberThen size.width (BlanksThen false (Height size))

-- the bytes end a header of this size from the state on
abbrev pub Ends : Size → State → List ℕ → Type 0
Ends size Start bytes = (rest : List ℕ) × (bytes ≡ 80 ∷ rest) × (tail : List ℕ) × (rest ≡ 52 ∷ tail) × BlanksThen false (Width size) tail
Ends size Magic bytes = (tail : List ℕ) × (bytes ≡ 52 ∷ tail) × BlanksThen false (Width size) tail
Ends size (Blanks None some) bytes = BlanksThen some (Width size) bytes
Ends size (Blanks (Some w) some) bytes = (w ≡ size.width) × BlanksThen some (Height size) bytes
Ends size (Comment None) bytes = CommentThen (BlanksThen true (Width size)) bytes
Ends size (Comment (Some w)) bytes = (w ≡ size.width) × CommentThen (BlanksThen true (Height size)) bytes
Ends size (Number None n) bytes = DigitsThen n size.width (BlanksThen false (Height size)) bytes
Ends size (Number (Some w) n) bytes = (w ≡ size.width) × DigitsThen n size.height Last bytes

-- ---- one byte more before them

white : (some : Bool) (P : List ℕ → Type 0) (b : ℕ) (bytes : List ℕ) → is_white b ≡ true → BlanksThen true P bytes → BlanksThen some P (b ∷ bytes)
white some P b bytes w h = record {
  blanks = (b ∷ []) ∷ h.blanks;
  rest = h.rest;
  each = (inl (w, refl), h.each);
  enough = λ e. omega arith;
  joined = ap (λ bs. b ∷ bs) h.joined;
  behind = h.behind;
}

sharp : (some : Bool) (P : List ℕ → Type 0) (b : ℕ) (bytes : List ℕ) → b ≡ 35 → CommentThen (BlanksThen true P) bytes → BlanksThen some P (b ∷ bytes)
sharp some P b bytes s h = record {
  blanks = (b ∷ h.comment) ∷ h.behind.blanks;
  rest = h.behind.rest;
  each = (inr (s, h.is), h.behind.each);
  enough = λ e. omega arith;
  joined = ap (λ bs. b ∷ bs) (h.joined ∙ ap (λ bs. h.comment ++ bs) h.behind.joined ∙ sym (append_assoc h.comment (concat h.behind.blanks) h.behind.rest));
  behind = h.behind.behind;
}

line_end : (P : List ℕ → Type 0) (b : ℕ) (bytes : List ℕ) → is_line_end b ≡ true → P bytes → CommentThen P (b ∷ bytes)
line_end P b bytes e h = record {
  comment = b ∷ [];
  rest = bytes;
  is = record { text = []; end = b; joined = refl; inside = tt; ends = e };
  joined =
      refl;
  behind = h;
}

in_comment : (P : List ℕ → Type 0) (b : ℕ) (bytes : List ℕ) → is_line_end b ≡ false → CommentThen P bytes → CommentThen P (b ∷ bytes)
in_comment P b bytes e h = record {
  comment = b ∷ h.comment;
  rest = h.rest;
  is = record { text = b ∷ h.is.text; end = h.is.end; joined = ap (λ bs. b ∷ bs) h.is.joined; inside = (e, h.is.inside); ends = h.is.ends };
  joined = ap (λ bs. b ∷ bs) h.joined;
  behind = h.behind;
}

least_of : (n : ℕ) (digits : List ℕ) → n ≤ number_from n digits
least_of n [] = omega arith
least_of n (b ∷ digits) = let more = least_of (10 * n + (b - 48)) digits in omega arith

digit : (n m b : ℕ) (P : List ℕ → Type 0) (bytes : List ℕ) → is_digit b ≡ true → DigitsThen (grown n b) m P bytes → DigitsThen n m P (b ∷ bytes)
digit n m b P bytes d h = record {
  digits = b ∷ h.digits;
  rest = h.rest;
  each = (d, h.each);
  value =
      (let some = least_of (grown n b) h.digits in
      let value = h.value in
      let most = h.most in
      let small : grown n b ≡ 10 * n + (b - 48) = omega arith in
      value ∙ ap (λ k. number_from k h.digits) small);
  least = h.least;
  most = h.most;
  joined = ap (λ bs. b ∷ bs) h.joined;
  behind = h.behind;
}

first_digit : (m b : ℕ) (P : List ℕ → Type 0) (bytes : List ℕ) → is_digit b ≡ true → DigitsThen (b - 48) m P bytes → NumberThen m P (b ∷ bytes)
first_digit m b P bytes d h = record {
  digits = b ∷ h.digits;
  rest = h.rest;
  is = record {
    numeral = record {
      some = omega arith;
      each = (d, h.each);
      value = h.value ∙ ap (λ k. number_from k h.digits) (let e : b - 48 ≡ 10 * 0 + (b - 48) = omega arith in e);
    };
    least = h.least;
    most = h.most;
  };
  joined = ap (λ bs. b ∷ bs) h.joined;
  behind = h.behind;
}

no_digit : (n m : ℕ) (P : List ℕ → Type 0) (bytes : List ℕ) → is_size n ≡ true → m ≡ n → P bytes → DigitsThen n m P bytes
no_digit n m P bytes s e h =
    let p = and_parts (nat_le 1 n) (nat_le n 65535) s in
    let low = leb-true 1 n p.0 in let high = leb-true n 65535 p.1 in
    record { digits = []; rest = bytes; each = tt; value = e; least = omega arith; most = omega arith; joined = refl; behind = h }

blank_first : (P : List ℕ → Type 0) (bytes : List ℕ) → P bytes → BlanksThen true P bytes
blank_first P bytes h = record { blanks = []; rest = bytes; each = tt; enough = λ e. absurd cc; joined = refl; behind = h }

-- ---- what a step was

pub if_is : (c : Bool) (x y z : Step) → (if c then x else y) ≡ z → ((c ≡ true) × (x ≡ z)) ⊎ ((c ≡ false) × (y ≡ z))
if_is true x y z e = inl (refl, e)
if_is false x y z e = inr (refl, e)

pub refused_goes : (f : PbmFault) (t : State) → Refused f ≡ Goes t → ⊥
refused_goes f t e = cc

pub done_goes : (size : Size) (t : State) → Done size ≡ Goes t → ⊥
done_goes size t e = cc

pub goes_done : (s : State) (size : Size) → Goes s ≡ Done size → ⊥
goes_done s size e = cc

pub refused_done : (f : PbmFault) (size : Size) → Refused f ≡ Done size → ⊥
refused_done f size e = cc

pub same_state : (s t : State) → Goes s ≡ Goes t → s ≡ t
same_state s t e = cc

same_size : (s t : Size) → Done s ≡ Done t → s ≡ t
same_size s t e = cc

moved : (size : Size) (s t : State) (bytes : List ℕ) → Goes s ≡ Goes t → Ends size t bytes → Ends size s bytes
moved size s t bytes e h = subst (λ s. Ends size s bytes) (sym (same_state s t e)) h

blanks_goes : (size : Size) (w : Option ℕ) (P : List ℕ → Type 0) (some : Bool) (t : State) (b : ℕ) (bytes : List ℕ)
    → (Ends size (Blanks w true) bytes → BlanksThen true P bytes) → (Ends size (Comment w) bytes → CommentThen (BlanksThen true P) bytes)
    → (is_digit b ≡ true → Ends size (Number w (b - 48)) bytes → P (b ∷ bytes))
    → header_step (Blanks w some) b ≡ Goes t → Ends size t bytes → BlanksThen some P (b ∷ bytes)
blanks_goes size w P some t b bytes blanks comment number e h =
    elim (if_is (is_white b) _ _ (Goes t) e) [
      | inl x ↦ white some P b bytes x.0 (blanks (moved size (Blanks w true) t bytes x.1 h))
      | inr x ↦ elim (if_is (b == 35) _ _ (Goes t) x.1) [
        | inl y ↦ sharp some P b bytes (eqb-true _ _ y.0) (comment (moved size (Comment w) t bytes y.1 h))
        | inr y ↦ elim (if_is (some && is_digit b) _ _ (Goes t) y.1) [
          | inl z ↦
              let p = and_parts some (is_digit b) z.0 in
              subst (λ k. BlanksThen k P (b ∷ bytes)) (sym p.0) (blank_first P (b ∷ bytes) (number p.1 (moved size (Number w (b - 48)) t bytes z.1 h)))
          | inr z ↦ absurd (refused_goes _ t z.1)
        ]
      ]
    ]

width_goes : (size : Size) (n : ℕ) (t : State) (b : ℕ) (bytes : List ℕ) → number_step None n b ≡ Goes t → Ends size t bytes
    → DigitsThen n size.width (BlanksThen false (Height size)) (b ∷ bytes)
width_goes size n t b bytes e h =
    elim (if_is (is_digit b) _ _ (Goes t) e) [
      | inl x ↦ digit n size.width b (BlanksThen false (Height size)) bytes x.0 (moved size (Number None (grown n b)) t bytes x.1 h)
      | inr x ↦ elim (if_is (is_white b) _ _ (Goes t) x.1) [
        | inl y ↦ elim (if_is (is_size n) _ _ (Goes t) y.1) [
          | inl z ↦
              let k = moved size (Blanks (Some n) true) t bytes z.1 h in
              no_digit n size.width (BlanksThen false (Height size)) (b ∷ bytes) z.0 (sym k.0) (white false (Height size) b bytes y.0 k.1)
          | inr z ↦ absurd (refused_goes _ t z.1)
        ]
        | inr y ↦ elim (if_is (b == 35) _ _ (Goes t) y.1) [
          | inl z ↦ elim (if_is (is_size n) _ _ (Goes t) z.1) [
            | inl u ↦
                let k = moved size (Comment (Some n)) t bytes u.1 h in
                no_digit n size.width (BlanksThen false (Height size)) (b ∷ bytes) u.0 (sym k.0) (sharp false (Height size) b bytes (eqb-true _ _ z.0) k.1)
            | inr u ↦ absurd (refused_goes _ t u.1)
          ]
          | inr z ↦ absurd (refused_goes _ t z.1)
        ]
      ]
    ]

height_goes : (size : Size) (w n : ℕ) (t : State) (b : ℕ) (bytes : List ℕ) → number_step (Some w) n b ≡ Goes t → Ends size t bytes → (w ≡ size.width)
    × DigitsThen n size.height Last (b ∷ bytes)
height_goes size w n t b bytes e h =
    elim (if_is (is_digit b) _ _ (Goes t) e) [
      | inl x ↦ let k = moved size (Number (Some w) (grown n b)) t bytes x.1 h in (k.0, digit n size.height b Last bytes x.0 k.1)
      | inr x ↦ elim (if_is (is_white b) _ _ (Goes t) x.1) [
        | inl y ↦ elim (if_is (is_size n) _ _ (Goes t) y.1) [ inl z ↦ absurd (done_goes _ t z.1) | inr z ↦ absurd (refused_goes _ t z.1) ]
        | inr y ↦ absurd (refused_goes _ t y.1)
      ]
    ]

same_width : (size : Size) (w : ℕ) (some : Bool) (t : State) (b : ℕ) (bytes : List ℕ) → header_step (Blanks (Some w) some) b ≡ Goes t → Ends size t bytes → w
    ≡ size.width
same_width size w some t b bytes e h =
    elim (if_is (is_white b) _ _ (Goes t) e) [
      | inl x ↦ (moved size (Blanks (Some w) true) t bytes x.1 h).0
      | inr x ↦ elim (if_is (b == 35) _ _ (Goes t) x.1) [
        | inl y ↦ (moved size (Comment (Some w)) t bytes y.1 h).0
        | inr y ↦ elim (if_is (some && is_digit b) _ _ (Goes t) y.1) [
          | inl z ↦ (moved size (Number (Some w) (b - 48)) t bytes z.1 h).0
          | inr z ↦ absurd (refused_goes _ t z.1)
        ]
      ]
    ]

pub goes : (size : Size) (s t : State) (b : ℕ) (bytes : List ℕ) → header_step s b ≡ Goes t → Ends size t bytes → Ends size s (b ∷ bytes)
goes size Start t b bytes e h =
    elim (if_is (b == 80) _ _ (Goes t) e) [
      | inl x ↦ let k = moved size Magic t bytes x.1 h in (bytes, ap (λ c. c ∷ bytes) (eqb-true _ _ x.0), k.0, k.1, k.2)
      | inr x ↦ absurd (refused_goes _ t x.1)
    ]
goes size Magic t b bytes e h =
    elim (if_is (b == 52) _ _ (Goes t) e) [
      | inl x ↦ (bytes, ap (λ c. c ∷ bytes) (eqb-true _ _ x.0), moved size (Blanks None false) t bytes x.1 h)
      | inr x ↦ absurd (refused_goes _ t x.1)
    ]
goes size (Blanks None some) t b bytes e h =
    blanks_goes size None (Width size) some t b bytes (λ k. k) (λ k. k) (λ d k. first_digit size.width b (BlanksThen false (Height size)) bytes d k) e h
goes size (Blanks (Some w) some) t b bytes e h = (
  same_width size w some t b bytes e h,
  blanks_goes size (Some w) (Height size) some t b bytes (λ k. k.1) (λ k. k.1)
      (λ d k. first_digit size.height b Last bytes d k.1) e h,
)
goes size (Comment None) t b bytes e h =
    elim (if_is (is_line_end b) _ _ (Goes t) e) [
      | inl x ↦ line_end (BlanksThen true (Width size)) b bytes x.0 (moved size (Blanks None true) t bytes x.1 h)
      | inr x ↦ in_comment (BlanksThen true (Width size)) b bytes x.0 (moved size (Comment None) t bytes x.1 h)
    ]
goes size (Comment (Some w)) t b bytes e h =
    elim (if_is (is_line_end b) _ _ (Goes t) e) [
      | inl x ↦ let k = moved size (Blanks (Some w) true) t bytes x.1 h in (k.0, line_end (BlanksThen true (Height size)) b bytes x.0 k.1)
      | inr x ↦ let k = moved size (Comment (Some w)) t bytes x.1 h in (k.0, in_comment (BlanksThen true (Height size)) b bytes x.0 k.1)
    ]
goes size (Number None n) t b bytes e h = width_goes size n t b bytes e h
goes size (Number (Some w) n) t b bytes e h = height_goes size w n t b bytes e h

-- ---- the last byte

pub done : (size : Size) (s : State) (b : ℕ) → header_step s b ≡ Done size → Ends size s (b ∷ [])
done size Start b e = elim (if_is (b == 80) _ _ (Done size) e) [ inl x ↦ absurd (goes_done _ size x.1) | inr x ↦ absurd (refused_done _ size x.1) ]
done size Magic b e = elim (if_is (b == 52) _ _ (Done size) e) [ inl x ↦ absurd (goes_done _ size x.1) | inr x ↦ absurd (refused_done _ size x.1) ]
done size (Blanks w some) b e =
    absurd (elim (if_is (is_white b) _ _ (Done size) e) [
      | inl x ↦ goes_done _ size x.1
      | inr x ↦ elim (if_is (b == 35) _ _ (Done size) x.1) [
        | inl y ↦ goes_done _ size y.1
        | inr y ↦ elim (if_is (some && is_digit b) _ _ (Done size) y.1) [ inl z ↦ goes_done _ size z.1 | inr z ↦ refused_done _ size z.1 ]
      ]
    ])
done size (Comment w) b e = absurd (elim (if_is (is_line_end b) _ _ (Done size) e) [ inl x ↦ goes_done _ size x.1 | inr x ↦ goes_done _ size x.1 ])
done size (Number None n) b e =
    absurd (elim (if_is (is_digit b) _ _ (Done size) e) [
      | inl x ↦ goes_done _ size x.1
      | inr x ↦ elim (if_is (is_white b) _ _ (Done size) x.1) [
        | inl y ↦ elim (if_is (is_size n) _ _ (Done size) y.1) [ inl z ↦ goes_done _ size z.1 | inr z ↦ refused_done _ size z.1 ]
        | inr y ↦ elim (if_is (b == 35) _ _ (Done size) y.1) [
          | inl z ↦ elim (if_is (is_size n) _ _ (Done size) z.1) [ inl u ↦ goes_done _ size u.1 | inr u ↦ refused_done _ size u.1 ]
          | inr z ↦ refused_done _ size z.1
        ]
      ]
    ])
done size (Number (Some w) n) b e =
    elim (if_is (is_digit b) _ _ (Done size) e) [
      | inl x ↦ absurd (goes_done _ size x.1)
      | inr x ↦ elim (if_is (is_white b) _ _ (Done size) x.1) [
        | inl y ↦ elim (if_is (is_size n) _ _ (Done size) y.1) [
          | inl z ↦
              let same = same_size (record { width = w; height = n }) size z.1 in
              (ap (λ (s : Size). s.width) same, no_digit n size.height Last (b ∷ []) z.0 (sym (ap (λ (s : Size). s.height) same)) (b, y.0, refl))
          | inr z ↦ absurd (refused_done _ size z.1)
        ]
        | inr y ↦ absurd (refused_done _ size y.1)
      ]
    ]
