-- What is refused as a header is what the grammar refuses.
use Rattle.std.proofs.Common.{◌≡◌, ◌⊎◌, ℕ, zero, suc, ◌+◌, ◌-◌, ◌<◌, ◌≤◌, ◌==◌, ◌&&◌, ◌||◌, min, true, false, List, [], ◌∷◌, ◌++◌, length, Option, Some, None, Result, Ok, Err, refl, sym, ap, subst, ◌∙◌, inl, inr, arith, eqb-true}
use Rattle.std.specs.Prelude.{if◌then◌else◌}
use Rattle.std.proofs.lemmas.Bool.{both_ways, cases_Bool, cases_eq, cases_lt, eq-eqb, ne_eqb}
use Rattle.std.proofs.lemmas.List.{append-nil, append_assoc, length-append}
use Rattle.sheet_core.specs.declared.fault.PbmFault.{PbmFault}
use Rattle.sheet_core.specs.declared.fault.PbmFault.TheVariants.{NotP4, PbmHeader, Truncated, PbmSize, ReadFault, NoMemory}
use Rattle.sheet_core.specs.declared.pbm.state.Size.{Size}
use Rattle.sheet_core.specs.declared.pbm.state.State.{State}
use Rattle.sheet_core.specs.declared.pbm.state.State.TheVariants.{Start, Magic, Blanks, Number, Comment}
use Rattle.sheet_core.specs.declared.pbm.state.Step.{Step}
use Rattle.sheet_core.specs.declared.pbm.state.Step.TheVariants.{Goes, Done, Refused}
use Rattle.sheet_core.specs.Laws.{HeadersAreRefused}
use Rattle.sheet_core.specs.pbm.Grammar.{IsHeader}
use Rattle.sheet_core.specs.pbm.Headers.{after_header_step, grown, header_by, header_of, header_step, is_line_end, is_size, is_white}
use Rattle.element_core.specs.Elements.{is_digit}
use Rattle.sheet_core.specs.pbm.Refusals.{EndsWrongNumber, IsBeginning, IsNoMagic, IsStray, IsWrongHeader, RefusesHeader, ends_number}
use Rattle.sheet_core.proofs.pbm.BeginningFacts.{Comes, ComesToNumber, beginning_of, comes, past_magic}
use Rattle.sheet_core.proofs.pbm.BeginningsRead.{comes_to, number_leads}
use Rattle.sheet_core.proofs.pbm.GrammarFacts.{Leads, grammar_read, of_white, one, sized}
use Rattle.sheet_core.proofs.pbm.HeaderFronts.{header_front}
use Rattle.sheet_core.proofs.pbm.HeaderPieces.{if_is}

-- ---- why a byte is refused

-- what the byte after a beginning is refused for; that it is stray follows from what else it would be
abbrev Why : PbmFault → List ℕ → ℕ → Type 0
Why NotP4 front b = IsNoMagic (front ++ b ∷ [])
Why PbmHeader front b = 2 ≤ length front
Why PbmSize front b = EndsWrongNumber (front ++ b ∷ [])
Why _ front b = ⊥

goes_refused : (s : State) (f : PbmFault) → Goes s ≡ Refused f → ⊥
goes_refused s f e = cc

done_refused : (size : Size) (f : PbmFault) → Done size ≡ Refused f → ⊥
done_refused size f e = cc

same_fault : (f g : PbmFault) → Refused f ≡ Refused g → f ≡ g
same_fault f g e = cc

because : (f g : PbmFault) (front : List ℕ) (b : ℕ) → Refused f ≡ Refused g → Why f front b → Why g front b
because f g front b e h = subst (λ x. Why x front b) (same_fault f g e) h

wrong_number : (w : Option ℕ) (n b : ℕ) (front : List ℕ) → is_size n ≡ false → ends_number w b ≡ true → ComesToNumber w n front
    → EndsWrongNumber (front ++ b ∷ [])
wrong_number w n b front s e h = record {
  width = w;
  n = h.number;
  front = front;
  last = b;
  number = h.is;
  wrong = elim (cases_lt 65535 h.number) [
    | inl long ↦ inr long
    | inr short ↦ elim (cases_eq h.number 0) [
      | inl none ↦ inl none
      | inr some ↦ absurd (both_ways (is_size n) s (let counted = h.counted in sized n (omega arith) (omega arith)))
    ]
  ];
  ends = e;
  joined = refl;
}

refused_why : (s : State) (b : ℕ) (front : List ℕ) (f : PbmFault) → header_step s b ≡ Refused f → Comes s front → Why f front b
refused_why Start b front f e h =
    elim (if_is (b == 80) _ _ (Refused f) e) [
      | inl x ↦ absurd (goes_refused _ f x.1)
      | inr x ↦ because NotP4 f front b x.1 (inl (b, ap (λ bs. bs ++ b ∷ []) h, λ is. both_ways (b == 80) x.0 (eq-eqb b 80 is)))
    ]
refused_why Magic b front f e h =
    elim (if_is (b == 52) _ _ (Refused f) e) [
      | inl x ↦ absurd (goes_refused _ f x.1)
      | inr x ↦ because NotP4 f front b x.1 (inr (b, ap (λ bs. bs ++ b ∷ []) h, λ is. both_ways (b == 52) x.0 (eq-eqb b 52 is)))
    ]
refused_why (Blanks w some) b front f e h =
    elim (if_is (is_white b) _ _ (Refused f) e) [
      | inl x ↦ absurd (goes_refused _ f x.1)
      | inr x ↦ elim (if_is (b == 35) _ _ (Refused f) x.1) [
        | inl y ↦ absurd (goes_refused _ f y.1)
        | inr y ↦ elim (if_is (some && is_digit b) _ _ (Refused f) y.1) [
          | inl z ↦ absurd (goes_refused _ f z.1)
          | inr z ↦ because PbmHeader f front b z.1 (past_magic (Blanks w some) front h tt)
        ]
      ]
    ]
refused_why (Comment w) b front f e h =
    absurd (elim (if_is (is_line_end b) _ _ (Refused f) e) [ inl x ↦ goes_refused _ f x.1 | inr x ↦ goes_refused _ f x.1 ])
refused_why (Number None n) b front f e h =
    elim (if_is (is_digit b) _ _ (Refused f) e) [
      | inl x ↦ absurd (goes_refused _ f x.1)
      | inr x ↦ elim (if_is (is_white b) _ _ (Refused f) x.1) [
        | inl y ↦ elim (if_is (is_size n) _ _ (Refused f) y.1) [
          | inl z ↦ absurd (goes_refused _ f z.1)
          | inr z ↦ because PbmSize f front b z.1 (wrong_number None n b front z.0 (ap (λ t. t || (b == 35)) y.0) h)
        ]
        | inr y ↦ elim (if_is (b == 35) _ _ (Refused f) y.1) [
          | inl z ↦ elim (if_is (is_size n) _ _ (Refused f) z.1) [
            | inl u ↦ absurd (goes_refused _ f u.1)
            | inr u ↦ because PbmSize f front b u.1 (wrong_number None n b front u.0 (ap (λ t. t || (b == 35)) y.0 ∙ z.0) h)
          ]
          | inr z ↦ because PbmHeader f front b z.1 (past_magic (Number None n) front h tt)
        ]
      ]
    ]
refused_why (Number (Some w) n) b front f e h =
    elim (if_is (is_digit b) _ _ (Refused f) e) [
      | inl x ↦ absurd (goes_refused _ f x.1)
      | inr x ↦ elim (if_is (is_white b) _ _ (Refused f) x.1) [
        | inl y ↦ elim (if_is (is_size n) _ _ (Refused f) y.1) [
          | inl z ↦ absurd (done_refused _ f z.1)
          | inr z ↦ because PbmSize f front b z.1 (wrong_number (Some w) n b front z.0 y.0 h)
        ]
        | inr y ↦ because PbmHeader f front b y.1 (past_magic (Number (Some w) n) front h tt)
      ]
    ]

-- ---- what the grammar refuses is refused

reached : (front more : List ℕ) (s : State) → Leads Start s front → length front ≤ 4096 → header_of (front ++ more) ≡ header_by (4096 - length front) s more
reached front more s l few =
    ap (λ n. header_by n Start (front ++ more)) (let e : 4096 ≡ (4096 - length front) + length front = omega arith in e) ∙ l.at (4096 - length front) more

one_step : (limit : ℕ) (s : State) (b : ℕ) (st : Step) → 0 < limit → header_step s b ≡ st → header_by limit s (b ∷ [])
    ≡ after_header_step st (λ t. header_by (limit - 1) t []) []
one_step limit s b st some e = ap (λ n. header_by n s (b ∷ [])) (let k : limit ≡ suc (limit - 1) = omega arith in k)
    ∙ ap (λ x. after_header_step x (λ t. header_by (limit - 1) t []) []) e

beginning_refused : (bytes : List ℕ) → IsBeginning bytes → length bytes ≤ 4096 → header_of bytes ≡ (Err Truncated, [])
beginning_refused bytes h few = let c = comes_to bytes h in ap header_of (sym (append-nil bytes)) ∙ reached bytes [] c.state c.leads few

wrong_size : (n : ℕ) → (n ≡ 0) ⊎ (65535 < n) → is_size (min n 65536) ≡ false
wrong_size n (inl e) = ap is_size (let k : min n 65536 ≡ 0 = omega arith in k)
wrong_size n (inr h) = ap is_size (let k : min n 65536 ≡ 65536 = omega arith in k)

size_step : (w : Option ℕ) (n b : ℕ) → is_size n ≡ false → ends_number w b ≡ true → header_step (Number w n) b ≡ Refused PbmSize
size_step None n b s e =
    elim (cases_Bool (is_white b)) [
      | inl white ↦
          ap (λ x. if x then Goes (Number None (grown n b)) else if is_white b then (if is_size n then Goes (Blanks (Some n) true) else Refused PbmSize) else if
          b == 35 then (if is_size n then Goes (Comment (Some n)) else Refused PbmSize) else Refused PbmHeader) (of_white b white)
          ∙ ap (λ x. if x then (if is_size n then Goes (Blanks (Some n) true) else Refused PbmSize) else if b == 35 then
          (if is_size n then Goes (Comment (Some n)) else Refused PbmSize) else Refused PbmHeader) white
          ∙ ap (λ x. if x then Goes (Blanks (Some n) true) else Refused PbmSize) s
      | inr other ↦
          let sharp : (b == 35) ≡ true = sym (ap (λ t. t || (b == 35)) other) ∙ e in
          ap (λ c. header_step (Number None n) c) (eqb-true b 35 sharp) ∙ ap (λ x. if x then Goes (Comment (Some n)) else Refused PbmSize) s
    ]
size_step (Some w) n b s e =
    ap (λ x. if x then Goes (Number (Some w) (grown n b)) else if is_white b then
    (if is_size n then Done (record { width = w; height = n }) else Refused PbmSize) else Refused PbmHeader) (of_white b e)
    ∙ ap (λ x. if x then (if is_size n then Done (record { width = w; height = n }) else Refused PbmSize) else Refused PbmHeader) e
    ∙ ap (λ x. if x then Done (record { width = w; height = n }) else Refused PbmSize) s

size_refused : (bytes : List ℕ) → EndsWrongNumber bytes → length bytes ≤ 4096 → header_of bytes ≡ (Err PbmSize, [])
size_refused bytes h few =
    let k : ℕ = min h.n 65536 in
    let long : length bytes ≡ length h.front + 1 = ap length h.joined ∙ length-append h.front (h.last ∷ []) in
    ap header_of h.joined
    ∙ reached h.front (h.last ∷ []) (Number h.width k) (number_leads h.width h.n h.front h.number) (omega arith)
    ∙ one_step (4096 - length h.front) (Number h.width k) h.last (Refused PbmSize) (omega arith) (size_step h.width k h.last (wrong_size h.n h.wrong) h.ends)

magic_refused : (bytes : List ℕ) → IsNoMagic bytes → header_of bytes ≡ (Err NotP4, [])
magic_refused bytes (inl (b, is, ne)) =
    ap header_of is ∙ one_step 4096 Start b (Refused NotP4) (omega arith) (ap (λ x. if x then Goes Magic else Refused NotP4) (ne_eqb b 80 ne))
magic_refused bytes (inr (b, is, ne)) =
    ap header_of is ∙ reached (80 ∷ []) (b ∷ []) Magic (one Start Magic 80 refl) (omega arith)
    ∙ one_step (4096 - 1) Magic b (Refused NotP4) (omega arith) (ap (λ x. if x then Goes (Blanks None false) else Refused NotP4) (ne_eqb b 52 ne))

-- a byte that is neither of a beginning, nor ends a header, nor a wrong number
two_first : (bytes : List ℕ) → IsNoMagic bytes → length bytes ≤ 2
two_first bytes (inl (b, is, ne)) = omega (arith, ap length is)
two_first bytes (inr (b, is, ne)) = omega (arith, ap length is)

stray_why : (front : List ℕ) (b : ℕ) (g : PbmFault) → 2 ≤ length front → IsStray (front ++ b ∷ []) → Why g front b → g ≡ PbmHeader
stray_why front b NotP4 two stray why = let short = two_first (front ++ b ∷ []) why in absurd (omega (arith, length-append front (b ∷ [])))
stray_why front b PbmHeader two stray why = refl
stray_why front b PbmSize two stray why = absurd (stray.no_number why)
stray_why front b Truncated two stray why = absurd why
stray_why front b ReadFault two stray why = absurd why
stray_why front b NoMemory two stray why = absurd why

stray_step : (front : List ℕ) (b : ℕ) (s : State) → Leads Start s front → Comes s front → 2 ≤ length front → length front < 4096 → IsStray (front ++ b ∷ [])
    → (st : Step) → header_step s b ≡ st → st ≡ Refused PbmHeader
stray_step front b s l c two few stray (Goes t) e = absurd (stray.no_beginning (beginning_of t (front ++ b ∷ []) (comes s t b front e c)))
stray_step front b s l c two few stray (Done size) e =
    let read : header_by 4096 Start (front ++ b ∷ []) ≡ (Ok size, []) =
    reached front (b ∷ []) s l (omega arith) ∙ one_step (4096 - length front) s b (Done size) (omega arith) e in
    let f = header_front size (front ++ b ∷ []) [] read in
    absurd (stray.no_header size (subst (λ bs. IsHeader bs size) (sym (f.joined ∙ append-nil f.header)) f.is))
stray_step front b s l c two few stray (Refused g) e = ap (λ x. Refused x) (stray_why front b g two stray (refused_why s b front g e c))

header_refused : (bytes : List ℕ) → IsWrongHeader bytes → header_of bytes ≡ (Err PbmHeader, [])
header_refused bytes h =
    let c = comes_to h.front h.beginning in
    let short = h.short in
    let full : length h.front ≡ 4096 → header_of bytes ≡ (Err PbmHeader, []) = λ e.
    ap header_of h.joined ∙ reached h.front (h.last ∷ []) c.state c.leads short
    ∙ ap (λ n. header_by n c.state (h.last ∷ [])) (let z : 4096 - length h.front ≡ 0 = omega arith in z) in
    elim h.wrong [
      | inl e ↦ full e
      | inr stray ↦ elim (cases_lt (length h.front) 4096) [
        | inl few ↦
            ap header_of h.joined ∙ reached h.front (h.last ∷ []) c.state c.leads short
            ∙ one_step (4096 - length h.front) c.state h.last (Refused PbmHeader) (omega arith)
            (stray_step h.front h.last c.state c.leads c.comes h.magic few stray (header_step c.state h.last) refl)
        | inr all ↦ full (omega arith)
      ]
    ]

pub refuses : (f : PbmFault) (bytes : List ℕ) → RefusesHeader f bytes → header_of bytes ≡ (Err f, [])
refuses NotP4 bytes h = magic_refused bytes h
refuses PbmHeader bytes h = header_refused bytes h
refuses PbmSize bytes h = size_refused bytes h.0 h.1
refuses Truncated bytes h = beginning_refused bytes h.0 h.1
refuses ReadFault bytes h = absurd h
refuses NoMemory bytes h = absurd h

-- ---- what is refused the grammar refuses

fault_of : (f g : PbmFault) (xs ys : List ℕ) → (let r : Result Size PbmFault × List ℕ = (Err f, xs) in r ≡ (Err g, ys)) → (f ≡ g) × (xs ≡ ys)
fault_of f g xs ys e = (same f g (ap (λ (p : Result Size PbmFault × List ℕ). p.0) e), ap (λ (p : Result Size PbmFault × List ℕ). p.1) e)
  where
    same : (f g : PbmFault) → (let r : Result Size PbmFault = Err f in r ≡ Err g) → f ≡ g
    same f g e = cc

size_or_fault : (size : Size) (f : PbmFault) (xs ys : List ℕ) → (let r : Result Size PbmFault × List ℕ = (Ok size, xs) in r ≡ (Err f, ys)) → ⊥
size_or_fault size f xs ys e = no size f (ap (λ (p : Result Size PbmFault × List ℕ). p.0) e)
  where
    no : (size : Size) (f : PbmFault) → (let r : Result Size PbmFault = Ok size in r ≡ Err f) → ⊥
    no size f e = cc

no_other : (f g : PbmFault) (bytes : List ℕ) → (f ≡ g → ⊥) → header_of bytes ≡ (Err f, []) → header_of bytes ≡ (Err g, []) → ⊥
no_other f g bytes ne a b = ne (fault_of f g [] [] (sym a ∙ b)).0

truncated_or_header : Truncated ≡ PbmHeader → ⊥
truncated_or_header e = cc

size_or_header : PbmSize ≡ PbmHeader → ⊥
size_or_header e = cc

is_stray : (bytes : List ℕ) → length bytes ≤ 4096 → header_of bytes ≡ (Err PbmHeader, []) → IsStray bytes
is_stray bytes few e = record {
  no_beginning = λ h. no_other Truncated PbmHeader bytes truncated_or_header (beginning_refused bytes h few) e;
  no_header = λ size h. size_or_fault size PbmHeader [] [] (sym (grammar_read bytes [] size h few) ∙ ap header_of (append-nil bytes) ∙ e);
  no_number = λ h. no_other PbmSize PbmHeader bytes size_or_header (size_refused bytes h few) e;
}

told_by : (f : PbmFault) (front : List ℕ) (b : ℕ) → IsBeginning front → length front < 4096 → Why f front b → header_of (front ++ b ∷ []) ≡ (Err f, [])
    → RefusesHeader f (front ++ b ∷ [])
told_by NotP4 front b h few why e = why
told_by PbmHeader front b h few why e = record {
  front = front;
  last = b;
  beginning = h;
  magic = why;
  short = omega arith;
  wrong = inr (is_stray (front ++ b ∷ []) (omega (arith, length-append front (b ∷ []))) e);
  joined = refl;
}
told_by PbmSize front b h few why e = (why, omega (arith, length-append front (b ∷ [])))
told_by Truncated front b h few why e = absurd why
told_by ReadFault front b h few why e = absurd why
told_by NoMemory front b h few why e = absurd why

-- the bytes after a front that is read
one_more : (limit : ℕ) (s : State) (front : List ℕ) (b : ℕ) (bytes : List ℕ) (f : PbmFault) → length front + suc limit ≡ 4096 → Comes s front
    → header_of (front ++ b ∷ bytes) ≡ (Err f, [])
    → ((t : State) → Comes t (front ++ b ∷ []) → header_by limit t bytes ≡ (Err f, []) → RefusesHeader f ((front ++ b ∷ []) ++ bytes))
    → (st : Step) → header_step s b ≡ st → after_header_step st (λ t. header_by limit t bytes) bytes ≡ (Err f, []) → RefusesHeader f (front ++ b ∷ bytes)
one_more limit s front b bytes f n c whole hyp (Goes t) step_is e =
    subst (RefusesHeader f) (append_assoc front (b ∷ []) bytes) (hyp t (comes s t b front step_is c) e)
one_more limit s front b bytes f n c whole hyp (Done size) step_is e = absurd (size_or_fault size f bytes [] e)
one_more limit s front b bytes f n c whole hyp (Refused g) step_is e =
    let p = fault_of g f bytes [] e in
    let last : front ++ b ∷ bytes ≡ front ++ b ∷ [] = ap (λ bs. front ++ b ∷ bs) p.1 in
    subst (RefusesHeader f) (sym last)
    (told_by f front b (beginning_of s front c) (omega arith) (subst (λ x. Why x front b) p.0 (refused_why s b front g step_is c))
    (ap header_of (sym last) ∙ whole))

told : (limit : ℕ) (s : State) (front bytes : List ℕ) (f : PbmFault) → length front + limit ≡ 4096 → Comes s front → header_of (front ++ bytes) ≡ (Err f, [])
    → header_by limit s bytes ≡ (Err f, []) → RefusesHeader f (front ++ bytes)
told limit s front [] f n c whole e =
    let p = fault_of Truncated f [] [] e in
    subst (λ x. RefusesHeader x (front ++ [])) p.0 (subst IsBeginning (sym (append-nil front)) (beginning_of s front c), omega (arith, length-append front []))
told zero s front (b ∷ bytes) f n c whole e =
    let p = fault_of PbmHeader f bytes [] e in
    subst (λ x. RefusesHeader x (front ++ b ∷ bytes)) p.0 (record {
      front = front;
      last = b;
      beginning = beginning_of s front c;
      magic = omega arith;
      short = omega arith;
      wrong = inl (omega arith);
      joined = ap (λ bs. front ++ b ∷ bs) p.1;
    })
told (suc limit) s front (b ∷ bytes) f n c whole e =
    one_more limit s front b bytes f n c whole
    (λ t d k. told limit t (front ++ b ∷ []) bytes f (omega (arith, length-append front (b ∷ []))) d (ap header_of (append_assoc front (b ∷ []) bytes) ∙ whole)
    k) (header_step s b) refl e

pub headers_are_refused : HeadersAreRefused
headers_are_refused = λ f bytes. (λ e. told 4096 Start [] bytes f refl refl e e, λ h. refuses f bytes h)
