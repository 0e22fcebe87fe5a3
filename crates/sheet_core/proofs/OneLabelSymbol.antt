-- A label has one symbol.
use Rattle.std.proofs.Common.{◌≡◌, ◌⊎◌, ℕ, zero, suc, ◌-◌, ◌<◌, ◌==◌, nat_le, true, false, List, [], ◌∷◌, ◌++◌, length, take, drop, replicate, refl, sym, ap, ap₂, subst, ◌∙◌, inl, inr, get_or, eq-eqb, arith}
use Rattle.std.specs.Prelude.{IfNone, None, Option, Some, slice_get}
use Rattle.std.specs.List.{AllByRecursion, AllZip}
use Rattle.std.proofs.lemmas.Bool.{cases_lt, cases_eq, ne_eqb, le-leb, lt-leb}
use Rattle.std.proofs.lemmas.List.{drop_at, get_or_push, length-replicate, take_at}
use Rattle.digits_core.specs.Digits.{padded}
use Rattle.digits_core.specs.Upce.{IsFirstUpceOf, upce_expanded, upce_line}
use Rattle.ean_code.specs.Spelling.{IsGtinSymbol, IsPrintedUpce, IsSpelled, gtin_of}
use Rattle.ean_code.specs.Symbols.{digit_count, widths_of}
use Rattle.ean_code.specs.declared.kind.Kind.{Kind}
use Rattle.ean_code.specs.declared.reading.Spelled.TheVariants.{Found}
use Rattle.ean_code.specs.declared.kind.Kind.TheVariants.{Ean13 as KindEan13, Ean8 as KindEan8, UpcE as KindUpcE, Itf14 as KindItf14}
use Rattle.element_core.specs.Elements.{canonical}
use Rattle.scan_core.specs.Showing.{kind_of}
use Rattle.sheet_core.specs.declared.kind.GtinKind.{GtinKind}
use Rattle.sheet_core.specs.declared.kind.GtinKind.TheVariants as kind
use Rattle.sheet_core.specs.declared.label.Label.{Label}
use Rattle.sheet_core.specs.declared.label.Label.TheVariants.{Ean13, UpcA, Ean8, UpcE, Itf14, Gs1128}
use Rattle.sheet_core.specs.Grids.{Cells}
use Rattle.sheet_core.specs.Labels.{Content, Drawn, FitsCell, IsDrawn, IsLabelSymbol, IsPrintable, IsPrintedGs1128, carrier_of, content_of, gtin_label}
use Rattle.sheet_core.specs.Labels.Content.{OfElements, OfGtin}

-- the digits of a padded number
unpadded : (n : ℕ) (ds : List ℕ) → length ds ≡ n → drop (14 - n) (padded ds) ≡ ds
unpadded n ds e = drop_at (replicate (14 - length ds) 0) ds (14 - n) (length-replicate (14 - length ds) 0 ∙ ap (λ k. 14 - k) e)

same_padded : (n : ℕ) (g ds es : List ℕ) → length ds ≡ n → length es ≡ n → g ≡ padded ds → g ≡ padded es → ds ≡ es
same_padded n g ds es d e p q = sym (unpadded n ds d) ∙ ap (drop (14 - n)) (sym p ∙ q) ∙ unpadded n es e

-- a symbol whose digits stand for a GTIN as they are is fixed by the GTIN
same_spelled : (kind : Kind) → ((ds : List ℕ) → gtin_of kind ds ≡ padded ds) → (g ms ns : List ℕ) → IsSpelled kind ms (Found g) → IsSpelled kind ns (Found g)
    → ms ≡ ns
same_spelled kind as_it_is g ms ns h k =
    let same = same_padded (digit_count kind) g h.0 k.0 h.1.count k.1.count (h.2 ∙ as_it_is h.0) (k.2 ∙ as_it_is k.0) in
    h.1.widths ∙ ap (widths_of kind) same ∙ sym k.1.widths

-- the line of the table by the sixth digit, and what its six digits stand for
line_of : (a b c d e f x : ℕ)
    → ((upce_line (a ∷ b ∷ c ∷ d ∷ e ∷ f ∷ []) ≡ 0) × (upce_expanded (a ∷ b ∷ c ∷ d ∷ e ∷ f ∷ []) x ≡ 0 ∷ a ∷ b ∷ f ∷ 0 ∷ 0 ∷ 0 ∷ 0 ∷ c ∷ d ∷ e ∷ x ∷ []))
    ⊎ (((upce_line (a ∷ b ∷ c ∷ d ∷ e ∷ f ∷ []) ≡ 1) × (f ≡ 3)
    × (upce_expanded (a ∷ b ∷ c ∷ d ∷ e ∷ f ∷ []) x ≡ 0 ∷ a ∷ b ∷ c ∷ 0 ∷ 0 ∷ 0 ∷ 0 ∷ 0 ∷ d ∷ e ∷ x ∷ []))
    ⊎ (((upce_line (a ∷ b ∷ c ∷ d ∷ e ∷ f ∷ []) ≡ 2) × (f ≡ 4)
    × (upce_expanded (a ∷ b ∷ c ∷ d ∷ e ∷ f ∷ []) x ≡ 0 ∷ a ∷ b ∷ c ∷ d ∷ 0 ∷ 0 ∷ 0 ∷ 0 ∷ 0 ∷ e ∷ x ∷ []))
    ⊎ ((upce_line (a ∷ b ∷ c ∷ d ∷ e ∷ f ∷ []) ≡ 3) × (upce_expanded (a ∷ b ∷ c ∷ d ∷ e ∷ f ∷ []) x ≡ 0 ∷ a ∷ b ∷ c ∷ d ∷ e ∷ 0 ∷ 0 ∷ 0 ∷ 0 ∷ f ∷ x ∷ []))))
line_of a b c d e f x =
    elim (cases_lt f 3) [
      | inl low ↦ let t : nat_le f 2 ≡ true = le-leb f 2 (omega arith) in inl (rw t refl, rw t refl)
      | inr high ↦
          let t : nat_le f 2 ≡ false = lt-leb f 2 (omega arith) in
          elim (cases_eq f 3) [
            | inl three ↦ let u : (f == 3) ≡ true = eq-eqb f 3 three in inr (inl (rw (t, u) refl, three, rw (t, u) refl))
            | inr other ↦
                let u : (f == 3) ≡ false = ne_eqb f 3 other in
                elim (cases_eq f 4) [
                  | inl four ↦ let v : (f == 4) ≡ true = eq-eqb f 4 four in inr (inr (inl (rw (t, u, v) refl, four, rw (t, u, v) refl)))
                  | inr last ↦ let v : (f == 4) ≡ false = ne_eqb f 4 last in inr (inr (inr (rw (t, u, v) refl, rw (t, u, v) refl)))
                ]
          ]
    ]

-- six digits by the same line that stand for the same twelve are the same
same_six : (a b c d e f x k l m n o p y : ℕ) → upce_line (a ∷ b ∷ c ∷ d ∷ e ∷ f ∷ []) ≡ upce_line (k ∷ l ∷ m ∷ n ∷ o ∷ p ∷ [])
    → upce_expanded (a ∷ b ∷ c ∷ d ∷ e ∷ f ∷ []) x ≡ upce_expanded (k ∷ l ∷ m ∷ n ∷ o ∷ p ∷ []) y
    → (a ∷ b ∷ c ∷ d ∷ e ∷ f ∷ x ∷ []) ≡ (k ∷ l ∷ m ∷ n ∷ o ∷ p ∷ y ∷ [])
same_six a b c d e f x k l m n o p y line same =
    elim (line_of a b c d e f x) [
      | inl u ↦ elim (line_of k l m n o p y) [
        | inl v ↦ cc
        | inr v ↦ elim v [ inl w ↦ absurd (omega arith) | inr w ↦ elim w [ inl z ↦ absurd (omega arith) | inr z ↦ absurd (omega arith) ] ]
      ]
      | inr r ↦ elim r [
        | inl u ↦ elim (line_of k l m n o p y) [
          | inl v ↦ absurd (omega arith)
          | inr v ↦ elim v [ inl w ↦ cc | inr w ↦ elim w [ inl z ↦ absurd (omega arith) | inr z ↦ absurd (omega arith) ] ]
        ]
        | inr q ↦ elim q [
          | inl u ↦ elim (line_of k l m n o p y) [
            | inl v ↦ absurd (omega arith)
            | inr v ↦ elim v [ inl w ↦ absurd (omega arith) | inr w ↦ elim w [ inl z ↦ cc | inr z ↦ absurd (omega arith) ] ]
          ]
          | inr u ↦ elim (line_of k l m n o p y) [
            | inl v ↦ absurd (omega arith)
            | inr v ↦ elim v [ inl w ↦ absurd (omega arith) | inr w ↦ elim w [ inl z ↦ absurd (omega arith) | inr z ↦ cc ] ]
          ]
        ]
      ]
    ]

-- a list of six, element by element
record OfSix (xs : List ℕ) : Type 0 where
  a : ℕ
  b : ℕ
  c : ℕ
  d : ℕ
  e : ℕ
  f : ℕ
  all : xs ≡ a ∷ b ∷ c ∷ d ∷ e ∷ f ∷ []

of_six : (xs : List ℕ) → length xs ≡ 6 → OfSix xs
of_six [] h = absurd (omega arith)
of_six (a ∷ []) h = absurd (omega arith)
of_six (a ∷ b ∷ []) h = absurd (omega arith)
of_six (a ∷ b ∷ c ∷ []) h = absurd (omega arith)
of_six (a ∷ b ∷ c ∷ d ∷ []) h = absurd (omega arith)
of_six (a ∷ b ∷ c ∷ d ∷ e ∷ []) h = absurd (omega arith)
of_six (a ∷ b ∷ c ∷ d ∷ e ∷ f ∷ []) h = record { a = a; b = b; c = c; d = d; e = e; f = f; all = refl }
of_six (a ∷ b ∷ c ∷ d ∷ e ∷ f ∷ g ∷ xs) h = absurd (omega arith)

length-expanded : (six : List ℕ) (x : ℕ) → length six ≡ 6 → length (upce_expanded six x) ≡ 12
length-expanded six x h =
    let s = of_six six h in
    subst (λ xs. length (upce_expanded xs x) ≡ 12) (sym s.all)
    (elim (line_of s.a s.b s.c s.d s.e s.f x) [
      | inl u ↦ ap length u.1
      | inr r ↦ elim r [ inl u ↦ ap length u.2 | inr q ↦ elim q [ inl u ↦ ap length u.2 | inr u ↦ ap length u.1 ] ]
    ])

same_first : (g six others : List ℕ) (x y : ℕ) → IsFirstUpceOf six x g → IsFirstUpceOf others y g → six ++ x ∷ [] ≡ others ++ y ∷ []
same_first g six others x y h k =
    let a = h.spelling in let b = k.spelling in
    let above = h.first others y b in
    let below = k.first six x a in
    let line : upce_line six ≡ upce_line others = omega arith in
    let number : upce_expanded six x ≡ upce_expanded others y =
    same_padded 12 g (upce_expanded six x) (upce_expanded others y) (length-expanded six x a.six_digits) (length-expanded others y b.six_digits) a.number
    b.number in
    let s = of_six six a.six_digits in
    let t = of_six others b.six_digits in
    ap (λ xs. xs ++ x ∷ []) s.all
    ∙ same_six s.a s.b s.c s.d s.e s.f x t.a t.b t.c t.d t.e t.f y (sym (ap upce_line s.all) ∙ line ∙ ap upce_line t.all)
    (sym (ap (λ xs. upce_expanded xs x) s.all) ∙ number ∙ ap (λ xs. upce_expanded xs y) t.all)
    ∙ sym (ap (λ xs. xs ++ y ∷ []) t.all)

same_upce : (g ms ns : List ℕ) → IsPrintedUpce g ms → IsPrintedUpce g ns → ms ≡ ns
same_upce g ms ns h k =
    let same = same_first g h.0 k.0 h.1 k.1 h.2 k.2 in let a = h.3.widths in let b = k.3.widths in cc

pub same_symbol : (label : Label) (ms ns : List ℕ) → IsLabelSymbol label ms → IsLabelSymbol label ns → ms ≡ ns
same_symbol (Ean13 g) ms ns h k = same_spelled KindEan13 (λ ds. refl) g ms ns h k
same_symbol (UpcA g) ms ns h k = same_spelled KindEan13 (λ ds. refl) g ms ns h.1 k.1
same_symbol (Ean8 g) ms ns h k = same_spelled KindEan8 (λ ds. refl) g ms ns h k
same_symbol (UpcE g) ms ns h k = same_upce g ms ns h k
same_symbol (Itf14 g) ms ns h k = same_spelled KindItf14 (λ ds. refl) g ms ns h k
same_symbol (Gs1128 l) ms ns h k = h.drawn.widths ∙ sym k.drawn.widths

pub same_drawn : (label : Label) (s t : Drawn) → IsDrawn label s → IsDrawn label t → s ≡ t
same_drawn label s t h k =
    let m = same_symbol label s.modules t.modules h.symbol k.symbol in
    let l : s.quiet_left ≡ t.quiet_left = h.left ∙ sym k.left in
    let r : s.quiet_right ≡ t.quiet_right = h.right ∙ sym k.right in
    subst (λ ms. s ≡ record { modules = ms; quiet_left = t.quiet_left; quiet_right = t.quiet_right }) m
    (subst (λ q. s ≡ record { modules = s.modules; quiet_left = q; quiet_right = t.quiet_right }) l
    (subst (λ q. s ≡ record { modules = s.modules; quiet_left = s.quiet_left; quiet_right = q }) r refl))

-- a printed UPC-E is one of the GTIN
pub symbol_of_upce : (g ms : List ℕ) → IsPrintedUpce g ms → IsGtinSymbol KindUpcE g ms
symbol_of_upce g ms h =
    let six : List ℕ = h.0 in let x : ℕ = h.1 in let s = h.2.spelling in
    let front : take 6 (six ++ x ∷ []) ≡ six = take_at six (x ∷ []) 6 (s.six_digits) in
    let last : get_or (six ++ x ∷ []) 6 0 ≡ x = get_or_push six x 0 6 s.six_digits in
    (six ++ x ∷ [], h.3, s.number ∙ sym (ap₂ (λ xs c. padded (upce_expanded xs c)) front last))

-- ---- what labels say

-- a symbol by its kind, if it has one, and what it says
abbrev pub IsSymbolOf : Option Kind → Content → List ℕ → Type 0
IsSymbolOf (Some kind) (OfGtin gtin) modules = IsSpelled kind modules (Found gtin)
IsSymbolOf None (OfElements listing) modules = IsPrintedGs1128 (canonical listing.list) modules
IsSymbolOf _ _ modules = ⊥

-- a label's symbol is one of its carrier and says its content
pub by_carrier : (label : Label) (ms : List ℕ) → IsLabelSymbol label ms → IsSymbolOf (kind_of (carrier_of label)) (content_of label) ms
by_carrier (Ean13 g) ms h = h
by_carrier (UpcA g) ms h = h.1
by_carrier (Ean8 g) ms h = h
by_carrier (UpcE g) ms h = let s = symbol_of_upce g ms h in (s.0, s.1, s.2, h.2.spelling.checked)
by_carrier (Itf14 g) ms h = h
by_carrier (Gs1128 l) ms h = h

-- the label of a GTIN says it
pub content_back : (kind : GtinKind) (gtin : List ℕ) → content_of (gtin_label kind gtin) ≡ OfGtin gtin
content_back kind.Ean13 gtin = refl
content_back kind.UpcA gtin = refl
content_back kind.Ean8 gtin = refl
content_back kind.UpcE gtin = refl
content_back kind.Itf14 gtin = refl

-- ---- lists of labels

-- what is drawn of a label in a list
pub record DrawnAt (label : Label) (symbols : List Drawn) (i : ℕ) : Type 0 where
  pub s : Drawn
  pub here : slice_get symbols i ≡ Some s
  pub drawn : IsDrawn label s

pub drawn_at : (labels : List Label) (symbols : List Drawn) (i : ℕ) (label : Label) → AllZip IsDrawn labels symbols → i < length labels → label
    ≡ get_or labels i label → DrawnAt label symbols i
drawn_at [] symbols i label h low e = absurd (omega arith)
drawn_at (l ∷ labels) [] i label h low e = absurd h
drawn_at (l ∷ labels) (s ∷ symbols) zero label h low e = record { s = s; here = refl; drawn = subst (λ k. IsDrawn k s) (sym e) h.0 }
drawn_at (l ∷ labels) (s ∷ symbols) (suc i) label h low e = let d =
    drawn_at labels symbols i label h.1 (omega arith) e in record { s = d.s; here = d.here; drawn = d.drawn }

pub same_all : (labels : List Label) (ss ts : List Drawn) → AllZip IsDrawn labels ss → AllZip IsDrawn labels ts → ss ≡ ts
same_all [] [] [] h k = refl
same_all [] [] (t ∷ ts) h k = absurd k
same_all [] (s ∷ ss) ts h k = absurd h
same_all (l ∷ labels) [] ts h k = absurd h
same_all (l ∷ labels) (s ∷ ss) [] h k = absurd k
same_all (l ∷ labels) (s ∷ ss) (t ∷ ts) h k = ap₂ (λ x xs. x ∷ xs) (same_drawn l s t h.0 k.0) (same_all labels ss ts h.1 k.1)

pub all_at : {X : Type 0} (P : X → Type 0) (xs : List X) (i : ℕ) (x : X) → AllByRecursion P xs → slice_get xs i ≡ Some x → P x
all_at P [] i x h e = absurd (cc)
all_at P (y ∷ xs) zero x h e = let same : y ≡ x = cc in subst P same h.0
all_at P (y ∷ xs) (suc i) x h e = all_at P xs i x h.1 e

pub AllZip-take : {A B : Type 0} (R : A → B → Type 0) (n : ℕ) (xs : List A) (ys : List B) → AllZip R xs ys → AllZip R (take n xs) (take n ys)
AllZip-take R zero xs ys h = tt
AllZip-take R (suc n) [] [] h = tt
AllZip-take R (suc n) [] (y ∷ ys) h = absurd h
AllZip-take R (suc n) (x ∷ xs) [] h = absurd h
AllZip-take R (suc n) (x ∷ xs) (y ∷ ys) h = (h.0, AllZip-take R n xs ys h.1)

pub AllZip-drop : {A B : Type 0} (R : A → B → Type 0) (n : ℕ) (xs : List A) (ys : List B) → AllZip R xs ys → AllZip R (drop n xs) (drop n ys)
AllZip-drop R zero xs ys h = h
AllZip-drop R (suc n) [] [] h = tt
AllZip-drop R (suc n) [] (y ∷ ys) h = absurd h
AllZip-drop R (suc n) (x ∷ xs) [] h = absurd h
AllZip-drop R (suc n) (x ∷ xs) (y ∷ ys) h = AllZip-drop R n xs ys h.1

pub none_from : {X : Type 0} (r : Option X) (P Q : Type 0) → (P → Q) → IfNone r P → IfNone r Q
none_from None P Q f h = f h
none_from (Some x) P Q f h = tt

-- what is drawn of labels that are printed
pub record Printed (g : Cells) (labels : List Label) : Type 0 where
  pub symbols : List Drawn
  pub drawn : AllZip IsDrawn labels symbols
  pub fit : AllByRecursion (FitsCell g) symbols

pub all_printed : (g : Cells) (labels : List Label) → AllByRecursion (IsPrintable g) labels → Printed g labels
all_printed g [] h = record { symbols = []; drawn = tt; fit = tt }
all_printed g (l ∷ labels) h = let p = all_printed g labels h.1 in record { symbols = h.0.0 ∷ p.symbols; drawn = (h.0.1, p.drawn); fit = (h.0.2, p.fit) }

-- an element of a list with one more at its end
pub last_or_before : {X : Type 0} (xs : List X) (y : X) (i : ℕ) (x : X) → slice_get (xs ++ y ∷ []) i ≡ Some x → (slice_get xs i ≡ Some x)
    ⊎ ((i ≡ length xs) × (x ≡ y))
last_or_before [] y zero x e = inr (refl, (let same : y ≡ x = cc in sym same))
last_or_before [] y (suc i) x e = absurd cc
last_or_before (z ∷ xs) y zero x e = inl e
last_or_before (z ∷ xs) y (suc i) x e = elim (last_or_before xs y i x e) [ inl before ↦ inl before | inr last ↦ inr (ap suc last.0, last.1) ]
