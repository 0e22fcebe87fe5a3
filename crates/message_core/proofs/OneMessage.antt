-- A message says one thing, so it has one line, and lines of pairs say their elements.
use Rattle.std.proofs.Common.{◌≡◌, ◌==◌, ◌&&◌, ◌++◌, ◌∙◌, ◌∷◌, Bool, List, None, Option, Some, Ok, Err, [], ap, ap₂, cond, drop, false, inl, inr, length, nat_le, not, refl, subst, sym, true, ℕ}
use Rattle.std.specs.Prelude.{codes}
use Rattle.std.specs.Fmt.{decimal}
use Rattle.std.specs.List.{list_all}
use Rattle.std.proofs.lemmas.Bool.{and_parts}
use Rattle.std.proofs.lemmas.Str.Ascii.{trim_ascii_end_is}
use Rattle.digits_core.specs.Digits.{digits_of, padded}
use Rattle.digits_core.specs.Gtins.{gtin_fault}
use Rattle.digits_core.specs.Laws.{GtinsAreChecked}
use Rattle.digits_core.specs.declared.fault.DigitFault.{DigitFault}
use Rattle.digits_core.specs.declared.fault.DigitFault.TheVariants as digits
use Rattle.element_core.specs.Elements.{Entry, GtinReads, IsElements, OneListOrFault, PairsDiffer, canonical, gtin_entry, pairs_text}
use Rattle.element_core.specs.Pairs.{FaultlessPairs, list_fault}
use Rattle.element_core.specs.Terms.{Terms}
use Rattle.element_core.specs.declared.fault.ElementFault.{ElementFault}
use Rattle.element_core.specs.declared.fault.ElementFault.TheVariants as element
use Rattle.message_core.specs.Faults.{message_fault_text}
use Rattle.message_core.specs.Heads.{head_of}
use Rattle.message_core.specs.Laws.{OneMessage, OneMessageLine, PairsSayElements}
use Rattle.message_core.specs.Links.{entries_said_by, fits, link_entries, link_said_by}
use Rattle.message_core.specs.Spellings.{spelled, without_separator}
use Rattle.message_core.specs.Messages.{IsEanUpcBy, IsHeadSaid, IsMessage, IsStringSaid, IsSymbolSaid, Outcome, gtin_said, gtin_said_by, message_text, word_by}
use Rattle.message_core.specs.declared.fault.MessageFault.{MessageFault}
use Rattle.message_core.specs.declared.fault.MessageFault.TheVariants.{Digits, Elements, Kind}
use Rattle.message_core.specs.declared.head.Head.{Head}
use Rattle.message_core.specs.declared.head.Head.TheVariants as head
use Rattle.message_core.specs.declared.symbology.Symbology.{Symbology}
use Rattle.message_core.specs.declared.symbology.Symbology.TheVariants as symbology
use Rattle.message_core.proofs.UpceDigits.{one_upce, upce_gtin}

-- ---- one thing

module _ (one : OneListOrFault) where
  said_once : (year : Terms) (text : List ℕ) (a b : Outcome) → IsStringSaid year text a → IsStringSaid year text b → a ≡ b
  said_once year text (Ok es) (Ok fs) h k = ap Ok ((one year (spelled (without_separator text))).0 es fs h k)
  said_once year text (Ok es) (Err (Elements f)) h k = absurd ((one year (spelled (without_separator text))).2 es f h k)
  said_once year text (Err (Elements f)) (Ok es) h k = absurd ((one year (spelled (without_separator text))).2 es f k h)
  said_once year text (Err (Elements f)) (Err (Elements g)) h k = ap (λ e. Err (Elements e)) ((one year (spelled (without_separator text))).1 f g h k)
  said_once year text (Err (Digits f)) b h k = absurd h
  said_once year text (Err Kind) b h k = absurd h
  said_once year text (Ok es) (Err (Digits f)) h k = absurd k
  said_once year text (Ok es) (Err Kind) h k = absurd k
  said_once year text (Err (Elements f)) (Err (Digits g)) h k = absurd k
  said_once year text (Err (Elements f)) (Err Kind) h k = absurd k

  ean_upc_once : (said : List ℕ) (b : Bool) (x y : Outcome) → IsEanUpcBy b said x → IsEanUpcBy b said y → x ≡ y
  ean_upc_once said true x y h k = one_upce said x y h k
  ean_upc_once said false x y h k = h ∙ sym k

  symbol_once : (s : Symbology) (year : Terms) (said : List ℕ) (x y : Outcome) → IsSymbolSaid s year said x → IsSymbolSaid s year said y → x ≡ y
  symbol_once symbology.EanUpc year said x y h k = ean_upc_once said (length said == 8) x y h k
  symbol_once symbology.Ean8 year said x y h k = h ∙ sym k
  symbol_once symbology.Itf14 year said x y h k = h ∙ sym k
  symbol_once symbology.LinkDataMatrix year said x y h k = h ∙ sym k
  symbol_once symbology.LinkQrCode year said x y h k = h ∙ sym k
  symbol_once symbology.Gs1128 year said x y h k = said_once year said x y h k
  symbol_once symbology.DataBar year said x y h k = said_once year said x y h k
  symbol_once symbology.DataMatrix year said x y h k = said_once year said x y h k
  symbol_once symbology.QrCode year said x y h k = said_once year said x y h k
  symbol_once symbology.DotCode year said x y h k = said_once year said x y h k

  head_once : (year : Terms) (text : List ℕ) (o : Option Head) (x y : Outcome) → IsHeadSaid year text o x → IsHeadSaid year text o y → x ≡ y
  head_once year text (Some (head.Symbology s)) x y h k = symbol_once s year (drop 3 text) x y h k
  head_once year text (Some head.Separator) x y h k = said_once year text x y h k
  head_once year text (Some head.Digits) x y h k = h ∙ sym k
  head_once year text (Some head.Link) x y h k = h ∙ sym k
  head_once year text None x y h k = h ∙ sym k

  pub one_message : OneMessage
  one_message year text o p x y (said, trimmed, begun, h) (more, also, other, k) =
      let same : more ≡ said = trim_ascii_end_is text more also ∙ sym (trim_ascii_end_is text said trimmed) in
      let heads : o ≡ p = begun ∙ ap head_of (sym same) ∙ sym other in
      (heads, head_once year said o x y h (subst (λ t. IsHeadSaid year t o y) same (subst (λ q. IsHeadSaid year more q y) (sym heads) k)))

  pub one_message_line : OneMessageLine
  one_message_line f year text line other (o, x, h, is) (p, y, k, also) =
      let same = one_message year text o p x y h k in is ∙ ap₂ (λ q told. message_text q f told) same.0 same.1 ∙ sym also

-- ---- what is said is a list of elements of some text

module _ (checked : GtinsAreChecked) (reads : GtinReads) (faultless : FaultlessPairs) (year : Terms) (es : List Entry) where
  abbrev Valid : Type 0
  Valid = (text : List ℕ) × IsElements year text es

  by_gtin : (text : List ℕ) (o : Option DigitFault) → gtin_fault text ≡ o → Ok es ≡ gtin_said_by text o → Valid
  by_gtin text None none is =
      let c = checked text none in
      let same : gtin_entry (padded (digits_of text)) ∷ [] ≡ es = cc is in
      (canonical (gtin_entry (padded (digits_of text)) ∷ []), subst (IsElements year _) same (reads (padded (digits_of text)) year c.0 c.1 c.2))
  by_gtin text (Some fault) some is = cc is

  by_size : (b : Bool) (text : List ℕ) → Ok es ≡ cond b (gtin_said text) (Err (Digits digits.Length)) → Valid
  by_size true text is = by_gtin text (gtin_fault text) refl is
  by_size false text is = cc is

  by_other : (b : Bool) (text : List ℕ) → Ok es ≡ cond b (Err (Digits digits.Length)) (gtin_said text) → Valid
  by_other true text is = cc is
  by_other false text is = by_gtin text (gtin_fault text) refl is

  by_ean_upc : (b : Bool) (text : List ℕ) → IsEanUpcBy b text (Ok es) → Valid
  by_ean_upc true text (gtin, none, is, list) =
      let g = upce_gtin _ _ gtin is in
      (canonical (gtin_entry gtin ∷ []), subst (IsElements year (canonical (gtin_entry gtin ∷ []))) (sym list) (reads gtin year g.0 g.1 is.checked))
  by_ean_upc false text h = by_other (length text == 14) text h

  by_entries : (fs : List Entry) (o : Option ElementFault) → list_fault year fs ≡ o → Ok es ≡ entries_said_by fs o → Valid
  by_entries fs None none is = let same : fs ≡ es = cc is in (canonical fs, subst (IsElements year (canonical fs)) same ((faultless year fs).0 none))
  by_entries fs (Some fault) some is = cc is

  by_fit : (b : Bool) (fs : List Entry) → Ok es ≡ cond b (entries_said_by fs (list_fault year fs)) (Err (Elements element.TooLong)) → Valid
  by_fit true fs is = by_entries fs (list_fault year fs) refl is
  by_fit false fs is = cc is

  by_link : (o : Option (List Entry)) → Ok es ≡ link_said_by year o → Valid
  by_link None is = cc is
  by_link (Some fs) is = by_fit (fits fs) fs is

  by_symbol : (s : Symbology) (said : List ℕ) → IsSymbolSaid s year said (Ok es) → Valid
  by_symbol symbology.EanUpc said h = by_ean_upc (length said == 8) said h
  by_symbol symbology.Ean8 said h = by_size (length said == 8) said h
  by_symbol symbology.Itf14 said h = by_size (length said == 14) said h
  by_symbol symbology.LinkDataMatrix said h = by_link (link_entries said) h
  by_symbol symbology.LinkQrCode said h = by_link (link_entries said) h
  by_symbol symbology.Gs1128 said h = (_, h)
  by_symbol symbology.DataBar said h = (_, h)
  by_symbol symbology.DataMatrix said h = (_, h)
  by_symbol symbology.QrCode said h = (_, h)
  by_symbol symbology.DotCode said h = (_, h)

  by_head : (text : List ℕ) (o : Option Head) → IsHeadSaid year text o (Ok es) → Valid
  by_head text (Some (head.Symbology s)) h = by_symbol s (drop 3 text) h
  by_head text (Some head.Separator) h = (_, h)
  by_head text (Some head.Digits) h = by_gtin text (gtin_fault text) refl h
  by_head text (Some head.Link) h = by_link (link_entries text) h
  by_head text None h = cc h

-- ---- a line of pairs is read back

-- a word is short and has no blank
abbrev has_no_blank : List ℕ → Bool
has_no_blank word = list_all (λ b. not (b == 32)) word

blank_in_word : (b : ℕ) (rest : Bool) → 32 ≡ b → (not (b == 32) && rest) ≡ true → ⊥
blank_in_word b rest is plain =
    let never : false ≡ true = ap (λ n. not (n == 32)) is ∙ (and_parts (not (b == 32)) rest plain).0 in cc never

-- a text has one first word
first_words : (w v x y : List ℕ) → has_no_blank w ≡ true → has_no_blank v ≡ true → w ++ (32 ∷ x) ≡ v ++ (32 ∷ y) → (w ≡ v) × (x ≡ y)
first_words [] [] x y p q e = (refl, cc e)
first_words [] (b ∷ v) x y p q e = absurd (let is : 32 ≡ b = cc e in blank_in_word b (has_no_blank v) is q)
first_words (a ∷ w) [] x y p q e = absurd (let is : 32 ≡ a = cc e in blank_in_word a (has_no_blank w) is p)
first_words (a ∷ w) (b ∷ v) x y p q e =
    let heads : a ≡ b = cc e in
    let tails : w ++ (32 ∷ x) ≡ v ++ (32 ∷ y) = cc e in
    let same = first_words w v x y (and_parts (not (a == 32)) (has_no_blank w) p).1 (and_parts (not (b == 32)) (has_no_blank v) q).1 tails in
    (ap₂ (λ c cs. c ∷ cs) heads same.0, same.1)

identifier_plain : (s : Symbology) → has_no_blank (word_by (Some (head.Symbology s))) ≡ true
identifier_plain symbology.EanUpc = refl
identifier_plain symbology.Ean8 = refl
identifier_plain symbology.Itf14 = refl
identifier_plain symbology.Gs1128 = refl
identifier_plain symbology.DataBar = refl
identifier_plain symbology.DataMatrix = refl
identifier_plain symbology.QrCode = refl
identifier_plain symbology.DotCode = refl
identifier_plain symbology.LinkDataMatrix = refl
identifier_plain symbology.LinkQrCode = refl

plain : (o : Option Head) → has_no_blank (word_by o) ≡ true
plain (Some (head.Symbology s)) = identifier_plain s
plain (Some head.Separator) = refl
plain (Some head.Digits) = refl
plain (Some head.Link) = refl
plain None = refl

short_identifier : (s : Symbology) → nat_le (length (word_by (Some (head.Symbology s)))) 3 ≡ true
short_identifier symbology.EanUpc = refl
short_identifier symbology.Ean8 = refl
short_identifier symbology.Itf14 = refl
short_identifier symbology.Gs1128 = refl
short_identifier symbology.DataBar = refl
short_identifier symbology.DataMatrix = refl
short_identifier symbology.QrCode = refl
short_identifier symbology.DotCode = refl
short_identifier symbology.LinkDataMatrix = refl
short_identifier symbology.LinkQrCode = refl

short : (o : Option Head) → nat_le (length (word_by o)) 3 ≡ true
short (Some (head.Symbology s)) = short_identifier s
short (Some head.Separator) = refl
short (Some head.Digits) = refl
short (Some head.Link) = refl
short None = refl

-- a refusal begins with a longer word
refused_words : (f : MessageFault) → (rest : List ℕ) × (message_fault_text f ≡ codes "refused" ++ (32 ∷ rest))
refused_words (Digits digits.Length) = (codes "1 Length", refl)
refused_words (Digits (digits.NotDigit place)) = (codes "2 NotDigit" ++ (32 ∷ decimal place), refl)
refused_words (Digits digits.CheckDigit) = (codes "3 CheckDigit", refl)
refused_words (Elements element.Empty) = (codes "4 Empty", refl)
refused_words (Elements (element.UnknownAi place)) = (codes "5 UnknownAi" ++ (32 ∷ decimal place), refl)
refused_words (Elements (element.ValueLength place)) = (codes "6 ValueLength" ++ (32 ∷ decimal place), refl)
refused_words (Elements (element.ValueCharacter place)) = (codes "7 ValueCharacter" ++ (32 ∷ decimal place), refl)
refused_words (Elements (element.ValueCheckDigit place)) = (codes "8 ValueCheckDigit" ++ (32 ∷ decimal place), refl)
refused_words (Elements (element.ValueDate place)) = (codes "9 ValueDate" ++ (32 ∷ decimal place), refl)
refused_words (Elements (element.MissingSeparator place)) = (codes "10 MissingSeparator" ++ (32 ∷ decimal place), refl)
refused_words (Elements element.TooLong) = (codes "11 TooLong", refl)
refused_words Kind = (codes "40 Kind", refl)

apart : (o : Option Head) (f : MessageFault) (x : List ℕ) → word_by o ++ (32 ∷ x) ≡ message_fault_text f → ⊥
apart o f x is =
    let w = refused_words f in
    let same = first_words (word_by o) (codes "refused") x w.0 (plain o) refl (is ∙ w.1) in
    let never : false ≡ true = ap (λ w. nat_le (length w) 3) (sym same.0) ∙ short o in
    cc never

pub pairs_say_elements : GtinsAreChecked → GtinReads → FaultlessPairs → PairsDiffer → PairsSayElements
pairs_say_elements checked reads faultless differ year text more line (o, Ok es, h, is) (p, Ok fs, k, also) =
    let same = first_words (word_by o) (word_by p) (pairs_text es) (pairs_text fs) (plain o) (plain p) (sym is ∙ also) in
    let valid : (es : List Entry) (text : List ℕ) (o : Option Head) → IsMessage year text o (Ok es) → (t : List ℕ) × IsElements year t es =
    λ es text o m. by_head checked reads faultless year es m.0 o m.3 in
    let lists : es ≡ fs = differ year year _ _ es fs (valid es text o h).1 (valid fs more p k).1 same.1 in
    inl (word_by o, es, is, (o, h, refl), (p, subst (λ l. IsMessage year more p (Ok l)) (sym lists) k, same.0))
pairs_say_elements checked reads faultless differ year text more line (o, Ok es, h, is) (p, Err f, k, also) = absurd (apart o f (pairs_text es) (sym is ∙ also))
pairs_say_elements checked reads faultless differ year text more line (o, Err f, h, is) (p, Ok fs, k, also) = absurd (apart p f (pairs_text fs) (sym also ∙ is))
pairs_say_elements checked reads faultless differ year text more line (o, Err f, h, is) (p, Err g, k, also) = inr ((o, f, h, is), (p, g, k, also))
