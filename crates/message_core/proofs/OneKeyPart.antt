-- A path has one part at most that is a key, its value and its qualifiers to the end: the law `key_part_is`.
use Rattle.std.proofs.Common.{◌≡◌, ◌+◌, ◌++◌, ◌∷◌, ◌∙◌, Bool, List, None, Option, Some, [], ap, codes, false, if◌then◌else◌, nat_le, refl, subst, sym, true, ⊎_elim, ℕ}
use Rattle.std.specs.Str.{bytes_eq}
use Rattle.std.proofs.lemmas.Bool.{and_from, and_parts, and_right, cases_Bool, cond-false, cond-true, le-leb, leb-true}
use Rattle.std.proofs.lemmas.Option.{same_Some}
use Rattle.std.proofs.lemmas.Slice.Eq.{bytes_eq-Decides}
use Rattle.element_core.specs.Elements.{Entry}
use Rattle.message_core.specs.Keys.{cpid_place, gsrn_place, gtin_place, is_key, itip_place, location_place, payment_place, place_by, production_place}
use Rattle.message_core.specs.Laws.{StandInOrder, IsLinkPath, KeyPartIs, spread}
use Rattle.message_core.specs.Links.{follow_all, follow_by, is_keyed, key_part}

-- ---- no key is a qualifier: by each key that `is_key` lists

step : (P : List ℕ → Type 0) (key c : List ℕ) (rest : Bool) → P c → (rest ≡ true → P key) → (if bytes_eq key c then true else rest) ≡ true → P key
step P key c rest at others is = ⊎_elim
    (λ (same : bytes_eq key c ≡ true). subst P (sym ((bytes_eq-Decides key c).0 same)) at)
    (λ (other : bytes_eq key c ≡ false). others (sym (cond-false (bytes_eq key c) true rest other) ∙ is))
    (cases_Bool (bytes_eq key c))

abbrev IsNone : List ℕ → Type 0
IsNone ai = (gtin_place ai ≡ None) × (itip_place ai ≡ None) × (location_place ai ≡ None) × (payment_place ai ≡ None) × (production_place ai ≡ None) × (cpid_place ai ≡ None) × (gsrn_place ai ≡ None)

none_of : (key : List ℕ) → is_key key ≡ true → IsNone key
none_of key is0 =
    step IsNone key (codes "00") _ (refl, refl, refl, refl, refl, refl, refl) (λ is1.
    step IsNone key (codes "01") _ (refl, refl, refl, refl, refl, refl, refl) (λ is2.
    step IsNone key (codes "253") _ (refl, refl, refl, refl, refl, refl, refl) (λ is3.
    step IsNone key (codes "255") _ (refl, refl, refl, refl, refl, refl, refl) (λ is4.
    step IsNone key (codes "401") _ (refl, refl, refl, refl, refl, refl, refl) (λ is5.
    step IsNone key (codes "402") _ (refl, refl, refl, refl, refl, refl, refl) (λ is6.
    step IsNone key (codes "414") _ (refl, refl, refl, refl, refl, refl, refl) (λ is7.
    step IsNone key (codes "415") _ (refl, refl, refl, refl, refl, refl, refl) (λ is8.
    step IsNone key (codes "417") _ (refl, refl, refl, refl, refl, refl, refl) (λ is9.
    step IsNone key (codes "8003") _ (refl, refl, refl, refl, refl, refl, refl) (λ is10.
    step IsNone key (codes "8004") _ (refl, refl, refl, refl, refl, refl, refl) (λ is11.
    step IsNone key (codes "8006") _ (refl, refl, refl, refl, refl, refl, refl) (λ is12.
    step IsNone key (codes "8010") _ (refl, refl, refl, refl, refl, refl, refl) (λ is13.
    step IsNone key (codes "8013") _ (refl, refl, refl, refl, refl, refl, refl) (λ is14.
    step IsNone key (codes "8017") _ (refl, refl, refl, refl, refl, refl, refl) (λ is15.
    step IsNone key (codes "8018") _ (refl, refl, refl, refl, refl, refl, refl) (λ is16.
    absurd (cc is16)) is15) is14) is13) is12) is11) is10) is9) is8) is7) is6) is5) is4) is3) is2) is1) is0

same_if : (b : Bool) (o : Option ℕ) (p : Option ℕ) → o ≡ None → p ≡ None → (if b then o else p) ≡ None
same_if true o p is other = is
same_if false o p is other = other

no_place : (k key : List ℕ) → is_key key ≡ true → place_by k key ≡ None
no_place k key is =
    let n = none_of key is in
    same_if (bytes_eq k (codes "01")) (gtin_place key) _ n.0
    (same_if (bytes_eq k (codes "8006")) (itip_place key) _ n.1
    (same_if (bytes_eq k (codes "414")) (location_place key) _ n.2
    (same_if (bytes_eq k (codes "415")) (payment_place key) _ n.3
    (same_if (bytes_eq k (codes "417")) (production_place key) _ n.4
    (same_if (bytes_eq k (codes "8004")) (production_place key) _ n.4
    (same_if (bytes_eq k (codes "8010")) (cpid_place key) _ n.5
    (same_if (bytes_eq k (codes "8017")) (gsrn_place key) _ n.6
    (same_if (bytes_eq k (codes "8018")) (gsrn_place key) None n.6 refl))))))))

-- ---- a part is keyed

record Follows (key : List ℕ) (least : ℕ) (rest : List (List ℕ)) : Type 0 where
  qualifiers : List Entry
  order : StandInOrder key least qualifiers
  rest_is : rest ≡ spread qualifiers

module _ (key : List ℕ) where
  follow_parts : (least : ℕ) (rest : List (List ℕ)) → follow_all key least rest ≡ true → Follows key least rest
  follow_parts least [] is = record { qualifiers = []; order = tt; rest_is = refl }
  follow_parts least (ai ∷ []) is = absurd (cc is)
  follow_parts least (ai ∷ value ∷ rest) is = by (place_by key ai) refl (λ next good. follow_parts next rest good) is where
    by : (o : Option ℕ) → place_by key ai ≡ o → ((next : ℕ) → follow_all key next rest ≡ true → Follows key next rest) → follow_by least o (λ next. follow_all key next rest) ≡ true → Follows key least (ai ∷ value ∷ rest)
    by None at others good = absurd (cc good)
    by (Some place) at others good =
        let parts = and_parts (nat_le least place) (follow_all key (place + 1) rest) good in
        let more = others (place + 1) parts.1 in
        record {
          qualifiers = (record { ai = ai; value = value }) ∷ more.qualifiers;
          order = (place, at, leb-true least place parts.0, more.order);
          rest_is = ap (λ r. ai ∷ value ∷ r) more.rest_is;
        }

  follow_of : (least : ℕ) (qs : List Entry) → StandInOrder key least qs → follow_all key least (spread qs) ≡ true
  follow_of least [] o = refl
  follow_of least (e ∷ es) o =
      ap (λ p. follow_by least p (λ next. follow_all key next (spread es))) o.1
      ∙ and_from (nat_le least o.0) (follow_all key (o.0 + 1) (spread es)) (le-leb least o.0 o.2) (follow_of (o.0 + 1) es o.3)

  -- what never follows
  fails_by : (least : ℕ) (o : Option ℕ) (more : ℕ → Bool) → ((next : ℕ) → more next ≡ false) → follow_by least o more ≡ false
  fails_by least None more h = refl
  fails_by least (Some place) more h = and_right (nat_le least place) (more (place + 1)) (h (place + 1))

  -- segments of an odd number
  odd : (v : List ℕ) (qs : List Entry) (least : ℕ) → follow_all key least (v ∷ spread qs) ≡ false
  odd v [] least = refl
  odd v (e ∷ es) least = fails_by least (place_by key v) (λ next. follow_all key next (e.value ∷ spread es)) (λ next. odd e.value es next)

  -- and such with another key in them
  blocked : (other value : List ℕ) (qs : List Entry) → is_key other ≡ true → (us : List (List ℕ)) (least : ℕ)
      → follow_all key least (us ++ (other ∷ value ∷ spread qs)) ≡ false
  blocked other value qs is [] least =
      ap (λ o. follow_by least o (λ next. follow_all key next (spread qs))) (no_place key other is)
  blocked other value qs is (u ∷ []) least =
      fails_by least (place_by key u) (λ next. follow_all key next (value ∷ spread qs)) (λ next. odd value qs next)
  blocked other value qs is (u ∷ v ∷ us) least =
      fails_by least (place_by key u) (λ next. follow_all key next (us ++ (other ∷ value ∷ spread qs))) (λ next. blocked other value qs is us next)

-- ---- the law

keyed_parts : (s : List ℕ) (ss : List (List ℕ)) → is_keyed (s ∷ ss) ≡ true → IsLinkPath (s ∷ ss) (s ∷ ss)
keyed_parts s [] is = absurd (cc is)
keyed_parts s (value ∷ rest) is =
    let parts = and_parts (is_key s) (follow_all s 0 rest) is in
    let f = follow_parts s 0 rest parts.1 in
    record {
      stems = [];
      key = s;
      value = value;
      qualifiers = f.qualifiers;
      listed = parts.0;
      order = f.order;
      part_is = ap (λ r. s ∷ value ∷ r) f.rest_is;
      all_is = refl;
    }

behind_one : (s : List ℕ) (ss part : List (List ℕ)) → IsLinkPath ss part → IsLinkPath (s ∷ ss) part
behind_one s ss part p = record {
  stems = s ∷ p.stems;
  key = p.key;
  value = p.value;
  qualifiers = p.qualifiers;
  listed = p.listed;
  order = p.order;
  part_is = p.part_is;
  all_is = ap (λ r. s ∷ r) p.all_is;
}

found : (all part : List (List ℕ)) → key_part all ≡ Some part → IsLinkPath all part
found [] part is = absurd (cc is)
found (s ∷ ss) part is = ⊎_elim
    (λ (keyed : is_keyed (s ∷ ss) ≡ true).
    let same = same_Some (s ∷ ss) part (sym (cond-true (is_keyed (s ∷ ss)) (Some (s ∷ ss)) (key_part ss) keyed) ∙ is) in
    subst (λ p. IsLinkPath (s ∷ ss) p) same (keyed_parts s ss keyed))
    (λ (other : is_keyed (s ∷ ss) ≡ false).
    behind_one s ss part (found ss part (sym (cond-false (is_keyed (s ∷ ss)) (Some (s ∷ ss)) (key_part ss) other) ∙ is)))
    (cases_Bool (is_keyed (s ∷ ss)))

module _ (key value : List ℕ) (qs : List Entry) (listed : is_key key ≡ true) (order : StandInOrder key 0 qs) where
  not_before : (s : List ℕ) (ss : List (List ℕ)) → is_keyed (s ∷ (ss ++ (key ∷ value ∷ spread qs))) ≡ false
  not_before s [] = and_right (is_key s) (follow_all s 0 (value ∷ spread qs)) (odd s value qs 0)
  not_before s (t ∷ ss) = and_right (is_key s) (follow_all s 0 (ss ++ (key ∷ value ∷ spread qs))) (blocked s key value qs listed ss 0)

  finds : (stems : List (List ℕ)) → key_part (stems ++ (key ∷ value ∷ spread qs)) ≡ Some (key ∷ value ∷ spread qs)
  finds [] = cond-true (is_keyed (key ∷ value ∷ spread qs)) (Some (key ∷ value ∷ spread qs)) (key_part (value ∷ spread qs))
      (and_from (is_key key) (follow_all key 0 (spread qs)) listed (follow_of key 0 qs order))
  finds (s ∷ ss) =
      cond-false (is_keyed (s ∷ (ss ++ (key ∷ value ∷ spread qs)))) (Some (s ∷ (ss ++ (key ∷ value ∷ spread qs)))) (key_part (ss ++ (key ∷ value ∷ spread qs)))
      (not_before s ss)
      ∙ finds ss

finds_part : (all part : List (List ℕ)) → IsLinkPath all part → key_part all ≡ Some part
finds_part all part p =
    ap key_part (p.all_is ∙ ap (λ r. p.stems ++ r) p.part_is)
    ∙ finds p.key p.value p.qualifiers p.listed p.order p.stems
    ∙ ap (λ r. Some r) (sym p.part_is)

pub key_part_is : KeyPartIs
key_part_is all part = (found all part, finds_part all part)
