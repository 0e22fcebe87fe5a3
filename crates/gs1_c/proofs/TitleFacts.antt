-- The title of an AI is that of the first list which has one.
use Rattle.std.proofs.Common.{◌≡◌, ◌∙◌, ℕ, List, [], ◌++◌, ap, Bor, Option, Some, None, refl, sym}
use Rattle.std.specs.Prelude.{find, option_map}
use Rattle.std.specs.Option.{option_or, unwrap_or}
use Rattle.std.proofs.lemmas.List.Folds.{find-append}
use Rattle.gs1_c.specs.Titles.{TitledAis, has_ai, title_bytes, title_in}

map_or : {A B : Type 0} (f : A → B) (a b : Option A) → option_map f (option_or a b) ≡ option_or (option_map f a) (option_map f b)
map_or f None b = refl
map_or f (Some x) b = refl

or_or : {A : Type 0} (a b c : Option A) → option_or (option_or a b) c ≡ option_or a (option_or b c)
or_or None b c = refl
or_or (Some x) b c = refl

in_either : (xs ys : List TitledAis) (ai : List ℕ) → title_in (xs ++ ys) ai ≡ option_or (title_in xs ai) (title_in ys ai)
in_either xs ys ai = ap (option_map (λ (it : TitledAis). it.title)) (find-append (has_ai ai) xs ys) ∙ map_or (λ (it : TitledAis). it.title) (find (has_ai ai) xs) (find (has_ai ai) ys)

bytes_of : (title : Option (Bor (List ℕ))) (other : Bor (List ℕ)) → other.now ≡ [] → (unwrap_or title other).now ≡ title_bytes (option_map (λ t. t.now) title)
bytes_of None other e = e
bytes_of (Some title) other e = refl

module _ (ai : List ℕ) (ta tb tc td te : List TitledAis) (a b c d e : Option (Bor (List ℕ))) (is_a : option_map (λ t. t.now) a ≡ title_in ta ai)
    (is_b : option_map (λ t. t.now) b ≡ title_in tb ai) (is_c : option_map (λ t. t.now) c ≡ title_in tc ai) (is_d : option_map (λ t. t.now) d ≡ title_in td ai)
    (is_e : option_map (λ t. t.now) e ≡ title_in te ai) where
  abbrev now : Bor (List ℕ) → List ℕ
  now t = t.now

  joined : title_in (ta ++ (tb ++ (tc ++ (td ++ te)))) ai
      ≡ option_or (title_in ta ai) (option_or (title_in tb ai) (option_or (title_in tc ai) (option_or (title_in td ai) (title_in te ai))))
  joined =
      in_either ta (tb ++ (tc ++ (td ++ te))) ai
      ∙ ap (option_or (title_in ta ai)) (in_either tb (tc ++ (td ++ te)) ai
      ∙ ap (option_or (title_in tb ai)) (in_either tc (td ++ te) ai ∙ ap (option_or (title_in tc ai)) (in_either td te ai)))

  in_turn : option_map now (option_or (option_or (option_or (option_or a b) c) d) e)
      ≡ option_or (title_in ta ai) (option_or (title_in tb ai) (option_or (title_in tc ai) (option_or (title_in td ai) (title_in te ai))))
  in_turn =
      ap (option_map now) (or_or (option_or (option_or a b) c) d e ∙ or_or (option_or a b) c (option_or d e) ∙ or_or a b (option_or c (option_or d e)))
      ∙ map_or now a (option_or b (option_or c (option_or d e))) ∙ ap (option_or (option_map now a)) (map_or now b (option_or c (option_or d e)))
      ∙ ap (λ t. option_or (option_map now a) (option_or (option_map now b) t)) (map_or now c (option_or d e))
      ∙ ap (λ t. option_or (option_map now a) (option_or (option_map now b) (option_or (option_map now c) t))) (map_or now d e)
      ∙ rw (is_a, is_b, is_c, is_d, is_e) refl

  pub title_is : (none : Bor (List ℕ)) → none.now ≡ [] → (unwrap_or (option_or (option_or (option_or (option_or a b) c) d) e) none).now
      ≡ title_bytes (title_in (ta ++ (tb ++ (tc ++ (td ++ te)))) ai)
  title_is none empty =
      bytes_of (option_or (option_or (option_or (option_or a b) c) d) e) none empty ∙ ap title_bytes (in_turn ∙ sym joined)
