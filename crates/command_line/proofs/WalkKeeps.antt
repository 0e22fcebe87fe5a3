-- What holds of the rows of a walk over words that has no fault, where each use of an argument keeps it.
use Rattle.std.proofs.Common.{◌≡◌, ℕ, Bool, zero, suc, true, false, List, [], ◌∷◌, Option, Some, None, refl, subst, length, drop, cond, find, fold, is_some, bytes_eq, chars, encode_utf8, slice_get, ◌&&◌}
use Rattle.std.specs.List.{AllByRecursion}
use Rattle.std.specs.Option.{option_map_or}
use Rattle.clap.specs.Kinds.{Kinds, or_else}
use Rattle.clap.specs.Lexer.{long_of, short_of}
use Rattle.clap.specs.Walk.{Held, Names, Outcome, Row, Rule, Step, Text, Waiting, Walk, after_flag, after_step, arg_by_id, arg_by_index, arg_by_long, arg_by_short, attached_value, bundle, bundle_met, bundle_step, done, flag_met, idle, is_pending, long_met, long_or_other, next, option, option_met, option_word, plain, plain_word, positional, pushed, reacted, refused, settled, settled_rows, short_met, short_or_plain, subcommand, subcommand_met, subcommand_or_other, takes_several, takes_values, to_positional, trailing, used, used_by_id, value, waits, walked, walked_from, word_met}
use Rattle.clap.specs.Simple.{Shape}
use Rattle.clap.specs.Faults.{bundle_fault, bundle_step_fault, flag_word_fault, flags_fault, long_fault, option_fault, other_fault, positional_fault, react_fault, settle_fault, short_fault, step_fault, stray_fault, turn_fault, use_fault, walk_fault, word_fault}
use Rattle.clap.specs.declared.error.kind.ErrorKind.TheVariants as kind

-- where two steps have no fault, each has none
pub first_none : (a b : Kinds) → or_else a b ≡ [] → a ≡ []
first_none [] b e = refl
first_none (k ∷ ks) b e = e

pub second_none : (a b : Kinds) → or_else a b ≡ [] → b ≡ []
second_none [] b e = e
second_none (k ∷ ks) b e = cc e

-- what is found has what all have
pub found_has : {X : Type 0} (Q : X → Type 0) (p : X → Bool) (xs : List X) (x : X) → AllByRecursion Q xs → find p xs ≡ Some x → Q x
found_has Q p [] x h e = cc e
found_has {X} Q p (y ∷ ys) x h e = go (p y) refl (λ f. found_has Q p ys x h.1 f)
  where
    go : (b : Bool) → p y ≡ b → (find p ys ≡ Some x → Q x) → Q x
    go true t later =
        let here : Some y ≡ Some x = rw t at e in
        let same : y ≡ x = cc here in
        subst Q same h.0
    go false t later = later (rw t at e)

-- a use of the argument without a fault keeps P
abbrev pub Keeps : Bool → (List Row → Type 0) → Rule → Type 0
Keeps again P a = (values : List Text) (rows : List Row) → use_fault again a values rows ≡ [] → P rows → P (used a values rows)

module _ (c : List Rule) (again : Bool) (P : List Row → Type 0) (each : AllByRecursion (Keeps again P) c) where
  settle_by : (o : Option (Text × List Text)) (rows : List Row)
      → option_map_or (λ p. option_map_or (λ a. use_fault again a p.1 rows) (arg_by_id c p.0) []) o [] ≡ [] → P rows → P (settled_rows c o rows)
  settle_by None rows e p = p
  settle_by (Some q) rows e p = go (arg_by_id c q.0) refl e
    where
      go : (o : Option Rule) → arg_by_id c q.0 ≡ o → option_map_or (λ a. use_fault again a q.1 rows) o [] ≡ [] → P (used_by_id o q.1 rows)
      go None f e = p
      go (Some a) f e = found_has (Keeps again P) (λ a. bytes_eq a.id q.0) c a each f q.1 rows e p

  pub settle_keeps : (h : Held) → settle_fault c again h ≡ [] → P h.rows → P (settled c h).rows
  settle_keeps h e p = settle_by h.pending h.rows e p

  react_keeps : (a : Rule) → Keeps again P a → (values : List Text) (h : Held) → react_fault c again a values h ≡ [] → P h.rows → P (reacted c a values h).rows
  react_keeps a k values h e p = k values (settled c h).rows (second_none _ _ e) (settle_keeps h (first_none _ _ e) p)

  option_keeps : (a : Rule) → Keeps again P a → (v : Option Text) (h : Held) → option_fault c again a v h ≡ [] → P h.rows → P (option_met c a v h).0.rows
  option_keeps a k (Some v) h e p = react_keeps a k (v ∷ []) h e p
  option_keeps a k None h e p = settle_keeps h e p

  -- `--name` and `--name=value`
  long_keeps : (o : Option Rule) → ((a : Rule) → o ≡ Some a → Keeps again P a) → (v : Option Text) (h : Held) → long_fault c again o v h ≡ [] → P h.rows
      → P (long_met c o v h).0.rows
  long_keeps None has v h e p = cc e
  long_keeps (Some a) has v h e p = go (takes_values a) v e
    where
      go : (b : Bool) (v : Option Text) → cond b (option_fault c again a v h) (cond (is_some v) (kind.TooManyValues ∷ []) (react_fault c again a [] h)) ≡ []
          → P (cond b (option_met c a v h) (flag_met c a v h)).0.rows
      go true v e = option_keeps a (has a refl) v h e p
      go false None e = react_keeps a (has a refl) [] h e p
      go false (Some v) e = cc e

  -- a flag of a bundle, and those after it
  short_keeps : (o : Option Rule) → ((a : Rule) → o ≡ Some a → Keeps again P a) → (rest : Text) (h : Held) (fault : Held → Kinds) (met : Held → Held × Outcome)
      → ((h : Held) → fault h ≡ [] → P h.rows → P (met h).0.rows) → short_fault c again o rest h fault ≡ [] → P h.rows → P (short_met c o rest h met).0.rows
  short_keeps None has rest h fault met more e p = cc e
  short_keeps (Some a) has rest h fault met more e p = go (takes_values a) e
    where
      go : (b : Bool) → cond b (option_fault c again a (attached_value rest) h) (or_else (react_fault c again a [] h) (fault (reacted c a [] h))) ≡ []
          → P (cond b (option_met c a (attached_value rest) h) (met (reacted c a [] h))).0.rows
      go true e = option_keeps a (has a refl) (attached_value rest) h e p
      go false e = more (reacted c a [] h) (second_none _ _ e) (react_keeps a (has a refl) [] h (first_none _ _ e) p)

  bundle_step_keeps : (o : Option ℕ) (flags : Text) (skip : ℕ) (so_far : Outcome) (h : Held) (fault : Text → ℕ → Held → Kinds)
      (met : Text → ℕ → Outcome → Held → Held × Outcome)
      → ((flags : Text) (skip : ℕ) (so_far : Outcome) (h : Held) → fault flags skip h ≡ [] → P h.rows → P (met flags skip so_far h).0.rows)
      → bundle_step_fault c again o flags skip h fault ≡ [] → P h.rows → P (bundle_step c o flags skip so_far h met).0.rows
  bundle_step_keeps None flags skip so_far h fault met more e p = p
  bundle_step_keeps (Some x) flags zero so_far h fault met more e p =
      let rest : Text = drop (length (encode_utf8 x)) flags in
      short_keeps (arg_by_short c x) (λ a f. found_has (Keeps again P) _ c a each f) rest h (fault rest 0) (met rest 0 done) (λ h f q. more rest 0 done h f q) e
      p
  bundle_step_keeps (Some x) flags (suc skip) so_far h fault met more e p = more (drop (length (encode_utf8 x)) flags) skip so_far h e p

  bundle_keeps : (k : ℕ) (flags : Text) (skip : ℕ) (so_far : Outcome) (h : Held) → flags_fault c again k flags skip h ≡ [] → P h.rows
      → P (bundle_met c k flags skip so_far h).0.rows
  unfolding flags_fault bundle_met
  bundle_keeps zero flags skip so_far h e p = p
  bundle_keeps (suc k) flags skip so_far h e p =
      bundle_step_keeps (slice_get (chars flags) 0) flags skip so_far h (flags_fault c again k) (bundle_met c k) (λ f n o g. bundle_keeps k f n o g) e p

  -- a word that is no flag only waits
  plain_keeps : (w : Waiting) (word : Text) (h : Held) → P h.rows → P (plain_word c w word h).0.rows
  plain_keeps idle word h p = p
  plain_keeps positional word h p = p
  plain_keeps (option id) word h p = go (arg_by_id c id)
    where
      go : (o : Option Rule) → P (option_word o id word h).0.rows
      go None = p
      go (Some a) = p

  after_keeps : (w : Waiting) (word : Text) (h : Held) (x : Outcome) → P h.rows → P (after_flag c w word h x).0.rows
  after_keeps w word h done p = p
  after_keeps w word h (waits id) p = p
  after_keeps w word h plain p = plain_keeps w word h p
  after_keeps w word h refused p = plain_keeps w word h p

  short_word_keeps : (o : Option Text) (w : Waiting) (word : Text) (h : Held) → option_map_or (λ flags. bundle_fault c again flags h) o [] ≡ [] → P h.rows
      → P (short_or_plain c w word o h).0.rows
  short_word_keeps None w word h e p = plain_keeps w word h p
  short_word_keeps (Some flags) w word h e p =
      after_keeps w word (bundle c flags h).0 (bundle c flags h).1 (bundle_keeps (length flags) flags h.skip plain (record h { skip = 0 }) e p)

  flag_word_keeps : (o : Option (Text × Option Text)) (w : Waiting) (word : Text) (h : Held) → flag_word_fault c again o word h ≡ [] → P h.rows
      → P (long_or_other c w word o h).0.rows
  flag_word_keeps None w word h e p = short_word_keeps (short_of word) w word h e p
  flag_word_keeps (Some q) w word h e p =
      after_keeps w word (long_met c (arg_by_long c q.0) q.1 h).0 (long_met c (arg_by_long c q.0) q.1 h).1
      (long_keeps (arg_by_long c q.0) (λ a f. found_has (Keeps again P) _ c a each f) q.1 h e p)

-- a word, and then all words
module _ (s : Shape) (names : Names) (P : List Row → Type 0) (each : AllByRecursion (Keeps s.args_override_self P) s.rules) where
  other_keeps : (o : Option Text) (w : Waiting) (position : ℕ) (word : Text) (h : Held) → other_fault s o word h ≡ [] → P h.rows
      → P (subcommand_or_other s.rules o w position word h).0.rows
  other_keeps (Some name) w position word h e p = p
  other_keeps None w position word h e p = go (bytes_eq word (45 ∷ 45 ∷ [])) e
    where
      go : (b : Bool) → cond b [] (flag_word_fault s.rules s.args_override_self (long_of word) word h) ≡ []
          → P (cond b (h, trailing position) (long_or_other s.rules w word (long_of word) h)).0.rows
      go true e = p
      go false e = flag_word_keeps s.rules s.args_override_self P each (long_of word) w word h e p

  word_keeps : (is_trailing : Bool) (w : Waiting) (position : ℕ) (word : Text) (h : Held) → word_fault s names is_trailing w word h ≡ [] → P h.rows
      → P (word_met s.rules names is_trailing w position word h).0.rows
  word_keeps true w position word h e p = p
  word_keeps false w position word h e p = other_keeps (subcommand_met names w word) w position word h e p

  positional_keeps : (o : Option Rule) (word : Text) (w : Walk) (h : Held)
      → option_map_or (λ a. positional_fault s.rules s.args_override_self a h) o (stray_fault s) ≡ [] → P h.rows
      → P (to_positional s.rules o word w h).held.rows
  positional_keeps None word w h e p = p
  positional_keeps (Some a) word w h e p = go (is_pending a h.pending && takes_several a) e
    where
      go : (b : Bool) → cond b [] (settle_fault s.rules s.args_override_self h) ≡ [] → P (pushed a.id word (cond b h (settled s.rules h))).rows
      go true e = p
      go false e = settle_keeps s.rules s.args_override_self P each h e p

  step_keeps : (word : Text) (w : Walk) (h : Held) (x : Step) → step_fault s w.position h x ≡ [] → P h.rows → P (after_step s.rules word w h x).held.rows
  step_keeps word w h (next v) e p = p
  step_keeps word w h (trailing n) e p = p
  step_keeps word w h (subcommand name) e p = p
  step_keeps word w h value e p = positional_keeps (arg_by_index s.rules w.position) word w h e p

  turn_keeps : (w : Walk) (word : Text) → turn_fault s names w word ≡ [] → P w.held.rows → P (walked s.rules names w word).held.rows
  unfolding walked
  turn_keeps w word e p = go w.stopped e
    where
      go : (o : Option (Text × List Text))
          → cond (is_some o) [] (or_else (word_fault s names w.is_trailing w.waiting word w.held)
          (step_fault s w.position (word_met s.rules names w.is_trailing w.waiting w.position word w.held).0
          (word_met s.rules names w.is_trailing w.waiting w.position word w.held).1)) ≡ []
          → P (walked_from s.rules names o w word).held.rows
      go (Some q) e = p
      go None e =
          let met = word_met s.rules names w.is_trailing w.waiting w.position word w.held in
          step_keeps word w met.0 met.1 (second_none _ _ e) (word_keeps w.is_trailing w.waiting w.position word w.held (first_none _ _ e) p)

  pub walk_keeps : (words : List Text) (w : Walk) → walk_fault s names w words ≡ [] → P w.held.rows → P (fold (walked s.rules names) w words).held.rows
  unfolding walk_fault
  walk_keeps [] w e p = p
  walk_keeps (word ∷ rest) w e p = walk_keeps rest (walked s.rules names w word) (second_none _ _ e) (turn_keeps w word (first_none _ _ e) p)
