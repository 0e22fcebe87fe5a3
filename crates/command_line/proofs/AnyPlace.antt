-- Where choices stand in memory makes no difference to what `clap` finds in words: only what they say does.
use Rattle.std.proofs.Common.{◌≡◌, ◌∙◌, ◌&&◌, ◌||◌, ◌+◌, not, min, ℕ, Bool, zero, suc, true, false, List, [], ◌∷◌, Option, Some, None, refl, ap, ap₂, length, drop, cond, find, fold, map, is_some, option_map, bytes_eq, chars, encode_utf8, slice_get}
use Rattle.std.specs.List.{AllByRecursion, list_any}
use Rattle.std.specs.Option.{option_map_or}
use Rattle.clap.specs.Facts.{explicit_source, parser_of_value, unwrap_or_range}
use Rattle.clap.specs.Kinds.{Kinds, check_kinds, or_else, range_kinds, request_kinds, value_kinds}
use Rattle.clap.specs.Lexer.{long_of, short_of}
use Rattle.clap.specs.Matches.{count_text}
use Rattle.clap.specs.Values.{reading_of}
use Rattle.clap.specs.Walk.{Held, Names, Outcome, Row, Rule, Step, Text, Waiting, Walk, action_of, after_flag, after_step, answers_to, arg_by_id, arg_by_index, arg_by_long, arg_by_short, attached_value, bundle, bundle_met, bundle_step, count_of, default_rows, done, finished, flag_met, has_row, idle, is_empty, is_multiple, is_pending, long_met, most_values, long_or_other, next, next_position, nothing_held, option, option_met, option_word, plain, plain_word, positional, pushed, reacted, refused, rows_after, settled, settled_rows, short_met, short_or_plain, subcommand, subcommand_met, subcommand_or_other, takes_several, takes_values, to_positional, trailing, used, used_as, used_by_id, value, values_or_missing, waits, walk, walk_from, walked, walked_from, with_default, word_met}
use Rattle.clap.specs.Simple.{Shape, entered, label_of, rows_at}
use Rattle.clap.specs.Takes.{is_given}
use Rattle.clap.specs.Faults.{action_fault, bundle_fault, bundle_step_fault, check_fault, count_fault, default_fault, defaults_fault, entered_fault, flag_word_fault, flags_fault, level_fault, long_fault, option_fault, other_fault, positional_fault, react_fault, repeat_fault, settle_fault, short_fault, step_fault, stray_fault, turn_fault, use_fault, values_fault, walk_fault, word_fault}
use Rattle.clap.specs.declared.builder.action.ArgAction.{ArgAction}
use Rattle.clap.specs.declared.builder.action.ArgAction.TheVariants as action
use Rattle.clap.specs.declared.builder.value_parser.ValueParser.{ValueParser}
use Rattle.clap.specs.declared.error.kind.ErrorKind.TheVariants as kind

-- what is found among changed items is the changed item that was found
looked : {X Y : Type 0} (f : X → X) (Q : X → Type 0) (p : X → Bool) → ((x : X) → p (f x) ≡ p x) → (xs : List X) → AllByRecursion Q xs
    → (g h : Option X → Y) → g None ≡ h None → ((x : X) → Q x → g (Some (f x)) ≡ h (Some x)) → g (find p (map f xs)) ≡ h (find p xs)
looked f Q p same [] each g h none some = none
looked f Q p same (x ∷ xs) each g h none some = go (p x) (p (f x)) (same x) (looked f Q p same xs each.1 g h none some)
  where
    go : (b c : Bool) → c ≡ b → g (find p (map f xs)) ≡ h (find p xs) → g (cond c (Some (f x)) (find p (map f xs))) ≡ h (cond b (Some x) (find p xs))
    go true true e later = some x each.0
    go false false e later = later
    go true false e later = cc e
    go false true e later = cc e

module _ (f : Option ValueParser → Option ValueParser) where
  -- the argument with its parser changed
  abbrev swap : Rule → Rule
  swap a = record a { parser = f a.parser }

  -- the changed parser refuses the same values, with the same kind of error, and they are read alike
  abbrev pub IsAlike : Rule → Type 0
  IsAlike a = ((v : Text) → value_kinds a.ignore_case (parser_of_value (f a.parser)) v ≡ value_kinds a.ignore_case (parser_of_value a.parser) v)
      × (reading_of (parser_of_value (f a.parser)) ≡ reading_of (parser_of_value a.parser))

  -- ---- one use

  values_alike : (a : Rule) → IsAlike a → (values : List Text) → values_fault (swap a) values ≡ values_fault a values
  values_alike a like [] = refl
  values_alike a like (v ∷ vs) = ap₂ or_else (like.0 v) (values_alike a like vs)

  used_alike : (a : Rule) → IsAlike a → (values : List Text) (rows : List Row) → used (swap a) values rows ≡ used a values rows
  used_alike a like values rows = ap (λ how. used_as (action_of a) a.id how (values_or_missing a values) rows) like.1

  count_alike : (a : Rule) → IsAlike a → (values : List Text) (rows : List Row) → count_fault (swap a) values rows ≡ count_fault a values rows
  count_alike a like [] rows = like.0 (count_text (min (count_of a.id rows + 1) 255))
  count_alike a like (v ∷ vs) rows = values_alike a like (v ∷ vs)

  action_alike : (a : Rule) → IsAlike a → (x : ArgAction) (again : Bool) (values : List Text) (rows : List Row)
      → action_fault x again (swap a) values rows ≡ action_fault x again a values rows
  action_alike a like action.Set again values rows = ap (or_else (repeat_fault again a.id rows)) (values_alike a like values)
  action_alike a like action.SetTrue again values rows = ap (or_else (repeat_fault again a.id rows)) (values_alike a like values)
  action_alike a like action.SetFalse again values rows = ap (or_else (repeat_fault again a.id rows)) (values_alike a like values)
  action_alike a like action.Append again values rows = values_alike a like values
  action_alike a like action.Count again values rows = count_alike a like values rows
  action_alike a like _ again values rows = refl

  use_alike : (a : Rule) → IsAlike a → (again : Bool) (values : List Text) (rows : List Row) → use_fault again (swap a) values rows ≡ use_fault again a values rows
  use_alike a like again values rows =
      ap (or_else (range_kinds (unwrap_or_range a.range).start_inclusive (most_values a) (length values)))
      (action_alike a like (action_of a) again (values_or_missing a values) rows)

  module _ (c : List Rule) (each : AllByRecursion IsAlike c) (again : Bool) where
    abbrev d : List Rule
    d = map swap c

    -- ---- the walk

    settled_alike : (h : Held) → settled d h ≡ settled c h
    settled_alike h = go h.pending
      where
        go : (o : Option (Text × List Text)) → record h { rows = settled_rows d o h.rows; pending = None } ≡ record h { rows = settled_rows c o h.rows; pending = None }
        go None = refl
        go (Some q) = ap (λ rows. record h { rows = rows; pending = None })
            (looked swap IsAlike (λ a. bytes_eq a.id q.0) (λ a. refl) c each (λ o. used_by_id o q.1 h.rows) (λ o. used_by_id o q.1 h.rows) refl
            (λ a like. used_alike a like q.1 h.rows))

    settle_alike : (h : Held) → settle_fault d again h ≡ settle_fault c again h
    settle_alike h = go h.pending
      where
        go : (o : Option (Text × List Text)) → option_map_or (λ p. option_map_or (λ a. use_fault again a p.1 h.rows) (arg_by_id d p.0) []) o []
            ≡ option_map_or (λ p. option_map_or (λ a. use_fault again a p.1 h.rows) (arg_by_id c p.0) []) o []
        go None = refl
        go (Some q) =
            looked swap IsAlike (λ a. bytes_eq a.id q.0) (λ a. refl) c each (λ o. option_map_or (λ a. use_fault again a q.1 h.rows) o [])
            (λ o. option_map_or (λ a. use_fault again a q.1 h.rows) o []) refl (λ a like. use_alike a like again q.1 h.rows)

    reacted_alike : (a : Rule) → IsAlike a → (values : List Text) (h : Held) → reacted d (swap a) values h ≡ reacted c a values h
    reacted_alike a like values h =
        ap (λ rows. record h { rows = rows; pending = None })
        (used_alike a like values (settled d h).rows ∙ ap (λ s. used a values s.rows) (settled_alike h))

    react_alike : (a : Rule) → IsAlike a → (values : List Text) (h : Held) → react_fault d again (swap a) values h ≡ react_fault c again a values h
    react_alike a like values h =
        ap₂ or_else (settle_alike h) (use_alike a like again values (settled d h).rows ∙ ap (λ s. use_fault again a values s.rows) (settled_alike h))

    option_alike : (a : Rule) → IsAlike a → (v : Option Text) (h : Held) → option_met d (swap a) v h ≡ option_met c a v h
    option_alike a like (Some v) h = ap (λ s. (s, done)) (reacted_alike a like (v ∷ []) h)
    option_alike a like None h = ap (λ s. (record s { pending = Some (a.id, []) }, waits a.id)) (settled_alike h)

    option_fault_alike : (a : Rule) → IsAlike a → (v : Option Text) (h : Held) → option_fault d again (swap a) v h ≡ option_fault c again a v h
    option_fault_alike a like (Some v) h = react_alike a like (v ∷ []) h
    option_fault_alike a like None h = settle_alike h

    flag_alike : (a : Rule) → IsAlike a → (v : Option Text) (h : Held) → flag_met d (swap a) v h ≡ flag_met c a v h
    flag_alike a like (Some v) h = refl
    flag_alike a like None h = ap (λ s. (s, done)) (reacted_alike a like [] h)

    long_alike : (name : Text) (v : Option Text) (h : Held) → long_met d (arg_by_long d name) v h ≡ long_met c (arg_by_long c name) v h
    long_alike name v h =
        looked swap IsAlike _ (λ a. refl) c each (λ o. long_met d o v h) (λ o. long_met c o v h) refl
        (λ a like. ap₂ (cond (takes_values a)) (option_alike a like v h) (flag_alike a like v h))

    long_fault_alike : (name : Text) (v : Option Text) (h : Held) → long_fault d again (arg_by_long d name) v h ≡ long_fault c again (arg_by_long c name) v h
    long_fault_alike name v h =
        looked swap IsAlike _ (λ a. refl) c each (λ o. long_fault d again o v h) (λ o. long_fault c again o v h) refl
        (λ a like. ap₂ (cond (takes_values a)) (option_fault_alike a like v h) (ap (cond (is_some v) (kind.TooManyValues ∷ [])) (react_alike a like [] h)))

    short_alike : (x : ℕ) (rest : Text) (h : Held) (to from : Held → Held × Outcome) → ((s : Held) → to s ≡ from s)
        → short_met d (arg_by_short d x) rest h to ≡ short_met c (arg_by_short c x) rest h from
    short_alike x rest h to from same =
        looked swap IsAlike _ (λ a. refl) c each (λ o. short_met d o rest h to) (λ o. short_met c o rest h from) refl
        (λ a like. ap₂ (cond (takes_values a)) (option_alike a like (attached_value rest) h)
        (same (reacted d (swap a) [] h) ∙ ap from (reacted_alike a like [] h)))

    short_fault_alike : (x : ℕ) (rest : Text) (h : Held) (to from : Held → Kinds) → ((s : Held) → to s ≡ from s)
        → short_fault d again (arg_by_short d x) rest h to ≡ short_fault c again (arg_by_short c x) rest h from
    short_fault_alike x rest h to from same =
        looked swap IsAlike _ (λ a. refl) c each (λ o. short_fault d again o rest h to) (λ o. short_fault c again o rest h from) refl
        (λ a like. ap₂ (cond (takes_values a)) (option_fault_alike a like (attached_value rest) h)
        (ap₂ or_else (react_alike a like [] h) (same (reacted d (swap a) [] h) ∙ ap from (reacted_alike a like [] h))))

    step_alike : (o : Option ℕ) (flags : Text) (skip : ℕ) (so_far : Outcome) (h : Held) (to from : Text → ℕ → Outcome → Held → Held × Outcome)
        → ((t : Text) (n : ℕ) (x : Outcome) (s : Held) → to t n x s ≡ from t n x s)
        → bundle_step d o flags skip so_far h to ≡ bundle_step c o flags skip so_far h from
    step_alike None flags skip so_far h to from same = refl
    step_alike (Some x) flags zero so_far h to from same =
        let rest : Text = drop (length (encode_utf8 x)) flags in
        short_alike x rest h (to rest 0 done) (from rest 0 done) (λ s. same rest 0 done s)
    step_alike (Some x) flags (suc skip) so_far h to from same = same _ skip so_far h

    step_fault_alike : (o : Option ℕ) (flags : Text) (skip : ℕ) (h : Held) (to from : Text → ℕ → Held → Kinds)
        → ((t : Text) (n : ℕ) (s : Held) → to t n s ≡ from t n s)
        → bundle_step_fault d again o flags skip h to ≡ bundle_step_fault c again o flags skip h from
    step_fault_alike None flags skip h to from same = refl
    step_fault_alike (Some x) flags zero h to from same =
        let rest : Text = drop (length (encode_utf8 x)) flags in
        short_fault_alike x rest h (to rest 0) (from rest 0) (λ s. same rest 0 s)
    step_fault_alike (Some x) flags (suc skip) h to from same = same _ skip h

    bundle_alike : (k : ℕ) (flags : Text) (skip : ℕ) (so_far : Outcome) (h : Held) → bundle_met d k flags skip so_far h ≡ bundle_met c k flags skip so_far h
    unfolding bundle_met
    bundle_alike zero flags skip so_far h = refl
    bundle_alike (suc k) flags skip so_far h =
        step_alike (slice_get (chars flags) 0) flags skip so_far h (bundle_met d k) (bundle_met c k) (λ t n x s. bundle_alike k t n x s)

    flags_alike : (k : ℕ) (flags : Text) (skip : ℕ) (h : Held) → flags_fault d again k flags skip h ≡ flags_fault c again k flags skip h
    unfolding flags_fault
    flags_alike zero flags skip h = refl
    flags_alike (suc k) flags skip h =
        step_fault_alike (slice_get (chars flags) 0) flags skip h (flags_fault d again k) (flags_fault c again k) (λ t n s. flags_alike k t n s)

    plain_alike : (w : Waiting) (word : Text) (h : Held) → plain_word d w word h ≡ plain_word c w word h
    plain_alike idle word h = refl
    plain_alike positional word h = refl
    plain_alike (option id) word h =
        looked swap IsAlike (λ a. bytes_eq a.id id) (λ a. refl) c each (λ o. ((option_word o id word h).0, next (option_word o id word h).1))
        (λ o. ((option_word o id word h).0, next (option_word o id word h).1)) refl (λ a like. refl)

    after_alike : (w : Waiting) (word : Text) (h : Held) (x : Outcome) → after_flag d w word h x ≡ after_flag c w word h x
    after_alike w word h done = refl
    after_alike w word h (waits id) = refl
    after_alike w word h plain = plain_alike w word h
    after_alike w word h refused = plain_alike w word h

    short_word_alike : (o : Option Text) (w : Waiting) (word : Text) (h : Held) → short_or_plain d w word o h ≡ short_or_plain c w word o h
    short_word_alike None w word h = plain_alike w word h
    short_word_alike (Some flags) w word h =
        ap (λ m. after_flag d w word m.0 m.1) (bundle_alike (length flags) flags h.skip plain (record h { skip = 0 }))
        ∙ after_alike w word (bundle c flags h).0 (bundle c flags h).1

    flag_word_alike : (o : Option (Text × Option Text)) (w : Waiting) (word : Text) (h : Held) → long_or_other d w word o h ≡ long_or_other c w word o h
    flag_word_alike None w word h = short_word_alike (short_of word) w word h
    flag_word_alike (Some q) w word h =
        ap (λ m. after_flag d w word m.0 m.1) (long_alike q.0 q.1 h)
        ∙ after_alike w word (long_met c (arg_by_long c q.0) q.1 h).0 (long_met c (arg_by_long c q.0) q.1 h).1

    short_of_alike : (o : Option Text) (h : Held) → option_map_or (λ flags. bundle_fault d again flags h) o [] ≡ option_map_or (λ flags. bundle_fault c again flags h) o []
    short_of_alike None h = refl
    short_of_alike (Some flags) h = flags_alike (length flags) flags h.skip (record h { skip = 0 })

    flag_word_fault_alike : (o : Option (Text × Option Text)) (word : Text) (h : Held) → flag_word_fault d again o word h ≡ flag_word_fault c again o word h
    flag_word_fault_alike None word h = short_of_alike (short_of word) h
    flag_word_fault_alike (Some q) word h = long_fault_alike q.0 q.1 h

    subcommand_alike : (o : Option Text) (w : Waiting) (position : ℕ) (word : Text) (h : Held)
        → subcommand_or_other d o w position word h ≡ subcommand_or_other c o w position word h
    subcommand_alike (Some name) w position word h = refl
    subcommand_alike None w position word h = ap (cond (bytes_eq word (45 ∷ 45 ∷ [])) (h, trailing position)) (flag_word_alike (long_of word) w word h)

    word_alike : (names : Names) (is_trailing : Bool) (w : Waiting) (position : ℕ) (word : Text) (h : Held)
        → word_met d names is_trailing w position word h ≡ word_met c names is_trailing w position word h
    word_alike names is_trailing w position word h = ap (cond is_trailing (h, value)) (subcommand_alike (subcommand_met names w word) w position word h)

    -- the walk with the settled arguments of a word that goes to a positional
    abbrev with_held : Rule → Text → Walk → Held → Held → Walk
    with_held a word w h settled = record {
      held = pushed a.id word (cond (is_pending a h.pending && takes_several a) h settled);
      waiting = cond (is_multiple a) positional idle;
      position = next_position a w.position;
      is_trailing = w.is_trailing || a.trailing_var_arg;
      stopped = None;
    }

    to_positional_alike : (word : Text) (w : Walk) (h : Held) → to_positional d (arg_by_index d w.position) word w h ≡ to_positional c (arg_by_index c w.position) word w h
    to_positional_alike word w h =
        looked swap IsAlike _ (λ a. refl) c each (λ o. to_positional d o word w h) (λ o. to_positional c o word w h) refl
        (λ a like. ap (with_held a word w h) (settled_alike h))

    after_step_alike : (word : Text) (w : Walk) (h : Held) (x : Step) → after_step d word w h x ≡ after_step c word w h x
    after_step_alike word w h (next v) = refl
    after_step_alike word w h (trailing n) = refl
    after_step_alike word w h (subcommand name) = refl
    after_step_alike word w h value = to_positional_alike word w h

    walked_alike : (names : Names) (w : Walk) (word : Text) → walked d names w word ≡ walked c names w word
    unfolding walked
    walked_alike names w word = go w.stopped
      where
        go : (o : Option (Text × List Text)) → walked_from d names o w word ≡ walked_from c names o w word
        go (Some q) = refl
        go None =
            let met = word_met c names w.is_trailing w.waiting w.position word w.held in
            ap (λ m. after_step d word w m.0 m.1) (word_alike names w.is_trailing w.waiting w.position word w.held) ∙ after_step_alike word w met.0 met.1

    walk_alike : (names : Names) (words : List Text) (w : Walk) → fold (walked d names) w words ≡ fold (walked c names) w words
    walk_alike names [] w = refl
    walk_alike names (word ∷ rest) w =
        ap (λ x. fold (walked d names) x rest) (walked_alike names w word) ∙ walk_alike names rest (walked c names w word)

  -- ---- after the walk

  default_alike : (a : Rule) → IsAlike a → (rows : List Row) → with_default rows (swap a) ≡ with_default rows a
  default_alike a like rows = ap (λ how. cond (has_row a.id rows) rows (default_rows a.id how a.defaults rows)) like.1

  all_default_alike : (c : List Rule) → AllByRecursion IsAlike c → (rows : List Row) → fold with_default rows (map swap c) ≡ fold with_default rows c
  all_default_alike [] each rows = refl
  all_default_alike (a ∷ c) each rows =
      ap (λ r. fold with_default r (map swap c)) (default_alike a each.0 rows) ∙ all_default_alike c each.1 (with_default rows a)

  default_fault_alike : (a : Rule) → IsAlike a → (rows : List Row) → default_fault rows (swap a) ≡ default_fault rows a
  default_fault_alike a like rows =
      ap (cond (has_row a.id rows || is_empty a.defaults) []) (ap (or_else (request_kinds (action_of a))) (values_alike a like a.defaults))

  defaults_fault_alike : (c : List Rule) → AllByRecursion IsAlike c → (rows : List Row) → defaults_fault rows (map swap c) ≡ defaults_fault rows c
  unfolding defaults_fault
  defaults_fault_alike [] each rows = refl
  defaults_fault_alike (a ∷ c) each rows =
      ap₂ or_else (default_fault_alike a each.0 rows)
      (ap (λ r. defaults_fault r (map swap c)) (default_alike a each.0 rows) ∙ defaults_fault_alike c each.1 (with_default rows a))

  finished_alike : (c : List Rule) → AllByRecursion IsAlike c → (h : Held) → finished (map swap c) h ≡ finished c h
  finished_alike c each h =
      all_default_alike c each (settled (map swap c) h).rows ∙ ap (λ s. fold with_default s.rows c) (settled_alike c each false h)

  any_alike : (p : Rule → Bool) → ((a : Rule) → p (swap a) ≡ p a) → (c : List Rule) → list_any p (map swap c) ≡ list_any p c
  any_alike p same [] = refl
  any_alike p same (a ∷ c) = ap₂ ◌||◌ (same a) (any_alike p same c)

  -- ---- a command

  abbrev pub swapped : Shape → Shape
  swapped s = record s { rules = map swap s.rules }

  module _ (s : Shape) (each : AllByRecursion IsAlike s.rules) (names : Names) where
    abbrev again : Bool
    again = s.args_override_self

    other_alike : (o : Option Text) (word : Text) (h : Held) → other_fault (swapped s) o word h ≡ other_fault s o word h
    other_alike (Some name) word h = refl
    other_alike None word h = ap (cond (bytes_eq word (45 ∷ 45 ∷ [])) []) (flag_word_fault_alike s.rules each again (long_of word) word h)

    word_fault_alike : (is_trailing : Bool) (w : Waiting) (word : Text) (h : Held) → word_fault (swapped s) names is_trailing w word h ≡ word_fault s names is_trailing w word h
    word_fault_alike is_trailing w word h = ap (cond is_trailing []) (other_alike (subcommand_met names w word) word h)

    one_step_alike : (position : ℕ) (h : Held) (x : Step) → step_fault (swapped s) position h x ≡ step_fault s position h x
    one_step_alike position h (next v) = refl
    one_step_alike position h (trailing n) = refl
    one_step_alike position h (subcommand name) = refl
    one_step_alike position h value =
        looked swap IsAlike _ (λ a. refl) s.rules each (λ o. option_map_or (λ a. positional_fault (map swap s.rules) again a h) o (stray_fault s))
        (λ o. option_map_or (λ a. positional_fault s.rules again a h) o (stray_fault s)) refl
        (λ a like. ap (cond (is_pending a h.pending && takes_several a) []) (settle_alike s.rules each again h))

    turn_alike : (w : Walk) (word : Text) → turn_fault (swapped s) names w word ≡ turn_fault s names w word
    turn_alike w word =
        let met = word_met s.rules names w.is_trailing w.waiting w.position word w.held in
        ap (cond (is_some w.stopped) [])
        (ap₂ or_else (word_fault_alike w.is_trailing w.waiting word w.held)
        (ap (λ m. step_fault (swapped s) w.position m.0 m.1) (word_alike s.rules each again names w.is_trailing w.waiting w.position word w.held)
        ∙ one_step_alike w.position met.0 met.1))

    walk_fault_alike : (words : List Text) (w : Walk) → walk_fault (swapped s) names w words ≡ walk_fault s names w words
    unfolding walk_fault
    walk_fault_alike [] w = refl
    walk_fault_alike (word ∷ rest) w =
        ap₂ or_else (turn_alike w word)
        (ap (λ x. walk_fault (swapped s) names x rest) (walked_alike s.rules each again names w word) ∙ walk_fault_alike rest (walked s.rules names w word))

    check_alike : (rows : List Row) (has : Bool) → check_fault (swapped s) rows has ≡ check_fault s rows has
    check_alike rows has =
        ap (λ b. check_kinds (not has && (s.arg_required_else_help && not (list_any (λ r. explicit_source r.source) rows)))
        (not has && s.subcommand_required) (not (s.subcommand_negates_reqs && has) && b))
        (any_alike (λ a. a.required && not (is_given a.id rows)) (λ a. refl) s.rules)

    -- the faults after the walk, from what it holds at its end
    abbrev at_end : Shape → Kinds → Bool → Held → Kinds
    at_end t below has end =
        or_else below (or_else (settle_fault t.rules again end) (or_else (defaults_fault (settled t.rules end).rows t.rules) (check_fault t (finished t.rules end) has)))

    end_alike : (below : Kinds) (has : Bool) (end : Held) → at_end (swapped s) below has end ≡ at_end s below has end
    end_alike below has end =
        ap (or_else below) (ap₂ or_else (settle_alike s.rules each again end)
        (ap₂ or_else (defaults_fault_alike s.rules each (settled (map swap s.rules) end).rows
        ∙ ap (λ x. defaults_fault x.rows s.rules) (settled_alike s.rules each again end))
        (check_alike (finished (map swap s.rules) end) has ∙ ap (λ rows. check_fault s rows has) (finished_alike s.rules each end))))

    level_alike : (h : Held) (words : List Text) (has : Bool) (below : Kinds) → level_fault (swapped s) names h words has below ≡ level_fault s names h words has below
    level_alike h words has below =
        ap₂ or_else (walk_fault_alike words (walk_from h))
        (ap (λ w. at_end (swapped s) below has w.held) (walk_alike s.rules each again names words (walk_from h))
        ∙ end_alike below has (walk s.rules names h words).held)

    rows_alike : (words : List Text) → rows_after (map swap s.rules) names words ≡ rows_after s.rules names words
    rows_alike words =
        ap (λ w. finished (map swap s.rules) w.held) (walk_alike s.rules each again names words (walk_from nothing_held))
        ∙ finished_alike s.rules each (walk s.rules names nothing_held words).held

  -- ---- the command that words enter

  abbrev pub AreAlike : Shape → Type 0
  AreAlike s = AllByRecursion IsAlike s.rules

  pub entered_alike : (top : Shape) (subs : List Shape) → AllByRecursion AreAlike subs → (stop : Option (Text × List Text))
      → entered (record { top = top; subs = map swapped subs }) stop ≡ entered (record { top = top; subs = subs }) stop
  entered_alike top subs each None = refl
  entered_alike top subs each (Some q) =
      looked swapped AreAlike (λ s. answers_to q.0 (label_of s)) (λ s. refl) subs each (option_map (λ s. rows_at s q.1)) (option_map (λ s. rows_at s q.1)) refl
      (λ s alike. ap (λ rows. Some (s.name, rows)) (rows_alike s alike [] q.1))

  pub entered_fault_alike : (top : Shape) (subs : List Shape) → AllByRecursion AreAlike subs → (stop : Option (Text × List Text))
      → entered_fault (record { top = top; subs = map swapped subs }) stop ≡ entered_fault (record { top = top; subs = subs }) stop
  entered_fault_alike top subs each None = refl
  entered_fault_alike top subs each (Some q) =
      looked swapped AreAlike (λ s. answers_to q.0 (label_of s)) (λ s. refl) subs each
      (λ o. option_map_or (λ s. level_fault s [] nothing_held q.1 false []) o []) (λ o. option_map_or (λ s. level_fault s [] nothing_held q.1 false []) o []) refl
      (λ s alike. level_alike s alike [] nothing_held q.1 false [])
