-- The replies to records as more come (of specs/live/Replies).
use Rattle.command_runs.proofs.live.Words.{List, Meant, Numbers, Option, [], ap, filter_map, filter_map-append, numbers_after, numbers_after_lines, numbers_from, refl, replies_from, replies_to, reply_to, ℕ, ◌++◌, ◌∙◌, ◌∷◌, ◌≡◌}

-- the replies to records after others, and the numbers after them
replies_append : (next : Numbers) (ms ns : List Meant) → replies_from next (ms ++ ns) ≡ replies_from next ms ++ replies_from (numbers_from next ms) ns
replies_append next [] ns = refl
replies_append next (m ∷ ms) ns = ap (λ rs. reply_to next m ∷ rs) (replies_append (numbers_after next (reply_to next m)) ms ns)

after_append : (next : Numbers) (ms ns : List Meant) → numbers_from next (ms ++ ns) ≡ numbers_from (numbers_from next ms) ns
after_append next [] ns = refl
after_append next (m ∷ ms) ns = after_append (numbers_after next (reply_to next m)) ms ns

module _ (meant : List ℕ → Option Meant) where
  -- more lines, from the next numbers on
  pub replies_more : (lines more : List (List ℕ)) (next : Numbers) → numbers_after_lines meant lines ≡ next
      → replies_to meant (lines ++ more) ≡ replies_to meant lines ++ replies_from next (filter_map meant more)
  replies_more lines more next is = ap (replies_from (λ lane. 0)) (filter_map-append meant lines more)
      ∙ replies_append (λ lane. 0) (filter_map meant lines) (filter_map meant more)
      ∙ ap (λ n. replies_to meant lines ++ replies_from n (filter_map meant more)) is

  pub numbers_after_more : (lines more : List (List ℕ)) (next : Numbers) → numbers_after_lines meant lines ≡ next
      → numbers_after_lines meant (lines ++ more) ≡ numbers_from next (filter_map meant more)
  numbers_after_more lines more next is = ap (numbers_from (λ lane. 0)) (filter_map-append meant lines more)
      ∙ after_append (λ lane. 0) (filter_map meant lines) (filter_map meant more) ∙ ap (λ n. numbers_from n (filter_map meant more)) is
