-- A loop that writes what becomes of each element over another list.
use Rattle.std.proofs.Common.{◌≡◌, ◌<◌, ◌≤◌, ◌+◌, ℕ, List, [], ◌∷◌, ◌++◌, ◌∙◌, ap, arith, drop, get_or, length, map, slice_set, sym, take}
use Rattle.std.proofs.lemmas.List.{append_assoc, drop_more, length-map, length-take, map_more, set_at}

pub written_more : {X Y : Type 0} (f : X → Y) (xs : List X) (old ys : List Y) (i : ℕ) (d : X) → i < length xs → length xs ≤ length old
    → ys ≡ map f (take i xs) ++ drop i old → slice_set ys i (f (get_or xs i d)) ≡ map f (take (i + 1) xs) ++ drop (i + 1) old
written_more f xs old ys i d lt le h =
    let front = map f (take i xs) in
    let item = f (get_or xs i d) in
    let long : length front ≡ i = length-map (take i xs) f ∙ omega (arith, length-take i xs) in
    ap (λ l. slice_set l i item) (h ∙ ap (λ l. front ++ l) (drop_more old i item (omega arith))) ∙ set_at front _ _ item i long
    ∙ sym (append_assoc front (item ∷ []) _) ∙ ap (λ l. l ++ drop (i + 1) old) (sym (map_more f xs i d lt))
