-- Elements of the query of a link that go to its path.
use Rattle.std.proofs.Common.{◌≡◌, ◌∙◌, ◌<◌, ◌≤◌, ◌∷◌, ◌++◌, [], List, None, Some, ap, ap₂, arith, length, map, refl, suc, sym, zero, ℕ}
use Rattle.std.specs.Prelude.{slice_get, slice_index_or}
use Rattle.std.specs.List.{remove}
use Rattle.std.proofs.lemmas.List.{map-append}
use Rattle.element_core.specs.Elements.{Entry}
use Rattle.answer_core.specs.Written.{Parted, moved_at, moved_by}
use Rattle.answer_core.specs.declared.place.Place.{Place}

map_removed : (f : Place → Entry) (xs : List Place) (i : ℕ) → map f (remove xs i) ≡ remove (map f xs) i
map_removed f [] zero = refl
map_removed f [] (suc i) = refl
map_removed f (x ∷ xs) zero = refl
map_removed f (x ∷ xs) (suc i) = ap (λ ys. f x ∷ ys) (map_removed f xs i)

map_got : (f : Place → Entry) (xs : List Place) (i : ℕ) (x : Place) → x ≡ slice_index_or xs i x → i < length xs → slice_get (map f xs) i ≡ Some (f x)
map_got f [] i x is low = absurd (omega (arith, low))
map_got f (y ∷ xs) zero x is low = ap (λ z. Some (f z)) (sym is)
map_got f (y ∷ xs) (suc i) x is low = map_got f xs i x is (omega (arith, low))

map_none : (f : Place → Entry) (xs : List Place) (i : ℕ) → length xs ≤ i → slice_get (map f xs) i ≡ None
map_none f [] i past = refl
map_none f (y ∷ xs) zero past = absurd (omega (arith, past))
map_none f (y ∷ xs) (suc i) past = map_none f xs i (omega (arith, past))

parted_at : List Entry → List Entry → Parted
parted_at path query = record { path = path; query = query }

pub moved_as : (f : Place → Entry) (path query : List Place) (i : ℕ) (x : Place) → x ≡ slice_index_or query i x → i < length query
    → (path' query' : List Place) → path' ≡ path ++ x ∷ [] → query' ≡ remove query i
    → (let p : Parted = record { path = map f path'; query = map f query' } in p) ≡ moved_at i (record { path = map f path; query = map f query })
unfolding parted_at
moved_as f path query i x is low path' query' put taken =
    ap₂ parted_at (ap (map f) put ∙ map-append f path (x ∷ [])) (ap (map f) taken ∙ map_removed f query i)
    ∙ sym (ap (λ o. moved_by o i (record { path = map f path; query = map f query })) (map_got f query i x is low))

pub stays : (f : Place → Entry) (path query : List Place) (i : ℕ) → length query ≤ i
    → (let p : Parted = record { path = map f path; query = map f query } in p) ≡ moved_at i (record { path = map f path; query = map f query })
stays f path query i past = sym (ap (λ o. moved_by o i (record { path = map f path; query = map f query })) (map_none f query i past))
