use Rattle.std.proofs.Common.{◌≡◌, ◌⊎◌, ◌<◌, ◌≤◌, ◌↔◌, ℕ, true}
use Rattle.std.specs.Prelude.{IsTrue}
use Rattle.shop_core.specs.Drawings.{IsBehindEllipsis, is_shown}
use Rattle.shop_core.proofs.texts.tells.Given as goal

abbrev pub invariant-letters : goal.invariant-letters
invariant-letters l = record {
  told : (i : ℕ) → i < l.place → (is_shown l.parts l.field l.text i ≡ true) ⊎ ((e : ℕ) × (e ≤ i) × IsBehindEllipsis l.parts l.field l.text e i);
  on : IsTrue l.goes_on ↔ ((e : ℕ) × (e < l.place) × IsBehindEllipsis l.parts l.field l.text e l.place);
}
