-- If each pair so far was a digit before a space, these are their widths; else the text begins with no such widths.
use Rattle.std.proofs.Common.{◌<◌, ◌≡◌, List, false, get_or, length, true, ℕ}
use Rattle.csv_records.specs.inner.FrontWidths.{BeginsWithDigits, IsDigitWord}
use Rattle.csv_records.proofs.lanes.widths.digits.Given as goal

abbrev pub invariant-widths : goal.invariant-widths
invariant-widths g l = record {
  places : length l.widths ≡ g.row.N;
  found : l.each ≡ true → (k : ℕ) → k < l.i → IsDigitWord l.text k (get_or l.widths k 0);
  none : l.each ≡ false → (ws : List ℕ) → length ws ≡ g.row.N → BeginsWithDigits l.text ws → ⊥;
}
