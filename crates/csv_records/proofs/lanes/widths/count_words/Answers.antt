-- When no part is left, all spaces are counted, and there is one word more.
use Rattle.std.proofs.Common.{◌+◌, ◌==◌, ◌≡◌, ◌∙◌, [], List, ℕ, ap, arith, sym}
use Rattle.std.specs.List.{count_by}
use Rattle.std.specs.Slice.Iter.{chunks_rest}
use Rattle.std.proofs.lemmas.List.{nil_from_length}
use Rattle.std.proofs.lemmas.List.Splits.{length-slice_split}
use Rattle.csv_records.proofs.lanes.widths.count_words.Goals as goal

pub returns : goal.returns
returns c =
    let field = c.args.field.now in
    let none : chunks_rest c.loop-part.part-iterator ≡ [] = nil_from_length _ c.in-None.ensures.steps.1.0 in
    let all : c.loop-part.spaces + 0 ≡ count_by (λ b. b == 32) field =
    ap (λ (t : List ℕ). c.loop-part.spaces + count_by (λ b. b == 32) t) (sym none) ∙ c.loop-part.invariant.3 in
    let same : c.loop-part.spaces ≡ count_by (λ b. b == 32) field = omega (arith, all) in
    ap (λ n. n + 1) same ∙ sym (length-slice_split (λ b. b == 32) field)
