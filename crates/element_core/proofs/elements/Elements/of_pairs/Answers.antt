use Rattle.std.proofs.Common.{◌≡◌, ◌+◌, ◌++◌, ◌∷◌, [], ◌<◌, ◌≤◌, length, drop, sym, ap, subst, take, ◌∙◌, arith, List, ℕ, not, refl, length-append}
use Rattle.std.specs.Prelude.{IsSome, is_some}
use Rattle.std.proofs.lemmas.Grind.{common_steps}
use Rattle.std.proofs.lemmas.List.{length-map, take_all}
use Rattle.element_core.specs.Table.{predefined_length, row_at}
use Rattle.element_core.specs.inner.Elements.{AreElements}
use Rattle.element_core.specs.Elements.{Entry, IsElements, canonical}
use Rattle.element_core.specs.inner.Growing.{last_gap, separator_if}
use Rattle.element_core.specs.Pairs.{entry_of, entries_of}
use Rattle.element_core.proofs.Growth.{separator_for-gap, last_gap-push}
use Rattle.element_core.proofs.Listed.{listed}
use Rattle.element_core.proofs.PairFaults.{known_pair}
use Rattle.element_core.proofs.Unique.{same_element}
use Rattle.element_core.proofs.PairLemmas.{Adds, adds, entries_valid, entries_split, entries_more, too_long, fits, finished}
use Rattle.element_core.proofs.elements.Elements.of_pairs.Goals as goal
use Rattle.element_core.proofs.elements.Elements.of_pairs.Goals.{After-gap_length, After-loop-pair}

abbrev done : After-gap_length → List Entry
done c = entries_of (take c.loop-pair.pair-index c.args.pairs.now)

step : (c : After-gap_length) → Adds c.loop-pair.out.items (done c) (entries_of c.args.pairs.now) c.loop-pair.separate (entry_of c.pair-item.result)
step c =
    let i = c.loop-pair.invariant in
    adds c.loop-pair.out.items (done c) (entries_of (drop (c.loop-pair.pair-index + 1) c.args.pairs.now)) (entries_of c.args.pairs.now) c.loop-pair.separate
    (entry_of c.pair-item.result)
    (entries_split c.args.pairs.now c.loop-pair.pair-index c.pair-item.result c.loop-pair-test.true c.pair-item.is)
    i.canonical_text i.gap_is

pub returns-then-len-gap_length-gt192-clause-err : goal.returns-then-len-gap_length-gt192-clause-err
returns-then-len-gap_length-gt192-clause-err c =
    let g = step (goal.at.returns-then-len-gap_length-gt192-clause-err c).After-gap_length in
    let i = c.loop-pair-test.true in
    let below = g.below in
    let over = c.if-len-gap_length-gt192.true in
    too_long c.args.year (entries_of c.args.pairs.now) (omega (arith, length-map c.args.pairs.now entry_of)) (sym c.first_fault.ensures ∙ c.in_default.is)
    (omega (
      arith,
      g.size,
      ap length g.canonical_text,
      c.len.ensures.value,
      c.gap_length.ensures,
      ap length c.as_slice-ai.ensures.value,
      ap length
          c.as_slice-value.ensures.value,
    ))

pub loop-pair-preserved : goal.loop-pair-preserved
loop-pair-preserved c =
    let g = step (goal.at.loop-pair-preserved c).After-gap_length in
    let i = c.loop-pair.invariant in
    let e = entry_of c.pair-item.result in
    let same : record { ai = c.as_slice-ai.result.now; value = c.as_slice-value.result.now } ≡ e =
    same_element (record { ai = c.as_slice-ai.result.now; value = c.as_slice-value.result.now }) e c.as_slice-ai.ensures.value
    c.as_slice-value.ensures.value in
    let es = done (goal.at.loop-pair-preserved c).After-gap_length in
    let more : entries_of (take (c.loop-pair.pair-index + 1) c.args.pairs.now) ≡ es ++ e ∷ [] =
    entries_more c.args.pairs.now c.loop-pair.pair-index c.pair-item.result c.loop-pair-test.true c.pair-item.is in
    let text : c.append.new.text.items ≡ c.loop-pair.out.items ++ separator_if c.loop-pair.separate ++ (e.ai ++ e.value) =
    c.append.ensures ∙ ap (λ (x : Entry). c.loop-pair.out.items ++ separator_if c.loop-pair.separate ++ (x.ai ++ x.value)) same in
    record {
      canonical_text = text ∙ g.canonical_text ∙ ap canonical (sym more);
      fits = let under = c.if-len-gap_length-gt192.false in omega (
        arith,
        ap length text,
        g.size,
        c.len.ensures.value,
        c.gap_length.ensures,
        ap length c.as_slice-ai.ensures.value,
        ap length
            c.as_slice-value.ensures.value,
      );
      gap_is = ap last_gap more ∙ last_gap-push es e ∙ separator_for-gap e (is_some (predefined_length e.ai)) refl
          ∙ ap separator_if (sym (c.needs_separator-separate.ensures ∙ ap (λ (a : List ℕ). not (is_some (predefined_length a))) c.as_slice-ai.ensures.value));
    }

some : (c : After-loop-pair) → 0 < length (entries_of c.args.pairs.now)
some c =
    let some : 0 < length c.args.pairs.now = grind (arith, common_steps) in
    omega (arith, length-map c.args.pairs.now entry_of)

all_done : (c : After-loop-pair) → length c.args.pairs.now ≤ c.loop-pair.pair-index → c.loop-pair.out.items ≡ canonical (entries_of c.args.pairs.now)
all_done c past = c.loop-pair.invariant.canonical_text ∙ ap (λ ps. canonical (entries_of ps)) (take_all c.loop-pair.pair-index c.args.pairs.now past)

made : (c : After-loop-pair) → length c.args.pairs.now ≤ c.loop-pair.pair-index → IsElements c.args.year c.loop-pair.out.items (entries_of c.args.pairs.now)
made c past =
    finished c.args.year c.loop-pair.out.items (entries_of c.args.pairs.now) (entries_of c.args.pairs.now)
    (entries_valid c.args.year 0 (entries_of c.args.pairs.now) (sym c.first_fault.ensures ∙ c.in_default.is)) refl (all_done c past) (some c)
    c.loop-pair.invariant.fits

pub returns-clause-ok : goal.returns-clause-ok
returns-clause-ok c = (
  refl,
  listed c.args.year c.loop-pair.out.items (entries_of c.args.pairs.now)
      (made (goal.at.returns-clause-ok c).After-loop-pair c.loop-pair-test.false),
)

pub invariant_of-result : goal.invariant_of-result
invariant_of-result c =
    let m = made (goal.at.invariant_of-result c).After-loop-pair c.loop-pair-test.false in
    let same = sym (listed c.args.year c.loop-pair.out.items (entries_of c.args.pairs.now) m) in
    record {
      canonical_text = all_done (goal.at.invariant_of-result c).After-loop-pair c.loop-pair-test.false ∙ ap canonical same;
      elements = subst (λ es. IsElements c.args.year c.loop-pair.out.items es) same m;
    }

pub returns-clause-only : goal.returns-clause-only
returns-clause-only c =
    let short = c.loop-pair.invariant.fits in
    let done = all_done (goal.at.returns-clause-only c).After-loop-pair c.loop-pair-test.false in
    fits c.args.year (entries_of c.args.pairs.now) (some (goal.at.returns-clause-only c).After-loop-pair) (sym c.first_fault.ensures ∙ c.in_default.is)
    (omega (arith, ap length done))

pub needs_separator-separate-requires : goal.needs_separator-separate-requires
needs_separator-separate-requires c =
    let pairs = c.args.pairs.now in
    let i = c.loop-pair.pair-index in
    let pair = c.pair-item.result in
    let none = sym c.first_fault.ensures ∙ c.in_default.is in
    subst (λ (a : List ℕ). IsSome (row_at a)) (sym c.as_slice-ai.ensures.value)
    (known_pair c.args.year (entries_of (take i pairs)) (entry_of pair) (entries_of (drop (i + 1) pairs))
    (subst (AreElements c.args.year) (entries_split pairs i pair c.loop-pair-test.true c.pair-item.is) (entries_valid c.args.year 0 (entries_of pairs) none)))

pub append-requires : goal.append-requires
append-requires c =
    let under = c.if-len-gap_length-gt192.false in
    let ai = c.as_slice-ai.result.now in
    let value = c.as_slice-value.result.now in
    let gap = separator_if c.loop-pair.separate in
    omega (
      arith,
      c.len.ensures.value,
      c.gap_length.ensures,
      length-append (c.loop-pair.out.items ++ gap) (ai ++ value),
      length-append c.loop-pair.out.items gap,
      length-append ai value,
    )

pub loop-pair-init : goal.loop-pair-init
loop-pair-init c = record { canonical_text = c.new-out.ensures; fits = omega (arith, ap length c.new-out.ensures); gap_is = refl }

pub returns-then-is_empty-clause-err : goal.returns-then-is_empty-clause-err
returns-then-is_empty-clause-err c = rw (length-map c.args.pairs.now entry_of, sym c.if-is_empty.ensures) refl

pub returns-in-Some-clause-err : goal.returns-in-Some-clause-err
returns-in-Some-clause-err c = rw (length-map c.args.pairs.now entry_of, sym c.if-is_empty.ensures, sym c.in-Some.ensures) refl
