use Rattle.std.proofs.Common.{◌≡◌, ◌∙◌, ◌+◌, ◌<◌, ◌≤◌, [], ◌∷◌, ◌++◌, List, ℕ, length, length-append, append_assoc, ap, subst, sym, arith}
use Rattle.std.proofs.lemmas.List.{append-nil}
use Rattle.std.proofs.lemmas.Str.{encode_ascii}
use Rattle.element_core.specs.Elements.{Entry, pair_text, pairs_text}
use Rattle.element_core.specs.Shown.{shown_elements}
use Rattle.element_core.specs.inner.Walks.{AreAscii, front_entry}
use Rattle.element_core.proofs.PairLines.{more_pairs, pairs_text-cons}
use Rattle.element_core.proofs.pair_line.pairs_of.Goals as goal

pub loop-front-init : goal.loop-front-init
loop-front-init c =
    let f = c.in-Some.first in
    let shown = c.in-Some.ensures.elements in
    let more : List ℕ = more_pairs (shown_elements f.rest.now) in
    record {
      line = ap (λ (t : List ℕ). t ++ more) c.push_pair.ensures
          ∙ ap (λ (t : List ℕ). t ++ (f.ai.now ++ (61 ∷ f.value.now)) ++ more) c.new-line.ensures
          ∙ sym (ap pairs_text shown ∙ pairs_text-cons (front_entry f) (shown_elements f.rest.now));
      ascii = (subst AreAscii shown c.requires.ascii).1;
    }

-- room for a pair, and for the tab before it
pair_fits : (line all : List ℕ) (e : Entry) (es : List Entry) → line ++ (pair_text e ++ more_pairs es) ≡ all → length all ≤ 288
    → length line + length e.ai + length e.value + 1 ≤ 288
pair_fits line all e es is fits =
    omega (
      arith,
      ap length is,
      length-append line (pair_text e ++ more_pairs es),
      length-append (pair_text e) (more_pairs es),
      length-append e.ai (61 ∷ e.value),
    )

tab_fits : (line all : List ℕ) (e : Entry) (es shown : List Entry) → shown ≡ e ∷ es → line ++ more_pairs shown ≡ all → length all ≤ 288
    → length line + 1 ≤ 288
tab_fits line all e es shown shown_is is fits =
    let more : line ++ more_pairs (e ∷ es) ≡ all = rw shown_is at is in
    omega (arith, ap length more, length-append line (more_pairs (e ∷ es)))

after_tab : (line new all : List ℕ) (e : Entry) (es shown : List Entry) → new ≡ line ++ (9 ∷ []) → shown ≡ e ∷ es → line ++ more_pairs shown ≡ all
    → new ++ (pair_text e ++ more_pairs es) ≡ all
after_tab line new all e es shown new_is shown_is is =
    ap (λ (t : List ℕ). t ++ (pair_text e ++ more_pairs es)) new_is ∙ append_assoc line (9 ∷ []) (pair_text e ++ more_pairs es)
    ∙ ap (λ (s : List Entry). line ++ more_pairs s) (sym shown_is) ∙ is

shorter : (ai value rest text : ℕ) → ai + value + rest ≤ text → 0 < ai → rest < text
shorter ai value rest text within some = omega arith

pub push_pair-requires-clause-ai : goal.push_pair-requires-clause-ai
push_pair-requires-clause-ai c = (subst AreAscii c.in-Some.ensures.elements c.requires.ascii).0.0

pub push_pair-requires-clause-value : goal.push_pair-requires-clause-value
push_pair-requires-clause-value c = (subst AreAscii c.in-Some.ensures.elements c.requires.ascii).0.1

pub push_pair-requires-clause-room : goal.push_pair-requires-clause-room
push_pair-requires-clause-room c =
    let f = c.in-Some.first in
    let es = shown_elements f.rest.now in
    pair_fits c.new-line.result.bytes (pairs_text (shown_elements c.args.text.now)) (front_entry f) es
    (ap (λ (t : List ℕ). t ++ (pair_text (front_entry f) ++ more_pairs es)) c.new-line.ensures
    ∙ sym (ap pairs_text c.in-Some.ensures.elements ∙ pairs_text-cons (front_entry f) es))
    c.requires.room

pub push-requires : goal.push-requires
push-requires c =
    let f = c.in-Some-front_of.front in
    let fits = tab_fits c.loop-front.line.bytes (pairs_text (shown_elements c.args.text.now)) (front_entry f) (shown_elements f.rest.now)
    (shown_elements c.loop-front.rest.now) c.in-Some-front_of.ensures.elements c.loop-front.invariant.line c.requires.room in
    (omega arith, rw (encode_ascii 9 (omega arith)) fits)

pub push_pair-requires-in-Some-front_of-clause-ai : goal.push_pair-requires-in-Some-front_of-clause-ai
push_pair-requires-in-Some-front_of-clause-ai c = (subst AreAscii c.in-Some-front_of.ensures.elements c.loop-front.invariant.ascii).0.0

pub push_pair-requires-in-Some-front_of-clause-value : goal.push_pair-requires-in-Some-front_of-clause-value
push_pair-requires-in-Some-front_of-clause-value c = (subst AreAscii c.in-Some-front_of.ensures.elements c.loop-front.invariant.ascii).0.1

pub push_pair-requires-in-Some-front_of-clause-room : goal.push_pair-requires-in-Some-front_of-clause-room
push_pair-requires-in-Some-front_of-clause-room c =
    let f = c.in-Some-front_of.front in
    let all = pairs_text (shown_elements c.args.text.now) in
    let es = shown_elements f.rest.now in
    pair_fits c.push.new.self.bytes all (front_entry f) es
    (after_tab c.loop-front.line.bytes c.push.new.self.bytes all (front_entry f) es (shown_elements c.loop-front.rest.now) (c.push.ensures.ascii (omega arith))
    c.in-Some-front_of.ensures.elements c.loop-front.invariant.line)
    c.requires.room

pub loop-front-preserved : goal.loop-front-preserved
loop-front-preserved c =
    let f = c.in-Some-front_of.front in
    let all = pairs_text (shown_elements c.args.text.now) in
    let es = shown_elements f.rest.now in
    record {
      line = ap (λ (t : List ℕ). t ++ more_pairs es) c.push_pair-in-Some-front_of.ensures
          ∙ append_assoc c.push.new.self.bytes (pair_text (front_entry f)) (more_pairs es)
          ∙ after_tab c.loop-front.line.bytes c.push.new.self.bytes all (front_entry f) es (shown_elements c.loop-front.rest.now)
          (c.push.ensures.ascii (omega arith)) c.in-Some-front_of.ensures.elements c.loop-front.invariant.line;
      ascii = (subst AreAscii c.in-Some-front_of.ensures.elements c.loop-front.invariant.ascii).1;
    }

pub loop-front-smaller : goal.loop-front-smaller
loop-front-smaller c =
    let f = c.in-Some-front_of.front in
    shorter (length f.ai.now) (length f.value.now) (length f.rest.now) (length c.loop-front.rest.now) c.in-Some-front_of.ensures.within
    c.in-Some-front_of.ensures.some

pub returns : goal.returns
returns c =
    sym (append-nil c.loop-front.line.bytes)
    ∙ ap (λ (s : List Entry). c.loop-front.line.bytes ++ more_pairs s) (sym c.in_default-front_of.ensures.elements)
    ∙ c.loop-front.invariant.line

pub returns-in_default : goal.returns-in_default
returns-in_default c = c.new-line.ensures ∙ ap pairs_text (sym c.in_default.ensures.elements)
