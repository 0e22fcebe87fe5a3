use Rattle.std.proofs.Common.{◌≡◌, ◌∙◌, ◌-◌, ◌∷◌, ap, arith, drop, length, length-drop, sym, ℕ}
use Rattle.std.specs.Str.Lines.{lines}
use Rattle.std.proofs.lemmas.List.{drop-drop, length-set}
use Rattle.answer_core.specs.Lines.{IsLineAnswer}
use Rattle.answer_core.proofs.LineByLine.{left_more, same_behind, zip_more}
use Rattle.answer_core.proofs.lines.read_lines.Goals as goal
use Rattle.answer_core.proofs.lines.read_lines.Goals.{else-loop-count-test, then-loop-count-test+in_default}

pub loop-count-preserved : goal.loop-count-preserved
loop-count-preserved c =
    let i = c.loop-count.invariant in
    let k = c.loop-count.count in
    let answers = c.loop-count.answers in
    let new = c.read_line.new.self in
    let text = c.args.text.now in
    let rest = c.loop-count.rest.now in
    let behind = c.in-Some.behind.now in
    let line = c.in-Some.line.now in
    let en = c.in-Some.ensures in
    let low = c.loop-count-test.true in
    let next : line ∷ lines behind ≡ drop k (lines text) = sym en.lines ∙ i.left in
    let same = length-set answers k new in
    let some = i.some in
    let within = i.within in
    let shorter = en.shorter in
    record {
      room = same ∙ i.room;
      few = omega (arith, same, low);
      some = omega (arith, ap length next, length-drop k (lines text), some);
      answered = zip_more (IsLineAnswer c.args.kind c.args.terms.now) (lines text) answers k line (lines behind) new i.answered next low c.read_line.ensures;
      kept = same_behind answers c.args.answers.now k new i.kept;
      left = left_more (lines text) k line (lines behind) next;
      within = omega (arith, shorter, within);
      from = en.behind ∙ ap (drop (length rest - length behind)) i.from
          ∙ drop-drop (length rest - length behind) (length text - length rest) text
          ∙ ap (λ (n : ℕ). drop n text) (omega (arith, shorter, within));
    }

pub returns : goal.returns
returns c =
    let i = c.loop-count.invariant in
    let k = c.loop-count.count in
    let all = lines c.args.text.now in
    let some = i.some in
    let few = i.few in
    let room = i.room in
    let left = ap length i.left in
    let dropped = length-drop k all in
    record {
      count_is = elim c.loop-count-test.branch [
        | else-loop-count-test w ↦ let full = w.loop-count-test.false in omega (arith, full, some, few, room)
        | then-loop-count-test+in_default w ↦ let none = ap length w.in_default.ensures.lines in omega (arith, none, left, dropped, some, few, room)
      ];
      answered = i.answered;
      kept = i.kept;
      within = omega arith;
      left = ap lines (sym i.from) ∙ i.left;
    }
