use Rattle.std.proofs.Common.{◌≡◌, ℕ, List, ◌∙◌, ap, arith, length, subst, sym}
use Rattle.std.specs.List.{list_all}
use Rattle.std.specs.Prelude.{IsTrue}
use Rattle.std.proofs.lemmas.List.{length-append}
use Rattle.std.proofs.lemmas.Grind.{common_steps}
use Rattle.code128_code.specs.Coding.{is_coded_byte}
use Rattle.code128_code.specs.inner.Steps.{all_coded, coded_on}
use Rattle.code128_code.proofs.DataFacts.{few_values, list_all-drop, rest_of}
use Rattle.code128_code.proofs.RunsAreCoded.{coded_whole}
use Rattle.code128_code.proofs.coding.values_of.Goals as goal

pub put_front-taken-requires-clause-room : goal.put_front-taken-requires-clause-room
put_front-taken-requires-clause-room c =
    let few = few_values c.args.text.now c.requires.few c.requires.digits in
    let same = ap length c.loop-rest.invariant.whole in omega arith

pub loop-rest-preserved : goal.loop-rest-preserved
loop-rest-preserved c =
    let rest : List ℕ = c.loop-rest.rest.now in
    let left = rest_of rest c.put_front-taken.result in
    record {
      whole = ap (all_coded c.put_front-taken.new.coder) left ∙ c.put_front-taken.ensures.whole ∙ c.loop-rest.invariant.whole;
      valid = subst (λ (text : List ℕ). IsTrue (list_all is_coded_byte text)) (sym left)
          (list_all-drop is_coded_byte c.put_front-taken.result rest c.loop-rest.invariant.valid);
    }

pub returns-clause-few : goal.returns-clause-few
returns-clause-few c =
    let few = few_values c.args.text.now c.requires.few c.requires.digits in
    let same = ap length c.loop-rest.invariant.whole in
    let parts = length-append c.loop-rest.coder.values.items (coded_on c.loop-rest.coder.in_c c.loop-rest.rest.now) in omega arith

pub returns-clause-values : goal.returns-clause-values
returns-clause-values c =
    let none : length c.loop-rest.rest.now ≡ 0 = grind (arith, common_steps) in
    coded_whole c.loop-rest.coder.values.items c.loop-rest.rest.now c.args.text.now c.loop-rest.coder.in_c none c.loop-rest.invariant.whole
