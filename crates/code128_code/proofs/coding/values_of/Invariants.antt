use Rattle.std.proofs.Common.{◌≡◌, ◌∷◌, length, true}
use Rattle.std.specs.Prelude.{IsTrue}
use Rattle.std.specs.List.{list_all}
use Rattle.code128_code.specs.Characters.{fnc1}
use Rattle.code128_code.specs.Coding.{is_coded_byte}
use Rattle.code128_code.specs.inner.Steps.{all_coded, coded_on}
use Rattle.code128_code.proofs.coding.values_of.Given as goal

abbrev pub decreases-loop-rest : goal.decreases-loop-rest
decreases-loop-rest l = length l.rest

abbrev pub invariant-loop-rest : goal.invariant-loop-rest
invariant-loop-rest l = record {
  whole : all_coded l.coder l.rest ≡ fnc1 ∷ coded_on true l.fn.text;
  valid : IsTrue (list_all is_coded_byte l.rest);
}
