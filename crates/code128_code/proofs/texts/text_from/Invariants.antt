use Rattle.std.proofs.Common.{◌≡◌, ◌≤◌, ◌*◌, drop}
use Rattle.arrayvec.specs.ArrayVec.{array_vec_len}
use Rattle.code128_code.specs.inner.Steps.{all_said}
use Rattle.code128_code.specs.Texts.{text_from}
use Rattle.code128_code.proofs.texts.text_from.Given as goal

abbrev pub invariant-loop-value : goal.invariant-loop-value
invariant-loop-value l = record {
  said : all_said l.reader (drop l.value-index l.values) ≡ text_from l.fn.set l.values;
  short : array_vec_len l.reader.text ≤ 2 * l.value-index;
}
