use Rattle.std.proofs.Common.{◌++◌, ◌∙◌, ◌∷◌, [], ap, append-nil, arith, refl, subst, sym, take}
use Rattle.std.proofs.lemmas.Grind.{common_steps}
use Rattle.wire_core.proofs.WrittenPieces.{one_more_piece, one_more_write}
use Rattle.wire_core.proofs.wire.write_all.Goals as goal

pub writes-init : goal.writes-init
writes-init g c = record {
  did = ([], ([], λ start events was. subst (g.W.Wire.Did start _) (sym (append-nil events)) was, refl), refl);
  same = refl;
  read = refl;
  end = λ was. was;
}

pub writes-preserved : goal.writes-preserved
writes-preserved g c =
    let old = c.writes.invariant.did in
    let wrote = old.1 in
    let piece = take c.in_ok-count.count c.writes.rest.now in
    let whole = old.2 in
    record {
      did = (
        old.0 ++ piece,
        (
          wrote.0 ++ piece ∷ [],
          λ start events was. subst (g.W.Wire.Did start _) (one_more_write events wrote.0 piece)
              (c.in_ok-count.ensures.ends.done start _ (wrote.1 start events was)),
          one_more_piece wrote.0 piece ∙ ap (λ t. t ++ piece) wrote.2,
        ),
        grind (arith, common_steps, whole),
      );
      same = c.in_ok-count.ensures.ends.faults.ok ∙ c.writes.invariant.same;
      read = c.in_ok-count.ensures.ends.faults.other_side ∙ c.writes.invariant.read;
      end = λ was. c.in_ok-count.ensures.end (c.writes.invariant.end was);
    }
