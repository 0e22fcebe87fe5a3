use Rattle.std.proofs.Common.{◌∙◌, arith, sym}
use Rattle.element_core.specs.Elements.{Entry}
use Rattle.element_core.proofs.Growth.{canonical-push, grows, last_gap-push, separator_for-gap}
use Rattle.element_core.proofs.draft.DraftTakesElements.take.Goals as goal

pub append-requires : goal.append-requires
append-requires c =
    let n = c.requires.next in
    let e : Entry = record { ai = c.args.ai.now; value = c.args.value.now } in
    let g = grows n.year n.text c.args.self.now.text.items n.list c.args.self.now.separate e n.mid n.rest n.reads n.holds.0 n.holds.1 n.begins in
    omega (arith, g.room, n.fits)

pub returns : goal.returns
returns c list holds =
    let e : Entry = record { ai = c.args.ai.now; value = c.args.value.now } in (
      c.append.ensures ∙ rw (holds.0, ← holds.1) (sym (canonical-push list e)),
      last_gap-push list e ∙ separator_for-gap e c.args.predefined c.requires.predefined,
    )
