use Rattle.std.proofs.Common.{◌≡◌, ◌∙◌, ◌++◌, List, None, ap, arith, length-append, map, sym}
use Rattle.std.proofs.lemmas.List.{length-map, map-append}
use Rattle.element_core.specs.Elements.{Entry}
use Rattle.element_core.specs.Pairs.{list_fault}
use Rattle.answer_core.specs.Places.{entry_at}
use Rattle.answer_core.specs.inner.Written.{parted_of}
use Rattle.answer_core.proofs.Codes.{parted_short}
use Rattle.answer_core.proofs.LinkReads.{faultless}
use Rattle.answer_core.proofs.writing.put_ordered.Goals as goal

pub coded_parts-requires : goal.coded_parts-requires
coded_parts-requires c =
    let at = entry_at c.args.text.now in
    let order = c.args.order.now in
    let p = parted_of c.args.text.now order in
    let es : List Entry = p.path ++ p.query in
    let all : map at c.as_slice.result.now ≡ es =
    ap (map at) (c.as_slice.ensures.value ∙ c.all_places.ensures) ∙ map-append at order.path.items order.query.items in
    let none : list_fault c.args.terms es ≡ None = ap (list_fault c.args.terms) (sym all) ∙ c.in-Ok.ensures.only in
    let few = c.requires.few in
    parted_short p (faultless c.args.terms es none).short
    (omega (arith, few, length-append p.path p.query, length-map order.path.items at, length-map order.query.items at))
