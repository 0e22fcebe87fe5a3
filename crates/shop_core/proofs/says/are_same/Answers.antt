use Rattle.element_core.specs.Elements.{OneListOrFault}
use Rattle.shop_core.proofs.SaidFacts.{same_listing, same_text}
use Rattle.shop_core.proofs.says.are_same.Goals as goal

pub returns : goal.returns
returns c =
    let law : OneListOrFault = c.one_list_or_fault.ensures in (
      (λ same. same_listing law c.args.one.now c.args.other.now c.text.result.items c.text-2.result.items c.as_slice.result.now c.as_slice-2.result.now
          c.eq.result c.year.result c.year-2.result c.if-ne.ensures c.year.ensures c.year-2.ensures c.text.ensures.reads c.text-2.ensures.reads
          c.as_slice.ensures.value c.as_slice-2.ensures.value c.eq.ensures same),
      (λ same. same_text c.args.one.now c.args.other.now c.text.result.items c.text-2.result.items c.as_slice.result.now c.as_slice-2.result.now
          c.eq.result c.text.ensures.canonical c.text-2.ensures.canonical c.as_slice.ensures.value c.as_slice-2.ensures.value c.eq.ensures same),
    )
