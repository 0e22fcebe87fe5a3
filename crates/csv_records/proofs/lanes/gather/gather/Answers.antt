use Rattle.std.proofs.Common.{◌++◌, ◌%◌, ◌/◌, ◌∙◌, ap, arith, subst, sym, w8}
use Rattle.std.proofs.lemmas.Simd.{SwzOk, swz_l}
use Rattle.csv_records.specs.inner.Kept.{entry}
use Rattle.csv_records.proofs.lanes.KeptLanes.{entries_ok, length_entries, swizzled}
use Rattle.csv_records.proofs.lanes.gather.gather.Goals as goal

pub swizzle : goal.swizzle
swizzle c = subst (SwzOk w8 16 16 0) (sym c.places.ensures) (entries_ok c.args.mask c.requires)

pub returns : goal.returns
returns c =
    let js = entry 0 (c.args.mask % 256) ++ entry 8 (c.args.mask / 256) in
    ap (swz_l w8 16 c.args.values 0) c.places.ensures ∙ swizzled c.args.values 0 js (omega (arith, length_entries c.args.mask c.requires))
