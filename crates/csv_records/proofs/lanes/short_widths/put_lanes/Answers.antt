use Rattle.std.proofs.Common.{◌≡◌, ◌+◌, ◌/◌, ◌%◌, ◌++◌, ◌∙◌, ap, arith, count_ones, drop, length, length-append, sym, take}
use Rattle.std.proofs.lemmas.List.{length-drop, length-map, length-take-le}
use Rattle.csv_records.specs.inner.Kept.{at_set_bits}
use Rattle.csv_records.proofs.lanes.KeptLanes.{length_entries}
use Rattle.csv_records.proofs.lanes.Halves.{few_kept, halves16, kept_parts, lower, lower_count, stored, upper, upper_count}
use Rattle.csv_records.proofs.lanes.short_widths.put_lanes.Goals as goal

pub returns-clause-put : goal.returns-clause-put
returns-clause-put c = λ bits long is.
    let v = c.args.values in
    let g = c.gather-gathered.result in
    let found = c.gather-gathered.ensures in
    let f = count_ones (c.args.mask % 256) in
    let u = count_ones (c.args.mask / 256) in
    let lo_count = lower_count v g bits c.args.mask c.fits-values.0 long is c.requires.mask found in
    let hi_count = upper_count v g bits c.args.mask c.fits-values.0 long is c.requires.mask found in
    let h = halves16 bits long in
    let whole : length g ≡ 16 = ap length found ∙ length-map _ _ ∙ length_entries c.args.mask c.requires.mask in
    let lo8 : length (take 8 g) ≡ 8 = length-take-le 8 g (omega (arith, whole)) in
    let hi8 : length (take 8 (drop 8 g)) ≡ 8 = length-take-le 8 (drop 8 g) (omega (arith, whole, length-drop 8 g)) in
    let parts = kept_parts 8 bits v in (
      stored c.args.at f u c.args.widths.now c.put_eight.new.widths c.put_eight-2.new.widths (take 8 g) (take 8 (drop 8 g)) _ _ c.requires.room
          (omega (arith, lo8, lo_count, few_kept (take 8 bits) v, h.2)) (omega (arith, hi8, hi_count, few_kept (drop 8 bits) (drop 8 v), h.3))
          (lower v g bits c.args.mask c.fits-values.0 long is c.requires.mask found) (upper v g bits c.args.mask c.fits-values.0 long is c.requires.mask found)
          (c.put_eight.ensures.put ∙ ap (λ l. take c.args.at c.args.widths.now ++ (l ++ drop (c.args.at + 8) c.args.widths.now)) c.lower_half.ensures)
          (c.put_eight-2.ensures.put ∙ ap (λ l. take (c.args.at + f) c.put_eight.new.widths ++ (l ++ drop (c.args.at + f + 8) c.put_eight.new.widths)) c.upper_half.ensures)
          ∙ ap (λ t. take c.args.at c.args.widths.now ++ t) (sym parts),
      omega (arith, lo_count, hi_count, ap length parts, length-append (at_set_bits (take 8 bits) v) (at_set_bits (drop 8 bits) (drop 8 v))),
    )
