-- The widths of the words so far are read, eight, two or one at a time, until a word is no width.
use Rattle.std.proofs.Common.{◌-◌, ◌++◌, ◌<◌, ◌≡◌, ◌||◌, ◌∙◌, ◌∷◌, Some, [], ap, arith, drop, length, min, nat_lt, subst, sym, take}
use Rattle.csv_records.specs.lanes.Widths.{words_of}
use Rattle.csv_records.specs.declared.input.fault.RecordFault.TheVariants as fault
use Rattle.csv_records.proofs.lanes.DigitWidths.{digits_read}
use Rattle.csv_records.proofs.lanes.FieldWords.{AreRead, bad_rest, one_word_read}
use Rattle.csv_records.proofs.lanes.widths.read_any_widths.Goals as goal

pub returns-in_default-first_width-clause-refused : goal.returns-in_default-first_width-clause-refused
returns-in_default-first_width-clause-refused c = λ f same.
    let here : fault.BadRuns ≡ f = cc in
    let words = words_of c.args.field.now in
    let low : length c.words.widths.items < length words = omega (arith, c.count_words-count.ensures, c.len.ensures, c.words-test.true) in
    bad_rest c.args.field.now (length c.words.widths.items) c.words.rest.now (c.words.invariant.read.rest low) c.in_default-first_width.ensures.none
    ∙ ap (λ x. Some x) here

-- eight at a time; two at a time below are proved in the same steps, with 2 for 8
pub words-preserved-in_ok-extend_from_slice : goal.words-preserved-in_ok-extend_from_slice
words-preserved-in_ok-extend_from_slice c =
    let words = words_of c.args.field.now in
    let text = c.words.rest.now in
    let found = c.words.widths.items in
    let told = c.in-Some.ensures in
    let low : length found < length words = omega (arith, c.count_words-count.ensures, c.len.ensures, c.words-test.true) in
    let read = digits_read words 8 text found c.in-Some.eight c.words.is_wide told.begins told.few.0 told.few.1 low c.words.invariant.read in
    record {
      read = subst (λ t. AreRead words (take (length text - 16) (drop 16 text)) t c.words.is_wide) (sym c.in_ok-extend_from_slice.ensures.items) read.1;
      room = omega (arith, c.in_ok-extend_from_slice.ensures.capacity, c.words.invariant.room);
    }

-- two at a time, as eight above
pub words-preserved-in_ok-extend_from_slice-2 : goal.words-preserved-in_ok-extend_from_slice-2
words-preserved-in_ok-extend_from_slice-2 c =
    let words = words_of c.args.field.now in
    let text = c.words.rest.now in
    let found = c.words.widths.items in
    let told = c.in-Some-digits.ensures in
    let low : length found < length words = omega (arith, c.count_words-count.ensures, c.len.ensures, c.words-test.true) in
    let read = digits_read words 2 text found c.in-Some-digits.two c.words.is_wide told.begins told.few.0 told.few.1 low c.words.invariant.read in
    record {
      read = subst (λ t. AreRead words (take (length text - 4) (drop 4 text)) t c.words.is_wide) (sym c.in_ok-extend_from_slice-2.ensures.items) read.1;
      room = omega (arith, c.in_ok-extend_from_slice-2.ensures.capacity, c.words.invariant.room);
    }

-- one at a time
pub words-preserved : goal.words-preserved
words-preserved c =
    let found = c.words.widths.items in
    let width = c.in-Some-first_width.width in
    let low : length found < length (words_of c.args.field.now) = omega (arith, c.count_words-count.ensures, c.len.ensures, c.words-test.true) in
    let capped : c.min.result ≡ min 65535 width = omega (arith, c.min.ensures) in
    let items = c.push_reserved.ensures.items ∙ ap (λ m. found ++ m ∷ []) capped in
    record {
      read =
          subst (λ t. AreRead (words_of c.args.field.now) c.in-Some-first_width.after.now t (c.words.is_wide || nat_lt 65535 width)) (sym items)
          (one_word_read (words_of c.args.field.now) width c.words.rest.now c.in-Some-first_width.after.now found c.words.is_wide low c.words.invariant.read
          c.in-Some-first_width.ensures.some);
      room = omega (arith, c.push_reserved.ensures.capacity, c.words.invariant.room);
    }
