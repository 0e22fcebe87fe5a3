-- A line means what its message or its two fields mean; without a comma, or with a second one and no message, it is refused.
use Rattle.csv_records.specs.declared.input.fault.RecordFault.TheVariants as csv
use Rattle.command_runs.proofs.live.Words.{Err, List, None, Refusal, Some, [], ap, arith, fields_meant, is_comma, length, length-slice_split, record_fault_text, refl, sym, take, unnumbered_line, ℕ, ◌<◌, ◌∙◌, ◌∷◌, ◌≡◌}
use Rattle.command_runs.proofs.live.LineMeanings.{behind_comma, cut_at, only_field}
use Rattle.command_runs.proofs.live.record.read_record.Goals as goal

-- more fields than two
more_than_two : (lanes : ℕ) (a b : List ℕ) (fs : List (List ℕ)) → 0 < length fs → fields_meant lanes (a ∷ b ∷ fs)
    ≡ Err (Refusal (unnumbered_line None (record_fault_text csv.Csv)))
more_than_two lanes a b [] some = absurd (omega (arith, some))
more_than_two lanes a b (c ∷ fs) some = refl

pub returns-then-is_message : goal.returns-then-is_message
returns-then-is_message c =
    let cut = cut_at c.args.line.now c.in-Some.comma c.in-Some.ensures in
    rw (cut.1, sym c.is_message.ensures ∙ c.if-is_message.true, cut.0) c.read_message.ensures

pub returns-in-Some-memchr : goal.returns-in-Some-memchr
returns-in-Some-memchr c =
    let line = c.args.line.now in
    let k = c.in-Some.comma in
    let cut = cut_at line k c.in-Some.ensures in
    let text = behind_comma line k in
    let j = c.in-Some-memchr.field-0 in
    let more = cut_at text j c.in-Some-memchr.ensures in
    rw (cut.1, sym c.is_message.ensures ∙ c.if-is_message.false, cut.2, more.2)
    (ap Some (more_than_two c.args.lanes (take k line) (take j text) _ (omega (arith, length-slice_split is_comma (behind_comma text j)))))

pub returns-in-None-memchr : goal.returns-in-None-memchr
returns-in-None-memchr c =
    let line = c.args.line.now in
    let k = c.in-Some.comma in
    let cut = cut_at line k c.in-Some.ensures in
    let only = only_field (behind_comma line k) c.in-None-memchr.ensures in
    rw (cut.1, sym c.is_message.ensures ∙ c.if-is_message.false, cut.2, only.0) c.read_row.ensures

pub returns-in-None : goal.returns-in-None
returns-in-None c = let only = only_field c.args.line.now c.in-None.ensures in rw (only.1, only.0) refl
