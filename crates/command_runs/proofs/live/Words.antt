-- Names of definitions, of std and of other crates that the proofs of `live` use, so that most of them need one list of names.
pub use Rattle.command_runs.specs.answers.Reports.{lane_lines, line_of, lines_from}
pub use Rattle.command_runs.specs.declared.live.fault.LiveFault.TheVariants.{NoMemory, ReadFault, WriteFault}
pub use Rattle.command_runs.specs.declared.live.fault.LiveFault.{LiveFault}
pub use Rattle.command_runs.specs.declared.live.input.Live.{Live}
pub use Rattle.command_runs.specs.declared.live.input.NextLine.{NextLine}
pub use Rattle.command_runs.specs.declared.live.pending.PendingReply.{PendingReply}
pub use Rattle.command_runs.specs.declared.live.record.Notice.{Notice}
pub use Rattle.command_runs.specs.declared.live.record.Record.{Record}
pub use Rattle.command_runs.specs.declared.live.terms.LiveTerms.{LiveTerms}
pub use Rattle.command_runs.specs.declared.live.waiting.Waiting.{Waiting}
pub use Rattle.command_runs.specs.inner.Came.{AreOfRows, AreWaiting, HasCome, HasLived, IsPending, IsReady, IsReplyTo, IsWaiting, KeepsReplies, Past, Stands, TakesLine, TellsPending, Turn, after_line, counts, past_from, replies_in, turn_of}
pub use Rattle.command_runs.specs.inner.LiveEnds.{live_fault}
pub use Rattle.command_runs.specs.inner.Meaning.{HoldsRecord, IsRecord}
pub use Rattle.command_runs.specs.inner.NextNumbers.{numbers_after_lines, numbers_from}
pub use Rattle.command_runs.specs.inner.Stops.{MayStillWrite, StopsFor}
pub use Rattle.command_runs.specs.inner.Turns.{AreEnded, AreFresh, HasMoved, IsEnded, IsFresh, IsOneMore}
pub use Rattle.command_runs.specs.live.Answering.{AnswersBy, BeginsBy, IsFrontBy, IsPromptBy, whole_lines}
pub use Rattle.command_runs.specs.live.Laws.{IsLaneRowLine, LaneLine, LinesAreRecords, LinesAreReport, ReturnsEndLines, has_byte, record_lines}
pub use Rattle.command_runs.specs.live.Lived.{Lived}
pub use Rattle.command_runs.specs.live.Replies.Reply.{Row}
pub use Rattle.command_runs.specs.live.Replies.Told.{Refusal}
pub use Rattle.command_runs.specs.live.Replies.{Meant, Numbers, Reply, most_rows, numbers_after, one_later, replies_from, replies_to, reply_to, unnumbered_line}
pub use Rattle.command_runs.specs.live.Text.{AnsweredWhole, IsReply, fields_in, fields_meant, is_comma, line_fault_text, line_meant, record_in, text_meant, without_return}
pub use Rattle.command_runs.proofs.ListPlaces.{got_after, got_more}
pub use Rattle.command_runs.proofs.ListsBeside.{beside, beside-append, first_of_pairs, no_pairs, zip_weaker}
pub use Rattle.std.proofs.lemmas.Slice.Zip.{all_zipped_more}
pub use Rattle.csv_records.specs.Laws.{MessagesAreNoRows}
pub use Rattle.csv_records.specs.declared.input.fault.RecordFault.{RecordFault}
pub use Rattle.csv_records.specs.input.Faults.{record_fault_text}
pub use Rattle.csv_records.specs.input.Records.{AreItems}
pub use Rattle.csv_records.specs.lanes.Feeds.{LaneRow, feed_of, is_lane, lane_row, lanes_meaning, row_or}
pub use Rattle.csv_records.specs.lanes.Widths.{field_fault, is_number, widths_in}
pub use Rattle.element_core.specs.Terms.{Terms}
pub use Rattle.hub_core.specs.Laws.{ServedByPlace}
pub use Rattle.hub_core.specs.Serving.{served}
pub use Rattle.hub_core.specs.Traffics.{AreServedFirst, Gives, HasRoom, History, IsAllBrought, IsKept, Stays, with_more}
pub use Rattle.hub_core.specs.declared.ended.Ended.{Ended}
pub use Rattle.hub_core.specs.declared.fault.ServeFault.{ServeFault}
pub use Rattle.lane_core.specs.Plain.{plain_of}
pub use Rattle.lane_core.specs.declared.job.Plain.{Plain}
pub use Rattle.memchr.specs.Find.{IsFirstByte, is_byte}
pub use Rattle.message_core.specs.Heads.{is_message}
pub use Rattle.scan_core.specs.Answers.{IsAnswer, Reads}
pub use Rattle.scan_core.specs.declared.answer.Answer.{Answer}
pub use Rattle.std.proofs.Common.{All, Bool, Err, Global, List, None, Ok, Option, Result, Some, Vec, [], ap, append-nil, append_assoc, arith, cond, drop, false, get_or, inl, inr, is_none, length, length-append, map, nat_eq, nat_lt, refl, replicate, set, string_bytes, subst, suc, sym, take, true, vec_capacity, zero, ℕ, ⊎_elim, ◌&&◌, ◌++◌, ◌+◌, ◌-◌, ◌<◌, ◌==◌, ◌∙◌, ◌∷◌, ◌≡◌, ◌≢◌, ◌≤◌, ◌⊎◌}
pub use Rattle.std.proofs.Math.Seq.{take-append_seam}
pub use Rattle.std.proofs.lemmas.Bool.Decides.{nat_tests}
pub use Rattle.std.proofs.lemmas.Bool.{and_parts, cases_Bool, cases_eq, cases_lt, cond_both, eq-eqb, eqb-true, false_from_ne_true, false≢true, le-ltb, lt-ltb, ltb-true, ne_eqb}
pub use Rattle.std.proofs.lemmas.Grind.{flat_map-append, get_or-set_at}
pub use Rattle.std.proofs.lemmas.List.Elements.{All-nil, All-push, filter_map-append, recursion_from_All}
pub use Rattle.std.proofs.lemmas.List.Folds.{concat-append}
pub use Rattle.std.proofs.lemmas.List.FromFn.{get_or-map-range_with_len, length-map-range_with_len}
pub use Rattle.std.proofs.lemmas.List.Splits.{join_with_byte-slice_split, length-slice_split, slice_split_first, slice_split_none}
pub use Rattle.std.proofs.lemmas.List.Sums.{fails_before_first, position_or_len_is}
pub use Rattle.std.proofs.lemmas.List.{drop_all, get_or-map, get_or-set_other, length-replicate, length-set, nil_from_length, take_more}
pub use Rattle.std.proofs.lemmas.Option.{get_or_from_slice_get, same_Some, slice_get-get_or, slice_get_read, slice_get_within}
pub use Rattle.std.proofs.lemmas.Result.{IfOk-from_err, on_ok_weaker}
pub use Rattle.std.specs.List.{AllByRecursion as Each, AllZip, after_first, before_first, concat, cons_option, filter, filter_map, join_with_byte, onto_first, position_or_len, range_with_len, slice_get}
pub use Rattle.std.specs.Prelude.{IsErr, String}
pub use Rattle.std.specs.Str.Parse.{digits_value}
pub use Rattle.std.specs.declared.alloc.AllocError.{AllocError}
pub use Rattle.wire_core.proofs.PieceFacts.{lines_are_pieces}
pub use Rattle.wire_core.specs.Events.Event.{Read, Wrote}
pub use Rattle.wire_core.specs.Events.{Event, bytes_read, bytes_written, was_read, was_written, writes_of}
pub use Rattle.wire_core.specs.Lines.{Held, IsLine, TakesLines, arrived, held_line, most_line, nothing_held, pieces_of, with_room, without_line}
