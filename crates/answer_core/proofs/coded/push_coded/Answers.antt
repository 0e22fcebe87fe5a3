use Rattle.std.proofs.Common.{◌∙◌, ◌++◌, ap, sym}
use Rattle.std.proofs.lemmas.List.{append-nil}
use Rattle.message_core.specs.Coding.{encoded}
use Rattle.answer_core.specs.Written.{is_unreserved}
use Rattle.answer_core.specs.inner.Written.{byte_code}
use Rattle.answer_core.proofs.Codes.{encoded_more, encoded_nothing, go_on, room}
use Rattle.answer_core.proofs.coded.push_coded.Goals as goal

pub push_byte-requires : goal.push_byte-requires
push_byte-requires c =
    let rest = c.loop-byte.rest.now in
    let byte = c.in-Some.byte in
    let more = c.in-Some.more.now in
    room c.loop-byte.line.items (encoded is_unreserved rest) c.args.line.now.items (encoded is_unreserved c.args.bytes.now) (byte_code byte)
    (encoded is_unreserved more) c.loop-byte.invariant (ap (encoded is_unreserved) c.in-Some.ensures ∙ encoded_more byte more) c.requires

pub loop-byte-preserved : goal.loop-byte-preserved
loop-byte-preserved c =
    let rest = c.loop-byte.rest.now in
    let byte = c.in-Some.byte in
    let more = c.in-Some.more.now in
    go_on c.loop-byte.line.items c.push_byte.new.line.items (encoded is_unreserved rest) (byte_code byte) (encoded is_unreserved more)
    (c.args.line.now.items ++ encoded is_unreserved c.args.bytes.now) c.loop-byte.invariant
    (ap (encoded is_unreserved) c.in-Some.ensures ∙ encoded_more byte more) c.push_byte.ensures

pub returns : goal.returns
returns c =
    let line = c.loop-byte.line.items in
    sym (append-nil line) ∙ ap (λ t. line ++ t) (sym (ap (encoded is_unreserved) c.in_default.ensures ∙ encoded_nothing)) ∙ c.loop-byte.invariant
