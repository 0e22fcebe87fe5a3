-- The elements of the path and of the query are put together, and said as that list, or as its first fault.
use Rattle.std.proofs.Common.{◌≡◌, ◌∙◌, ◌++◌, None, Some, Ok, ap, sym}
use Rattle.element_core.specs.Pairs.{list_fault}
use Rattle.message_core.specs.Links.{parameters, path_entries, query_entries, segments}
use Rattle.message_core.proofs.LinkFacts.{both_put, fitting}
use Rattle.message_core.proofs.link.entries_said.Goals as goal

pub returns-in-Ok : goal.returns-in-Ok
returns-in-Ok c =
    let path = path_entries (segments c.args.path.now) in
    let query = query_entries (parameters c.args.query.now) in
    let put = both_put _ _ _ path query c.new-pairs.ensures c.if-not-put_path.ensures c.if-not-put_query.ensures c.as_slice.ensures.few c.as_slice.ensures.fits in
    let same = c.as_slice.ensures.list ∙ put.0 in
    let none : list_fault c.args.year (path ++ query) ≡ None = ap (list_fault c.args.year) (sym same) ∙ c.in-Ok.ensures.only in
    ap Ok (c.in-Ok.ensures.ok.1 ∙ same) ∙ sym (fitting c.args.year (path ++ query) put.1 None none)

pub returns-in-Err : goal.returns-in-Err
returns-in-Err c =
    let path = path_entries (segments c.args.path.now) in
    let query = query_entries (parameters c.args.query.now) in
    let put = both_put _ _ _ path query c.new-pairs.ensures c.if-not-put_path.ensures c.if-not-put_query.ensures c.as_slice.ensures.few c.as_slice.ensures.fits in
    let same = c.as_slice.ensures.list ∙ put.0 in
    let fault : list_fault c.args.year (path ++ query) ≡ Some c.in-Err.fault = ap (list_fault c.args.year) (sym same) ∙ c.in-Err.ensures.err in
    sym (fitting c.args.year (path ++ query) put.1 (Some c.in-Err.fault) fault)
