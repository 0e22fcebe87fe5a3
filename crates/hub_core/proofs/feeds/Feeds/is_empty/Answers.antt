-- No row is left if no feed has one.
use Rattle.std.proofs.Common.{◌∙◌, ◌==◌, ap, sym}
use Rattle.std.specs.List.{list_all}
use Rattle.std.specs.Vec.Iter.{into_iter_items, into_iter_len}
use Rattle.hub_core.proofs.ListsOfLists.{tested_by}
use Rattle.hub_core.proofs.feeds.Feeds.is_empty.Goals as goal

pub returns : goal.returns
returns c =
    c.are_empty.ensures ∙ (ap (λ rests. list_all (λ rest. into_iter_len rest == 0) rests) c.as_slice.ensures.value
    ∙ tested_by (λ n. n == 0) (λ rest. into_iter_items rest) (λ rest. into_iter_len rest) c.args.self.now.rests.items (λ rest. sym rest.rest.ok.0))
