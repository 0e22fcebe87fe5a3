-- The path is what stands behind the host, without a slash at its end.
use Rattle.std.proofs.Common.{◌==◌, ◌∙◌, ap}
use Rattle.std.specs.List.{after_first}
use Rattle.message_core.specs.Links.{without_slash}
use Rattle.message_core.proofs.link.path_of.Goals as goal

pub returns : goal.returns
returns c = c.without_slash.ensures ∙ ap without_slash (c.behind.ensures ∙ ap (after_first (λ b. b == 47)) c.host_and_path.ensures)
