use Rattle.std.proofs.Common.{◌∙◌, ◌++◌, List, ℕ, ap, string_bytes}
use Rattle.std.proofs.lemmas.Result.{on_ok_weaker}
use Rattle.scan_core.proofs.found.push_refusal.Goals as goal

pub returns : goal.returns
returns c =
    let before = string_bytes c.args.text.now in
    on_ok_weaker c.push.result (λ added. added ∙ ap (λ (t : List ℕ). before ++ t) (c.refused.ensures ∙ c.refusal.ensures)) c.push.ensures
