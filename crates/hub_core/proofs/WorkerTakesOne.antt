-- What a worker has taken, once a delivery is in its hand: for `Hub::work`.
use Rattle.std.proofs.Common.{◌≡◌, ◌++◌, ◌∷◌, ◌∙◌, [], None, Option, Some, ap, append-nil, option_to_list, sym}
use Rattle.lane_core.specs.declared.job.Plain.{Plain}
use Rattle.hub_core.specs.declared.rule.Trace.{Trace}
use Rattle.hub_core.specs.Rule.{trace}

-- the pass of jobs has taken what was posted, and this one
pub record Took (takes posts : Trace) (x : Plain) : Type 0 where
  pub share : takes.shares ≡ 1
  pub takes_only : takes.pushed ≡ []
  pub none_lost : takes.popped ≡ posts.pushed ++ x ∷ []

-- x was in the hand before, or came out of the queue: as `stands_again` and `stands_popped` of DeliveriesAreAccounted
pub took_held : (v w posts : Trace) (held : Option Plain) (x y : Plain) → v.shares ≡ 1 → v.pushed ≡ [] → v.popped ≡ posts.pushed ++ option_to_list held
    → held ≡ Some x → w ≡ v → y ≡ x → Took w posts y
took_held v w posts held x y share only lost is same what = record {
  share = ap (λ (t : Trace). t.shares) same ∙ share;
  takes_only = ap (λ (t : Trace). t.pushed) same ∙ only;
  none_lost = ap (λ (t : Trace). t.popped) same ∙ (lost ∙ (ap (λ o. posts.pushed ++ option_to_list o) is ∙ ap (λ d. posts.pushed ++ d ∷ []) (sym what)));
}

pub took_job : (v w posts : Trace) (held : Option Plain) (x y : Plain) → v.shares ≡ 1 → v.pushed ≡ [] → v.popped ≡ posts.pushed ++ option_to_list held
    → held ≡ None → w ≡ trace v.shares v.pushed (v.popped ++ x ∷ []) → y ≡ x → Took w posts y
took_job v w posts held x y share only lost is same what = record {
  share = ap (λ (t : Trace). t.shares) same ∙ share;
  takes_only = ap (λ (t : Trace). t.pushed) same ∙ only;
  none_lost = ap (λ (t : Trace). t.popped) same ∙ ((λ i. (lost ∙ (ap (λ o. posts.pushed ++ option_to_list o) is ∙ append-nil posts.pushed)) i ++ sym what i ∷ []));
}
