use Rattle.std.proofs.Common.{◌∙◌, List, Option, Some, None, inl, inr, map, string_bytes, IfSome}
use Rattle.clap.specs.Words.{App, Text, app_of}
use Rattle.command_line.specs.inner.Asking.{IsHub}
use Rattle.command_line.specs.declared.words.WordsFault.TheVariants as fault
use Rattle.command_line.proofs.ErrorFacts.{explained_of}
use Rattle.command_line.proofs.HubFacts.{hub_fault, hub_free}
use Rattle.command_line.proofs.words.sentence.Goals as goal

if_some : {T P : Type 0} (o : Option T) → P → IfSome o (λ x. P)
if_some (Some x) p = p
if_some None p = tt

pub returns : goal.returns
returns c =
    let a : App = app_of c.in-Ok.hub in
    let is : IsHub a = c.in-Ok.ensures in
    let words : List Text = map string_bytes c.args.words.now in
    let same = c.kind.ensures in
    let no = c.in_default-kind in
    if_some c.ok.result (explained_of a words c.in-Err.error fault.Words (hub_fault a is words) (c.in-Err.ensures.kinds (hub_free a is)) (
      (λ e. no.not-OutOfMemory (same ∙ e)),
      (λ request. elim request [
        | inl help ↦ no.not-DisplayHelp (same ∙ help)
        | inr version ↦ no.not-DisplayVersion (same ∙ version)
      ]),
    ))

pub returns-in-DisplayHelp : goal.returns-in-DisplayHelp
returns-in-DisplayHelp c = tt
