-- A write that fails behind a buffer (for `run_and_flush`): what the sink has taken, and that the command may be refused for it.
use Rattle.std.proofs.Common.{◌++◌, ◌≡◌, ◌∙◌, List, None, Option, Some, [], ap, append_assoc, append-nil, refl, sym, ℕ}
use Rattle.std.specs.Prelude.{IfSome}
use Rattle.std.specs.Io.KnownBytes.{Keeps, append_known}
use Rattle.digits_core.specs.Bytes.{TookFront}
use Rattle.command_runs.specs.Runs.{Wrote}
use Rattle.command_runs.specs.commands.{command_of}
use Rattle.command_runs.specs.declared.fault.CommandFault.TheVariants as command
use Rattle.command_line.specs.declared.commands.WholeInput.{WholeInput}
use Rattle.command_line.specs.declared.commands.WholeInput.TheVariants as batch

-- A sink was not known to have taken bytes (`a`, as `TookNothing` says), and nothing waited (`first`). If the buffer took a prefix of a text (`b`), so did
-- the sink (`c`): the rest waits (`last`) or did not come.
pub took_front : (a b c : Option (List ℕ)) (first last text : List ℕ) → IfSome a (λ bytes. bytes ≡ []) → first ≡ [] → TookFront (append_known a first) b text
    → Keeps b (append_known c last) → TookFront a c text
took_front None b c first last text fresh start front kept = ([], text, refl, tt)
took_front (Some x) None c first last text fresh start front kept = absurd front.3
took_front (Some x) (Some y) None first last text fresh start front kept = absurd kept
took_front (Some x) (Some y) (Some z) first last text fresh start front kept =
    let before : x ++ first ≡ [] = ap (λ l. x ++ l) start ∙ append-nil x ∙ fresh in
    let here : z ++ last ≡ front.0 = kept ∙ front.3 ∙ ap (λ l. l ++ front.0) before in (
      z,
      last ++ front.1,
      front.2 ∙ ap (λ l. l ++ front.1) (sym here) ∙ append_assoc z last front.1,
      sym (ap (λ l. l ++ z) fresh),
    )

-- a command that wrote may be refused for a failed write; `print` and `scan` only in a grid within its limits
pub may_fail : (a : WholeInput) (took : Option (List ℕ) → Option (List ℕ) → List ℕ → Type 0) (left rest before after : Option (List ℕ))
    → Wrote (command_of a) took left rest before after → (command_of a).refuses left rest command.WriteFault
may_fail (batch.Check year) took left rest before after wrote = tt
may_fail (batch.Print o) took left rest before after wrote = (wrote.3.2.0, tt)
may_fail (batch.Lanes o) took left rest before after wrote = tt
may_fail (batch.Scan o) took left rest before after wrote = (wrote.3.1.0, tt)
