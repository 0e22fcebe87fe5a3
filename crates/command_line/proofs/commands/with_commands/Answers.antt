use Rattle.std.proofs.Common.{◌≡◌, ◌∙◌, ◌∷◌, [], ◌++◌, List, Result, Ok, ap, ap₂, append-nil, append_assoc, arith, length, map, refl, subst, sym}
use Rattle.std.specs.Array.Iter.{array_into_iter_items}
use Rattle.std.specs.declared.alloc.AllocError.{AllocError}
use Rattle.clap.specs.Words.{AddsInTurn, AddsSubcommand}
use Rattle.clap.specs.declared.builder.command.Command.{Command}
use Rattle.command_line.proofs.commands.with_commands.Goals as goal

-- the commands that were made so far, and the program with them
abbrev MadeSoFar : Command → List (Result Command AllocError) → Command → Type 0
MadeSoFar old yielded new = (made : List Command) × (yielded ≡ map (λ m. Ok m) made) × AddsInTurn AddsSubcommand old made new

-- one more, after those
one_more : (old mid new : Command) (made : List Command) (x : Command) → AddsInTurn AddsSubcommand old made mid → AddsSubcommand mid x new
    → AddsInTurn AddsSubcommand old (made ++ x ∷ []) new
one_more old mid new [] x same one = (new, subst (λ o. AddsSubcommand o x new) (sym same) one, refl)
one_more old mid new (y ∷ ys) x adds one = (adds.0, adds.1, one_more adds.0 mid new ys x adds.2 one)

made_more : (made : List Command) (x : Command) → map {B = Result Command AllocError} (λ m. Ok m) made ++ Ok x ∷ [] ≡ map (λ m. Ok m) (made ++ x ∷ [])
made_more [] x = refl
made_more (y ∷ ys) x = ap (λ l. Ok y ∷ l) (made_more ys x)

so_far : (old mid new : Command) (yielded : List (Result Command AllocError)) (r : Result Command AllocError) (x : Command) → MadeSoFar old yielded mid
    → r ≡ Ok x → AddsSubcommand mid x new → MadeSoFar old (yielded ++ r ∷ []) new
so_far old mid new yielded r x (made, are, adds) is one = (
  made ++ x ∷ [],
  ap₂ (λ l a. l ++ a ∷ []) are is ∙ made_more made x,
  one_more old mid new made x adds one,
)

nothing_left : {X : Type 0} (l : List X) → length l ≡ 0 → l ≡ []
nothing_left [] h = refl
nothing_left (x ∷ xs) h = absurd (omega arith)

pub loop-command-preserved : goal.loop-command-preserved
loop-command-preserved c =
    let at = c.loop-command in
    let x = c.in-Some.command in
    let steps : array_into_iter_items at.command-iterator ≡ x ∷ array_into_iter_items c.next.new.self = c.in-Some.ensures.steps in (
      append_assoc at.yielded (x ∷ []) _ ∙ rw (← steps) at.invariant.0,
      so_far _ at.whole _ at.yielded x c.in_ok-command.field-0 at.invariant.1 (c.in_ok-command.was) c.in_ok-whole.ensures,
    )

pub returns : goal.returns
returns c =
    let at = c.loop-command in
    let empty : array_into_iter_items at.command-iterator ≡ [] = nothing_left _ c.in-None.ensures.steps.0 in
    let all = sym (append-nil at.yielded) ∙ rw empty at at.invariant.0 ∙ c.into_iter-command-iterator.ensures.into_iter_gives.0 in
    subst (λ l. MadeSoFar c.args.program l at.whole) all at.invariant.1
