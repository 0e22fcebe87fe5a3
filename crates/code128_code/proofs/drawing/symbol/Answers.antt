use Rattle.std.proofs.Common.{◌≡◌, ℕ, List, ◌++◌, ◌∙◌, ap, subst, sym}
use Rattle.std.specs.Option.{IfSome}
use Rattle.code128_code.specs.Characters.{pattern}
use Rattle.code128_code.specs.Symbols.{IsCode128Symbol}
use Rattle.code128_code.proofs.SymbolParts.{drawn}
use Rattle.code128_code.proofs.OneCharacterList.{modules_valid}
use Rattle.code128_code.proofs.drawing.symbol.Goals as goal
use Rattle.code128_code.proofs.drawing.symbol.Goals.{After-of}

-- the widths that were drawn are those of the symbol
symbol_drawn : (c : After-of) → IsCode128Symbol c.args.start c.args.values.now c.args.check c.as_slice.result.now
symbol_drawn c = record {
  start_least = c.requires.start_least;
  start_greatest = c.requires.start_greatest;
  some = c.requires.some;
  few = c.requires.few;
  valid = c.requires.valid;
  check_valid = c.requires.check_valid;
  widths =
      c.as_slice.ensures.value
      ∙ drawn c.args.start c.args.values.now c.args.check _ _ _ _
      (c.push_character.ensures.items ∙ ap (λ ws. ws ++ pattern c.args.start) c.new-widths.ensures)
      c.push_characters.ensures.items c.push_character-2.ensures.items c.push_stop.ensures.items;
}

pub unwrap-requires : goal.unwrap-requires
unwrap-requires c = c.of.ensures.valid.1 (modules_valid _ _ _ _ (symbol_drawn c))

pub returns : goal.returns
returns c =
    let same = subst (λ o. IfSome o (λ (m : List ℕ). m ≡ c.as_slice.result.now)) c.unwrap.ensures c.of.ensures.value in
    subst (IsCode128Symbol c.args.start c.args.values.now c.args.check) (sym same) (symbol_drawn (goal.at.returns c).After-of)
