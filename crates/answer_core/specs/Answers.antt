-- What an answer means.
use Rattle.std.specs.Prelude.{◌≡◌, nat_lt, ℕ, List, [], ◌∷◌, Option, Some, None, length, take, if◌then◌else◌}
use Rattle.std.specs.List.{AllZip}
use Rattle.digits_core.specs.declared.refusal.RefusalKind.{RefusalKind}
use Rattle.element_core.specs.Elements.{Entry, canonical}
use Rattle.element_core.specs.Terms.{Terms}
use Rattle.answer_core.specs.Places.{IsPlaced, gtin_index}
use Rattle.answer_core.specs.Refusals.{refusal_number}
use Rattle.answer_core.specs.Symbols.{symbol_number}
use Rattle.answer_core.specs.declared.answer.Answer.{Answer}
use Rattle.answer_core.specs.declared.symbol.SymbolKind.{SymbolKind}
use Rattle.answer_core.specs.declared.symbol.SymbolKind.TheVariants.{Unknown}

-- these elements: their number, their element string, where each stands in it, and which of them is the GTIN
pub record TellsElements (terms : Terms) (es : List Entry) (a : Answer) : Type 0 where
  pub fault_is : a.fault ≡ 0
  pub place_is : a.place ≡ 65535
  pub count_is : a.count ≡ length es
  pub length_is : a.length ≡ length (canonical es)
  pub text_is : take a.length a.text ≡ canonical es
  pub stand : AllZip (IsPlaced terms (canonical es)) es (take a.count a.elements)
  pub gtin_is : a.gtin ≡ gtin_index es

-- the place of a refusal, or 65535
abbrev pub place_number : Option ℕ → ℕ
place_number (Some place) = if nat_lt place 65535 then place else 65535
place_number None = 65535

-- this refusal, and no element
pub record TellsRefusal (kind : RefusalKind) (place : Option ℕ) (a : Answer) : Type 0 where
  pub fault_is : a.fault ≡ refusal_number kind
  pub place_is : a.place ≡ place_number place
  pub count_is : a.count ≡ 0
  pub length_is : a.length ≡ 0
  pub gtin_is : a.gtin ≡ 255

-- an error, and no element
pub record IsError (a : Answer) : Type 0 where
  pub some : a.fault ≡ 0 → ⊥
  pub count_is : a.count ≡ 0
  pub length_is : a.length ≡ 0
  pub gtin_is : a.gtin ≡ 255

-- neither an element nor an error
pub record TellsNone (a : Answer) : Type 0 where
  pub fault_is : a.fault ≡ 0
  pub place_is : a.place ≡ 65535
  pub count_is : a.count ≡ 0
  pub length_is : a.length ≡ 0
  pub gtin_is : a.gtin ≡ 255

-- this symbol and its identifier
pub record IsNamed (symbol : SymbolKind) (identifier : List ℕ) (a : Answer) : Type 0 where
  pub symbol_is : a.symbol ≡ symbol_number symbol
  pub identifier_is : a.identifier ≡ identifier

-- this refusal, and no symbol
abbrev pub TellsNothing : RefusalKind → Answer → Type 0
TellsNothing kind a = TellsRefusal kind None a × IsNamed Unknown (0 ∷ 0 ∷ 0 ∷ 0 ∷ []) a
