-- What types, private contracts and proofs name beside `Listings`.
use Rattle.std.specs.Prelude.{◌≡◌}
use Rattle.element_core.specs.declared.elements.Elements.TheInside.{Inside}
use Rattle.element_core.specs.Elements.{IsElements, canonical}
use Rattle.element_core.specs.Listings.{listing}

-- the text is the canonical text of its elements
pub record IsListing (s : Inside) : Type 0 where
  pub canonical_text : s.text.items ≡ canonical (listing s).list
  pub elements : IsElements s.year s.text.items (listing s).list
