-- What types, private contracts and proofs name beside `Elements`.
use Rattle.std.specs.Prelude.{ℕ, List, Option}
use Rattle.std.specs.List.{AllByRecursion}
use Rattle.element_core.specs.declared.fault.ElementFault.{ElementFault}
use Rattle.element_core.specs.Terms.{Terms, rows_by, row_by_terms}
use Rattle.element_core.specs.Table.{Row}
use Rattle.element_core.specs.Elements.{Entry, IsElement, fault_by}

-- each is an element
abbrev pub AreElements : Terms → List Entry → Type 0
AreElements year es = AllByRecursion (λ e. (row : Row) × IsElement (rows_by year) year.year row e) es

-- the fault at the beginning of a text, of which the element stands at this place
abbrev pub fault_at : Terms → ℕ → List ℕ → Option ElementFault
fault_at year place text = fault_by year place text (row_by_terms year text)
