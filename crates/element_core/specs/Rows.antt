-- Rows and elements as callers have them.
use Rattle.std.specs.Prelude.{true}
use Rattle.element_core.specs.declared.element.Element.{Element}
use Rattle.element_core.specs.declared.row.AiRow.{AiRow}
use Rattle.element_core.specs.Elements.{Entry}
use Rattle.element_core.specs.Table.{Row}

-- the row as the table has it
abbrev pub table_row : AiRow → Row
table_row r = record { ai = r.ai.items; parts = r.parts.items; predefined = r.predefined; profile = true }

-- the AI and the value of an element
abbrev pub entry_in : Element → Entry
entry_in e = record { ai = e.ai.items; value = e.value.items }
