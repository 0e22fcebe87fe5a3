-- The calls that a wire in memory keeps.
use Rattle.std.specs.Prelude.{List, map}
use Rattle.wire_core.specs.Events.{Event}
use Rattle.wire_core.specs.Events.Event.{Read, Wrote}
use Rattle.test_doubles.specs.declared.recorded.Happened.{Happened}
use Rattle.test_doubles.specs.declared.recorded.Happened.TheVariants as happened

-- a call that was kept, as an event of the wire
abbrev pub event_of : Happened → Event
event_of (happened.Read bytes) = Read bytes.items
event_of (happened.Wrote bytes) = Wrote bytes.items

abbrev pub events_of : List Happened → List Event
events_of calls = map event_of calls
