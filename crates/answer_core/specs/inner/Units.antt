-- Units of the definitions.
use Rattle.answer_core.specs.Units.{MeasuredAis}
use Rattle.answer_core.specs.declared.unit.Measured.{Measured}

abbrev pub measured_by : Measured → MeasuredAis
measured_by m = record { ais = m.ais.now; unit = m.unit.now }
