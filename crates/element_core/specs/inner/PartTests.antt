-- The tests of the parts of a value, as the code keeps them.
use Rattle.std.specs.Prelude.{ℕ, Bool, not, List, length, nat_lt, Option, Some, None, if◌then◌else◌}
use Rattle.element_core.specs.declared.fault.ElementFault.{ElementFault}
use Rattle.element_core.specs.declared.fault.ElementFault.TheVariants.{ValueLength, ValueCharacter, ValueCheckDigit, ValueDate}
use Rattle.element_core.specs.declared.part.Part.{Part}
use Rattle.element_core.specs.declared.value.PartTest.{PartTest}
use Rattle.element_core.specs.declared.value.PartTest.TheVariants.{WholeSteps, Characters, CheckDigit, Dates}
use Rattle.element_core.specs.Elements.{each_part, has_characters, has_check_digit, has_whole_steps}
use Rattle.element_core.specs.Times.{is_named}

-- whether there are such days and such a time, if the part names them
abbrev pub has_date : ℕ → Part → List ℕ → Bool
has_date year part bytes = is_named year part.rule bytes

-- the first test that a value of a right length fails
abbrev pub value_fault : ℕ → ℕ → List Part → List ℕ → Option ElementFault
value_fault year place parts value =
    if not (each_part has_characters parts value) then Some (ValueCharacter place)
    else if not (each_part has_check_digit parts value) then Some (ValueCheckDigit place)
    else if not (each_part (has_date year) parts value) then Some (ValueDate place)
    else None

-- the first test that a value of one part fails
abbrev pub part_fault : ℕ → ℕ → ElementFault → Part → List ℕ → Option ElementFault
part_fault year place too_long part value =
    if nat_lt (length value) part.least then Some (ValueLength place)
    else if nat_lt part.greatest (length value) then Some too_long
    else if not (has_whole_steps part value) then Some (ValueLength place)
    else if not (has_characters part value) then Some (ValueCharacter place)
    else if not (has_check_digit part value) then Some (ValueCheckDigit place)
    else if not (has_date year part value) then Some (ValueDate place)
    else None

-- whether the bytes of a part pass a test
abbrev pub passes : PartTest → Part → List ℕ → Bool
passes WholeSteps part bytes = has_whole_steps part bytes
passes Characters part bytes = has_characters part bytes
passes CheckDigit part bytes = has_check_digit part bytes
passes (Dates year) part bytes = has_date year part bytes
