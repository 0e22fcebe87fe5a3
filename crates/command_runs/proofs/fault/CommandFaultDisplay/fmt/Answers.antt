-- The text that is written is that of the fault.
use Rattle.std.proofs.Common.{◌≡◌, ◌∙◌, ◌++◌, ap, append_assoc, refl, subst, sym, ℕ}
use Rattle.std.specs.Prelude.{codes}
use Rattle.std.specs.Fmt.{HasWritten, decimal}
use Rattle.csv_records.specs.input.Faults.{record_fault_text}
use Rattle.csv_records.specs.declared.input.fault.RecordFault.{RecordFault}
use Rattle.command_runs.specs.Faults.{command_fault_text, command_refusal_text}
use Rattle.command_runs.specs.declared.fault.CommandFault.{CommandFault}
use Rattle.command_runs.specs.declared.fault.CommandFault.TheVariants as command
use Rattle.command_runs.proofs.fault.CommandFaultDisplay.fmt.Goals as goal

-- what is no fault of a record is written as its refusal is: a case for each `CommandFault`
same_text : (fault : CommandFault) → ((i : ℕ) (f : RecordFault) → fault ≡ command.Record i f → ⊥) → command_refusal_text fault ≡ command_fault_text fault
same_text command.ReadFault other = refl
same_text command.WriteFault other = refl
same_text (command.Record i f) other = absurd (other i f refl)
same_text command.NoMemory other = refl
same_text command.InputSize other = refl
same_text command.BadGrid other = refl
same_text (command.LabelKind i) other = refl
same_text (command.LabelWidth i) other = refl
same_text command.NotP4 other = refl
same_text command.PbmHeader other = refl
same_text command.Truncated other = refl
same_text command.PbmSize other = refl
same_text command.NoThread other = refl

-- and a fault of a record behind the record's index
record_text : (i : ℕ) (f : RecordFault)
    → codes "record " ++ (decimal i ++ (codes ": " ++ record_fault_text f)) ≡ command_fault_text (command.Record i f)
record_text i f = ap (λ t. codes "record " ++ t) (sym (append_assoc (decimal i) (codes ": ") (record_fault_text f)))

pub returns-in-Record-clause-writes : goal.returns-in-Record-clause-writes
returns-in-Record-clause-writes g c = λ plain ok.
    let same = record_text c.in-Record.index c.in-Record.fault ∙ ap command_fault_text (sym c.in-Record.is) in
    subst (λ t. HasWritten g.W.Write.write_str_gives c.args.f.now t c.write.new.self) same (c.write.ensures.writes plain ok)

pub returns-in_default : goal.returns-in_default
returns-in_default g c =
    let same = c.refusal.ensures ∙ same_text c.args.self.now c.in_default.not-Record in
    record {
      writes = λ plain ok.
          subst (λ t. HasWritten g.W.Write.write_str_gives c.args.f.now t c.fmt.new.f) same (c.fmt.ensures.writes plain ok);
      styled = tt;
    }
