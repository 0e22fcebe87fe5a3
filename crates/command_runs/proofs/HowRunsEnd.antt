-- How a run of a command ends, by its parts: it is refused before a write, a write fails, or all is written (`Ran` of specs/Runs).
use Rattle.std.proofs.Common.{◌≡◌, ◌∙◌, Err, IsErrAnd, List, Ok, Option, Result, ap, false, refl, subst, sym, true, Bool, ℕ}
use Rattle.std.specs.Prelude.{◌↔◌}
use Rattle.std.specs.Io.KnownBytes.{Appends}
use Rattle.digits_core.specs.Bytes.{TookFront}
use Rattle.std.proofs.lemmas.Bool.{false≢true}
use Rattle.csv_records.specs.input.Records.{Meaning, Takes}
use Rattle.command_runs.specs.Runs.{Command, Ran, WritesRecords, Wrote}
use Rattle.command_runs.specs.declared.fault.CommandFault.{CommandFault}
use Rattle.command_runs.specs.declared.fault.CommandFault.TheVariants as command
use Rattle.command_runs.proofs.ToldFaults.{never_refused}

-- a run that is refused before a write
pub refused_run : {S W : Type 0} (c : Command) (left : S → Option (List ℕ)) (source_failed : S → Bool) (taken : W → Option (List ℕ)) (sink_failed : W → Bool)
    (source rest : S) (sink : W) (result : Result (Unit {0}) CommandFault) (fault : CommandFault) → IsErrAnd result (λ e. e ≡ fault)
    → c.refuses (left source) (left rest) fault → (fault ≡ command.WriteFault → ⊥)
    → (source_failed source ≡ false → (fault ≡ command.ReadFault ↔ (source_failed rest ≡ true)))
    → Ran c left source_failed taken sink_failed source rest sink sink result
refused_run c left source_failed taken sink_failed source rest sink (Ok x) fault told why unwritten reads = absurd told
refused_run c left source_failed taken sink_failed source rest sink (Err e) fault told why unwritten reads = record {
  ok = tt;
  cut = λ same. let here : e ≡ command.WriteFault = cc in absurd (unwritten (sym told ∙ here));
  refused = subst (c.refuses (left source) (left rest)) (sym told) why;
  unwritten = λ other. refl;
  read = λ sound. (
    λ same. let here : e ≡ command.ReadFault = cc in (reads sound).0 (sym told ∙ here),
    λ failed. ap (λ f. Err f) (told ∙ (reads sound).1 failed),
  );
  write = λ sound. (
    λ same. let here : e ≡ command.WriteFault = cc in absurd (unwritten (sym told ∙ here)),
    λ failed. absurd (false≢true (sym sound ∙ failed)),
  );
}

-- a run whose write failed
pub cut_run : {S W : Type 0} (c : Command) (left : S → Option (List ℕ)) (source_failed : S → Bool) (taken : W → Option (List ℕ)) (sink_failed : W → Bool)
    (source rest : S) (sink after : W) (result : Result (Unit {0}) CommandFault) → IsErrAnd result (λ e. e ≡ command.WriteFault)
    → Wrote c TookFront (left source) (left rest) (taken sink) (taken after) → c.refuses (left source) (left rest) command.WriteFault
    → (source_failed source ≡ false → source_failed rest ≡ true → ⊥) → (sink_failed sink ≡ false → sink_failed after ≡ true)
    → Ran c left source_failed taken sink_failed source rest sink after result
cut_run c left source_failed taken sink_failed source rest sink after (Ok x) told wrote why reads writes = absurd told
cut_run c left source_failed taken sink_failed source rest sink after (Err e) told wrote why reads writes = record {
  ok = tt;
  cut = λ same. wrote;
  refused = subst (c.refuses (left source) (left rest)) (sym told) why;
  unwritten = λ other. absurd (other told);
  read = λ sound. (λ same. let here : e ≡ command.ReadFault = cc in let both = sym told ∙ here in cc, λ failed. absurd (reads sound failed));
  write = λ sound. (λ same. writes sound, λ failed. ap (λ f. Err f) told);
}

-- a run that wrote all
pub written_run : {S W : Type 0} (c : Command) (left : S → Option (List ℕ)) (source_failed : S → Bool) (taken : W → Option (List ℕ)) (sink_failed : W → Bool)
    (source rest : S) (sink after : W) → Wrote c Appends (left source) (left rest) (taken sink) (taken after)
    → (source_failed source ≡ false → source_failed rest ≡ true → ⊥) → (sink_failed sink ≡ false → sink_failed after ≡ true → ⊥)
    → Ran c left source_failed taken sink_failed source rest sink after (Ok tt)
written_run c left source_failed taken sink_failed source rest sink after wrote reads writes = record {
  ok = wrote;
  cut = λ same. absurd (never_refused tt command.WriteFault same);
  refused = tt;
  unwritten = tt;
  read = λ sound. (λ same. absurd (never_refused tt command.ReadFault same), λ failed. absurd (reads sound failed));
  write = λ sound. (λ same. absurd (never_refused tt command.WriteFault same), λ failed. absurd (writes sound failed));
}

-- if a write of the text of records failed: the records were taken, and a sink took a prefix of their text
pub records_cut : {Item : Type 0} (means : Meaning Item) (made : List Item → Type 0) (output : List Item → List ℕ → Type 0) (refuses : _)
    (text sent : List ℕ) (left rest before after : Option (List ℕ)) → Takes means made left rest → ((items : List Item) → made items → output items text)
    → sent ≡ text → TookFront before after sent → Wrote (record { writes = WritesRecords means output; refuses = refuses }) TookFront left rest before after
records_cut means made output refuses text sent left rest before after h shows is sunk =
    (h.0, text, h.1, (h.2, h.3, shows h.2 h.4), subst (λ t. TookFront before after t) is sunk)
