-- The parts of a line, appended one by one, are the line.
use Rattle.std.proofs.Common.{◌≡◌, ◌++◌, ◌∷◌, ◌∙◌, [], List, ℕ, Result, Ok, Err, ap, append_assoc, arith, string_bytes}
use Rattle.std.specs.Prelude.{OnOk, is_ok, if◌then◌else◌}
use Rattle.std.proofs.lemmas.Result.{on_ok_weaker}
use Rattle.std.proofs.lemmas.Str.{encode_ascii}
use Rattle.scan_core.specs.Lines.{said}
use Rattle.command_runs.specs.answers.Reports.{numbered_line}
use Rattle.command_runs.proofs.answers.report.push_line.Goals as goal

-- what `push` says of the bytes, in the terms of `OnOk`
appended : {X E : Type 0} (r : Result X E) (old new bytes : List ℕ) → new ≡ (if is_ok r then old ++ bytes else old) → OnOk r (new ≡ old ++ bytes)
appended (Ok x) old new bytes is = is
appended (Err e) old new bytes is = tt

pub returns : goal.returns
returns c =
    let answer = c.in_ok-push_answer.ensures in
    let before = answer.2 ∙ ap (λ (t : List ℕ). t ++ said c.args.form answer.0) c.in_ok-push_front.ensures in
    let whole : string_bytes c.push_answer.new.text ++ (10 ∷ []) ≡ string_bytes c.args.text.now ++ numbered_line c.args.form c.args.lane c.args.number answer.0 =
    ap (λ (t : List ℕ). t ++ (10 ∷ [])) before ∙ simp append_assoc in
    on_ok_weaker c.push.result (λ pushed. (answer.0, answer.1, pushed ∙ ap (λ (b : List ℕ). string_bytes c.push_answer.new.text ++ b) (encode_ascii 10 (omega arith)) ∙ whole))
    (appended c.push.result (string_bytes c.push_answer.new.text) (string_bytes c.push.new.self) _ c.push.ensures.bytes)
