-- The stages at which the candidates of a row fail.
use Rattle.std.proofs.Common.{◌≡◌, ◌≢◌, ℕ, ◌<◌, ◌≤◌, List, length, refl, sym, subst, arith, inl, inr}
use Rattle.std.proofs.lemmas.Bool.{cases_lt, le-ltb, lt-ltb}
use Rattle.scan_core.specs.declared.carrier.Carrier.{Carrier}
use Rattle.scan_core.specs.declared.carrier.Carrier.TheVariants.{Gs1128}
use Rattle.scan_core.specs.declared.stage.Stage.{Stage}
use Rattle.scan_core.specs.declared.stage.Stage.TheVariants.{QuietZone, Modules, Pattern}
use Rattle.scan_core.specs.Row.{inner}
use Rattle.scan_core.specs.Showing.{HasSize, IsQuiet, Rounds, Shows, Way, along, kind_of}
use Rattle.scan_core.specs.Answers.{ComesTo, IsRefused, every_carrier}
use Rattle.scan_core.specs.inner.Stages.{Fails, FailsAt, number_of}
use Rattle.scan_core.specs.inner.Reading.{later}
use Rattle.scan_core.specs.Reading.{stage_fault}
use Rattle.element_core.specs.Terms.{Terms}
use Rattle.scan_core.proofs.CandidateFacts.{one_fixed, one_gs1128, which}

-- ---- a row is refused for one stage

-- a row that is refused for a stage has a candidate
pub candidate_of : (f : Stage) (runs : List ℕ) (year : Terms) → IsRefused runs year (stage_fault f) → ComesTo every_carrier runs QuietZone
candidate_of QuietZone runs year a = a.0
candidate_of Modules runs year a = (a.0.0, a.0.1, a.0.2.0)
candidate_of Pattern runs year a = (a.0.0, a.0.1, a.0.2.0)

-- it comes to the stage before as well
quiet_too : (runs : List ℕ) → ComesTo every_carrier runs Pattern → ComesTo every_carrier runs Modules
quiet_too runs a = (a.0, a.1, (a.2.0, a.2.1))

pub latest_once : (f g : Stage) (runs : List ℕ) (year : Terms) → IsRefused runs year (stage_fault f) → IsRefused runs year (stage_fault g) → f ≡ g
latest_once QuietZone QuietZone runs year a b = refl
latest_once QuietZone Modules runs year a b = absurd (a.1 b.0)
latest_once QuietZone Pattern runs year a b = absurd (a.1 (quiet_too runs b.0))
latest_once Modules QuietZone runs year a b = absurd (b.1 a.0)
latest_once Modules Modules runs year a b = refl
latest_once Modules Pattern runs year a b = absurd (a.1 b.0)
latest_once Pattern QuietZone runs year a b = absurd (b.1 (quiet_too runs a.0))
latest_once Pattern Modules runs year a b = absurd (b.1 a.0)
latest_once Pattern Pattern runs year a b = refl

-- such a row shows nothing
pub never : (f : Stage) (runs : List ℕ) (year : Terms) (c : Carrier) (w : Way) (ms : List ℕ) → Shows runs c w ms → IsRefused runs year (stage_fault f) → ⊥
never QuietZone runs year c w ms s a = a.1 (c, s.N, (s.candidate, s.quiet))
never Modules runs year c w ms s a = a.1 (c, s.N, (s.candidate, s.quiet, w, ms, s.rounds))
never Pattern runs year c w ms s a = a.1 c w ms s

-- ---- the stage of one candidate, or of two

is_second : (a b : Stage) → number_of a < number_of b → later a b ≡ b
is_second a b less = rw (lt-ltb (number_of a) (number_of b) less) refl

is_first : (a b : Stage) → number_of b ≤ number_of a → later a b ≡ a
is_first a b more = rw (le-ltb (number_of a) (number_of b) more) refl

module _ (runs : List ℕ) where
  -- the fault of the one candidate, where it is not GS1-128
  pub alone_fixed : (c : Carrier) (N : ℕ) (stage : Stage) → c ≢ Gs1128 → HasSize (kind_of c) (length (inner runs)) N
      → ((M : ℕ) → HasSize (kind_of Gs1128) (length (inner runs)) M → ⊥) → Fails runs c N stage → FailsAt runs stage
  alone_fixed c N stage apart candidate none fails = record {
    carrier = c;
    N = N;
    candidate = candidate;
    fails = fails;
    none_later = λ d M h.
        elim (which d) [
          | inl e ↦ absurd (none M (subst (λ o. HasSize (kind_of o) (length (inner runs)) M) e h))
          | inr ne ↦
              let same = one_fixed c d (length (inner runs)) N M apart ne candidate h in
              (stage, subst (λ K. Fails runs d K stage) same.1 (subst (λ o. Fails runs o N stage) same.0 fails), omega arith)
        ];
  }

  -- that of GS1-128, where it is the one candidate
  pub alone_gs1128 : (N : ℕ) (stage : Stage) → HasSize (kind_of Gs1128) (length (inner runs)) N
      → ((c : Carrier) (M : ℕ) → c ≢ Gs1128 → HasSize (kind_of c) (length (inner runs)) M → ⊥) → Fails runs Gs1128 N stage → FailsAt runs stage
  alone_gs1128 N stage candidate none fails = record {
    carrier = Gs1128;
    N = N;
    candidate = candidate;
    fails = fails;
    none_later = λ d M h.
        elim (which d) [
          | inl e ↦
              let same = one_gs1128 (length (inner runs)) N M candidate (subst (λ o. HasSize (kind_of o) (length (inner runs)) M) e h) in
              (stage, subst (λ K. Fails runs d K stage) same (subst (λ o. Fails runs o N stage) (sym e) fails), omega arith)
          | inr ne ↦ absurd (none d M ne h)
        ];
  }

  -- the later one of the faults of two
  pub both : (c : Carrier) (N M : ℕ) (a b : Stage) → c ≢ Gs1128 → HasSize (kind_of c) (length (inner runs)) N → HasSize (kind_of Gs1128) (length (inner runs)) M
      → Fails runs c N a → Fails runs Gs1128 M b → FailsAt runs (later a b)
  both c N M a b apart first second f g =
      elim (cases_lt (number_of a) (number_of b)) [
        | inl less ↦ subst (FailsAt runs) (sym (is_second a b less)) (record {
          carrier = Gs1128;
          N = M;
          candidate = second;
          fails = g;
          none_later = each b (omega arith) (omega arith);
        })
        | inr more ↦ subst (FailsAt runs) (sym (is_first a b more)) (record {
          carrier = c;
          N = N;
          candidate = first;
          fails = f;
          none_later = each a (omega arith) (omega arith);
        })
      ]
    where
      each : (stage : Stage) → number_of a ≤ number_of stage → number_of b ≤ number_of stage → (d : Carrier) (K : ℕ)
          → HasSize (kind_of d) (length (inner runs)) K → (at : Stage) × Fails runs d K at × (number_of at ≤ number_of stage)
      each stage low high d K h =
          elim (which d) [
            | inl e ↦
                let same = one_gs1128 (length (inner runs)) M K second (subst (λ o. HasSize (kind_of o) (length (inner runs)) K) e h) in
                (b, subst (λ L. Fails runs d L b) same (subst (λ o. Fails runs o M b) (sym e) g), high)
            | inr ne ↦
                let same = one_fixed c d (length (inner runs)) N K apart ne first h in
                (a, subst (λ L. Fails runs d L a) same.1 (subst (λ o. Fails runs o N a) same.0 f), low)
          ]

-- ---- refusals

module _ (runs : List ℕ) (c : Carrier) (N : ℕ) where
  not_quiet : (at : Stage) → Fails runs c N at → number_of at ≤ 0 → IsQuiet runs N → ⊥
  not_quiet QuietZone f low quiet = f quiet
  not_quiet Modules f low quiet = absurd (omega arith)
  not_quiet Pattern f low quiet = absurd (omega arith)

  not_rounded : (at : Stage) → Fails runs c N at → number_of at ≤ 1 → IsQuiet runs N → (way : Way) (ms : List ℕ) → Rounds (along way (inner runs)) N ms → ⊥
  not_rounded QuietZone f low quiet way ms rounds = f quiet
  not_rounded Modules f low quiet way ms rounds = f.1 way ms rounds
  not_rounded Pattern f low quiet way ms rounds = absurd (omega arith)

-- what a candidate fails it does not show
not_shown : (f : Stage) (runs : List ℕ) (c : Carrier) (w : Way) (ms : List ℕ) → (s : Shows runs c w ms) → Fails runs c s.N f → ⊥
not_shown QuietZone runs c w ms s h = h s.quiet
not_shown Modules runs c w ms s h = h.1 w ms s.rounds
not_shown Pattern runs c w ms s h = h.2 w ms s.rounds s.form

-- a row that fails at a stage is refused for it
pub refused_at : (stage : Stage) (runs : List ℕ) (year : Terms) → FailsAt runs stage → IsRefused runs year (stage_fault stage)
refused_at QuietZone runs year a = (
  (a.carrier, a.N, a.candidate),
  λ m. let o = a.none_later m.0 m.1 m.2.0 in not_quiet runs m.0 m.1 o.0 o.1 o.2 m.2.1,
)
refused_at Modules runs year a = (
  (a.carrier, a.N, (a.candidate, a.fails.0)),
  λ m. let o = a.none_later m.0 m.1 m.2.0 in not_rounded runs m.0 m.1 o.0 o.1 o.2 m.2.1 m.2.2 m.2.3 m.2.4,
)
refused_at Pattern runs year a = (
  (a.carrier, a.N, (a.candidate, a.fails.0, a.fails.1.0, a.fails.1.1, a.fails.1.2)),
  λ c w ms s. let o = a.none_later c s.N s.candidate in not_shown o.0 runs c w ms s o.1,
)
