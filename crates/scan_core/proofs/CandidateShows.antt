-- What a row is found to show as a candidate.
use Rattle.std.proofs.Common.{◌≡◌, ℕ, List, length, Option, Some, None, refl, sym, ap, subst, ◌∙◌}
use Rattle.ean_code.specs.Spelling.{gtin_of}
use Rattle.ean_code.specs.declared.kind.Kind.{Kind}
use Rattle.scan_core.specs.Reading.ReadSymbol.{Number, BadCheckDigit, Characters}
use Rattle.scan_core.specs.Reading.{IsFound, IsSymbolAs, ReadSymbol, ShowsSymbol}
use Rattle.scan_core.specs.inner.Reading.{found_of, symbol_content}
use Rattle.scan_core.specs.declared.carrier.Carrier.{Carrier}
use Rattle.scan_core.specs.declared.stage.Stage.TheVariants as stages
use Rattle.scan_core.specs.Row.{IsRow, inner}
use Rattle.scan_core.specs.Showing.{HasSize, IsQuiet, IsSymbol, Rounds, Way, along, kind_of}
use Rattle.scan_core.specs.Showing.Way.{Forwards}
use Rattle.scan_core.specs.Answers.{Spells, Tells, checked_text}
use Rattle.scan_core.specs.inner.Stages.{Fails}
use Rattle.scan_core.proofs.CandidateFacts.{candidate_dots}
use Rattle.scan_core.proofs.ContentFacts.{checked_right, checked_wrong}
use Rattle.scan_core.proofs.WayFacts.{along-along, one_lying, rounds_along, rounds_lying}

-- modules that are found to be a symbol have the form, and spell its content
symbol_form : (kind : Option Kind) (ms : List ℕ) (s : ReadSymbol) → IsSymbolAs kind ms s → IsSymbol kind ms
symbol_form (Some kind) ms (Number gtin) a = (a.0, a.1)
symbol_form (Some kind) ms BadCheckDigit a = (a.0, a.1)
symbol_form (Some kind) ms (Characters values) a = absurd a
symbol_form None ms (Number gtin) a = absurd a
symbol_form None ms BadCheckDigit a = absurd a
symbol_form None ms (Characters values) a = (values.start, values.values.items, values.check, a)

symbol_spells : (kind : Option Kind) (ms : List ℕ) (s : ReadSymbol) → IsSymbolAs kind ms s → Spells kind ms (symbol_content s)
symbol_spells (Some kind) ms (Number gtin) a = (a.0, a.1, checked_right gtin a.3 ∙ ap checked_text a.2)
symbol_spells (Some kind) ms BadCheckDigit a = (a.0, a.1, checked_wrong (gtin_of kind a.0) (a.2 (gtin_of kind a.0) refl))
symbol_spells (Some kind) ms (Characters values) a = absurd a
symbol_spells None ms (Number gtin) a = absurd a
symbol_spells None ms BadCheckDigit a = absurd a
symbol_spells None ms (Characters values) a = (values.start, values.values.items, values.check, a, refl)

pub symbol_tells : (runs : List ℕ) (c : Carrier) (s : ReadSymbol) → ShowsSymbol runs c s → Tells runs c (symbol_content s)
symbol_tells runs c s a = (a.0, a.1, a.2, symbol_spells (kind_of c) a.1 s a.3)

-- what is found of the symbol that a row shows is found in the row
pub shown_found : (runs : List ℕ) (c : Carrier) (s : ReadSymbol) → ShowsSymbol runs c s → IsFound runs (found_of c s)
shown_found runs c (Number gtin) a = a
shown_found runs c BadCheckDigit a = (tt, λ year. (c, symbol_tells runs c BadCheckDigit a))
shown_found runs c (Characters values) a = a

-- runs that are no modules forwards are none any way
pub fails_rounding : (runs : List ℕ) (c : Carrier) (N : ℕ) → IsQuiet runs N → ((modules : List ℕ) → Rounds (inner runs) N modules → ⊥)
    → Fails runs c N stages.Modules
fails_rounding runs c N quiet none = (quiet, λ way modules h. none (along way modules) (rounds_lying way (inner runs) N modules h))

module _ (runs : List ℕ) (c : Carrier) (N : ℕ) (modules : List ℕ) (candidate : HasSize (kind_of c) (length (inner runs)) N)
    (quiet : IsQuiet runs N) (rounds : Rounds (inner runs) N modules)
  where
    -- modules that spell something some way are shown that way
    pub found_shows : (s : ReadSymbol) (way : Way) → IsSymbolAs (kind_of c) (along way modules) s → ShowsSymbol runs c s
    found_shows s way is = (
      way,
      along way modules,
      record {
        N = N;
        candidate = candidate;
        quiet = quiet;
        rounds = rounds_along way (inner runs) N modules rounds;
        form = symbol_form (kind_of c) (along way modules) s is;
      },
      is,
    )

    -- where what the runs round to has the form no way, no list has it any way
    pub fails_pattern : IsRow runs → ((way : Way) → IsSymbol (kind_of c) (along way modules) → ⊥) → Fails runs c N stages.Pattern
    fails_pattern row none = (
      quiet,
      (Forwards, modules, rounds),
      λ way others h form.
          let lying : along way others ≡ modules = one_lying way Forwards (inner runs) N others modules (candidate_dots runs c N row candidate) h rounds in
          let same : others ≡ along way modules = sym (along-along way others) ∙ ap (along way) lying in
          none way (subst (IsSymbol (kind_of c)) same form),
    )
