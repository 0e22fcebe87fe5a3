-- What a row keeps.
use Rattle.std.proofs.Common.{◌≡◌, ◌&&◌, ◌∙◌, ℕ, Bool, true, false, List, Ok, Option, Some, ap, eqb, refl, subst, sym}
use Rattle.std.proofs.Math.Bool.{beq}
use Rattle.std.proofs.lemmas.Bool.{and_parts, eqb-true}
use Rattle.element_core.specs.Terms.{Terms}
use Rattle.scan_core.specs.Reading.{IsFound}
use Rattle.scan_core.specs.Reading.ReadSymbol.{Characters}
use Rattle.scan_core.specs.Answers.{Tells}
use Rattle.scan_core.specs.Row.{IsRow}
use Rattle.scan_core.specs.inner.Kept.{AreElementsIf, AreElementsIn, IsRowWith, RowSays}
use Rattle.scan_core.specs.declared.carrier.Carrier.{Carrier}
use Rattle.scan_core.specs.declared.found.Found.{Found}
use Rattle.scan_core.specs.declared.found.Found.TheVariants as found
use Rattle.scan_core.specs.declared.runs.Kept.{Kept}
use Rattle.code128_code.specs.declared.symbol_values.Values.{Values}
use Rattle.scan_core.proofs.AnswerFacts.{answer_from}
use Rattle.scan_core.proofs.CandidateShows.{symbol_tells}

-- a row that is not read may keep anything beside it
pub unread : (ws : List ℕ) (kept now : Kept) → IsRow ws → kept.is_read ≡ false → now ≡ kept
    → IsRowWith ws now.is_read now.found now.said_by now.said.bytes
unread ws kept now row off same = (row, λ yes. absurd cc)

one_flag : (a b : Bool) → beq a b ≡ true → a ≡ b
one_flag true true e = refl
one_flag true false e = absurd (cc)
one_flag false true e = absurd (cc)
one_flag false false e = refl

-- the same year, and the same AIs
same_terms : (a b : Terms) → (eqb a.year b.year && beq a.every b.every) ≡ true → a ≡ b
same_terms a b same =
    let parts = and_parts (eqb a.year b.year) (beq a.every b.every) same in
    let year = eqb-true a.year b.year parts.0 in
    let every = one_flag a.every b.every parts.1 in
    λ i. record { year = year i; every = every i }

-- what is kept of characters that were read is what the row says
pub kept_says : (kept now : Kept) (ws said : List ℕ) (by year : Terms) (carrier : Carrier) (values : Values)
    → IsRowWith kept.widths.list kept.is_read kept.found kept.said_by kept.said.bytes → kept.widths.list ≡ ws → now ≡ kept → now.is_read ≡ true
    → now.said_by ≡ Some by → (eqb by.year year.year && beq by.every year.every) ≡ true → now.found ≡ found.Characters carrier values
    → said ≡ now.said.bytes → RowSays ws year carrier said
kept_says kept now ws said by year carrier values row seen same read is terms shown whole =
    let runs : now.widths.list ≡ ws = ap (λ (k : Kept). k.widths.list) same ∙ seen in
    let here = subst (λ (k : Kept). IsRowWith k.widths.list k.is_read k.found k.said_by k.said.bytes) (sym same) row in
    let both = here.1 read in
    let shows = subst (λ (f : Found). IsFound ws f) shown (subst (λ (r : List ℕ). IsFound r now.found) runs both.0) in
    let year_is : now.said_by ≡ Some year = is ∙ ap Some (same_terms by year terms) in
    let kept_said = subst (λ (b : Option Terms). AreElementsIf b now.found now.said.bytes) year_is both.1 in
    let e = subst (λ (f : Found). AreElementsIn year f now.said.bytes) shown kept_said in (
      e.1,
      answer_from ws year carrier (Ok e.0) (Ok (record { year = year; list = e.1 }))
          (subst (Tells ws carrier) e.2 (symbol_tells ws carrier (Characters values) shows)) (refl, e.3),
      whole ∙ e.4,
    )
