-- The units of numbers (GS1 General Specifications, section 3.6). tables/ais makes the list of tables/ais.tsv.
use Rattle.std.specs.Prelude.{ℕ, ◌++◌, List, [], ◌∷◌, codes, if◌then◌else◌}
use Rattle.answer_core.specs.Listed.{is_listed}

-- AIs whose numbers have one unit
pub record MeasuredAis : Type 0 where
  pub ais : List ℕ
  pub unit : List ℕ

abbrev pub measured : List ℕ → List ℕ → MeasuredAis
measured ais unit = record { ais = ais; unit = unit }

unfoldable pub units : List MeasuredAis
units =
    measured (codes "310n,330n") (codes "kg")
    ∷ measured (codes "311n,312n,313n,331n,332n,333n") (codes "m")
    ∷ measured (codes "314n,334n") (codes "m" ++ (194 ∷ 178 ∷ []))
    ∷ measured (codes "315n,335n") (codes "l")
    ∷ measured (codes "316n,336n") (codes "m" ++ (194 ∷ 179 ∷ []))
    ∷ measured (codes "320n,340n") (codes "lb")
    ∷ measured (codes "321n,324n,327n,341n,344n,347n") (codes "in")
    ∷ measured (codes "322n,325n,328n,342n,345n,348n") (codes "ft")
    ∷ measured (codes "323n,326n,329n,343n,346n,349n") (codes "yd")
    ∷ measured (codes "337n") (codes "kg/m" ++ (194 ∷ 178 ∷ []))
    ∷ measured (codes "350n,353n") (codes "in" ++ (194 ∷ 178 ∷ []))
    ∷ measured (codes "351n,354n") (codes "ft" ++ (194 ∷ 178 ∷ []))
    ∷ measured (codes "352n,355n") (codes "yd" ++ (194 ∷ 178 ∷ []))
    ∷ measured (codes "356n") (codes "t oz")
    ∷ measured (codes "357n") (codes "oz")
    ∷ measured (codes "360n,362n") (codes "qt")
    ∷ measured (codes "361n,363n") (codes "gal")
    ∷ measured (codes "364n,367n") (codes "in" ++ (194 ∷ 179 ∷ []))
    ∷ measured (codes "365n,368n") (codes "ft" ++ (194 ∷ 179 ∷ []))
    ∷ measured (codes "366n,369n") (codes "yd" ++ (194 ∷ 179 ∷ []))
    ∷ measured (codes "394n") (codes "%")
    ∷ measured (codes "4330,4332") ((194 ∷ 176 ∷ []) ++ codes "F")
    ∷ measured (codes "4331,4333") ((194 ∷ 176 ∷ []) ++ codes "C")
    ∷ []

abbrev pub unit_in : List ℕ → List MeasuredAis → List ℕ
unit_in ai [] = []
unit_in ai (m ∷ list) = if is_listed ai m.ais then m.unit else unit_in ai list

-- the unit of the numbers of an AI, in UTF-8; no byte if they have none
abbrev pub unit_of : List ℕ → List ℕ
unit_of ai = unit_in ai units
