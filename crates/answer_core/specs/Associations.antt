-- Which elements the standard requires and forbids beside others (GS1 General Specifications, section 4.13). tables/ais makes the lists of tables/ais.tsv.
use Rattle.std.specs.Prelude.{ℕ, Bool, true, false, ◌==◌, List, [], ◌∷◌, codes, if◌then◌else◌}
use Rattle.std.specs.Int.{is_in_range}

-- elements of some AIs ask that one of the others stands beside them, or that none does
pub record AiAssociation : Type 0 where
  pub ais : List ℕ
  pub excludes : Bool
  pub others : List ℕ

abbrev pub need : List ℕ → List ℕ → AiAssociation
need ais others = record { ais = ais; excludes = false; others = others }

abbrev pub exclude : List ℕ → List ℕ → AiAssociation
exclude ais others = record { ais = ais; excludes = true; others = others }

-- what AIs that begin with 0 to 2 ask, with 3, with 4, with 7, and with 8
unfoldable pub associations_0_to_2 : List AiAssociation
associations_0_to_2 =
    exclude (codes "01") (codes "255,37")
    ∷ need (codes "02") (codes "37")
    ∷ exclude (codes "03") (codes "01,02,37")
    ∷ need (codes "10,11,13,15,16,20") (codes "01,02,03,8006,8026")
    ∷ need (codes "12") (codes "8020")
    ∷ need (codes "17") (codes "01,02,03,255,8006,8026")
    ∷ need (codes "21") (codes "01,03,8006")
    ∷ exclude (codes "21") (codes "235")
    ∷ need (codes "22,235,243") (codes "01")
    ∷ need (codes "240,241,242") (codes "01,02,8006,8026")
    ∷ need (codes "250,251") (codes "01,8006")
    ∷ need (codes "250") (codes "21")
    ∷ need (codes "254") (codes "414")
    ∷ exclude (codes "255") (codes "01,02,415,8006,8020,8026")
    ∷ []

unfoldable pub associations_3 : List AiAssociation
associations_3 =
    need (codes "30,310n,311n,312n,313n,314n,315n,316n,320n,321n,322n,323n,324n,325n,326n,327n,328n,329n,350n,351n,352n,356n,357n,360n,361n,364n,365n,366n") (codes "01,02")
    ∷ exclude (codes "310n") (codes "310n")
    ∷ exclude (codes "311n") (codes "311n")
    ∷ exclude (codes "312n") (codes "312n")
    ∷ exclude (codes "313n") (codes "313n")
    ∷ exclude (codes "314n") (codes "314n")
    ∷ exclude (codes "315n") (codes "315n")
    ∷ exclude (codes "316n") (codes "316n")
    ∷ exclude (codes "320n") (codes "320n")
    ∷ exclude (codes "321n") (codes "321n")
    ∷ exclude (codes "322n") (codes "322n")
    ∷ exclude (codes "323n") (codes "323n")
    ∷ exclude (codes "324n") (codes "324n")
    ∷ exclude (codes "325n") (codes "325n")
    ∷ exclude (codes "326n") (codes "326n")
    ∷ exclude (codes "327n") (codes "327n")
    ∷ exclude (codes "328n") (codes "328n")
    ∷ exclude (codes "329n") (codes "329n")
    ∷ need (codes "330n,331n,332n,333n,334n,335n,336n,340n,341n,342n,343n,344n,345n,346n,347n,348n,349n,353n,354n,355n,362n,363n,367n,368n,369n") (codes "00,01")
    ∷ exclude (codes "330n") (codes "330n")
    ∷ exclude (codes "331n") (codes "331n")
    ∷ exclude (codes "332n") (codes "332n")
    ∷ exclude (codes "333n") (codes "333n")
    ∷ exclude (codes "334n") (codes "334n")
    ∷ exclude (codes "335n") (codes "335n")
    ∷ exclude (codes "336n") (codes "336n")
    ∷ need (codes "337n,392n,393n,395n") (codes "01")
    ∷ exclude (codes "337n") (codes "337n")
    ∷ exclude (codes "340n") (codes "340n")
    ∷ exclude (codes "341n") (codes "341n")
    ∷ exclude (codes "342n") (codes "342n")
    ∷ exclude (codes "343n") (codes "343n")
    ∷ exclude (codes "344n") (codes "344n")
    ∷ exclude (codes "345n") (codes "345n")
    ∷ exclude (codes "346n") (codes "346n")
    ∷ exclude (codes "347n") (codes "347n")
    ∷ exclude (codes "348n") (codes "348n")
    ∷ exclude (codes "349n") (codes "349n")
    ∷ exclude (codes "350n") (codes "350n")
    ∷ exclude (codes "351n") (codes "351n")
    ∷ exclude (codes "352n") (codes "352n")
    ∷ exclude (codes "353n") (codes "353n")
    ∷ exclude (codes "354n") (codes "354n")
    ∷ exclude (codes "355n") (codes "355n")
    ∷ exclude (codes "356n") (codes "356n")
    ∷ exclude (codes "357n") (codes "357n")
    ∷ exclude (codes "360n") (codes "360n")
    ∷ exclude (codes "361n") (codes "361n")
    ∷ exclude (codes "362n") (codes "362n")
    ∷ exclude (codes "363n") (codes "363n")
    ∷ exclude (codes "364n") (codes "364n")
    ∷ exclude (codes "365n") (codes "365n")
    ∷ exclude (codes "366n") (codes "366n")
    ∷ exclude (codes "367n") (codes "367n")
    ∷ exclude (codes "368n") (codes "368n")
    ∷ exclude (codes "369n") (codes "369n")
    ∷ need (codes "37") (codes "02,8026")
    ∷ need (codes "390n") (codes "255,8020")
    ∷ exclude (codes "390n") (codes "390n,391n,394n,8111")
    ∷ need (codes "391n") (codes "8020")
    ∷ exclude (codes "391n") (codes "391n")
    ∷ need (codes "392n,393n,395n") (codes "30,31nn,32nn,35nn,36nn")
    ∷ exclude (codes "392n") (codes "392n,393n")
    ∷ exclude (codes "393n") (codes "393n")
    ∷ need (codes "394n") (codes "255")
    ∷ exclude (codes "394n") (codes "394n,8111")
    ∷ exclude (codes "395n") (codes "392n,393n,395n,8005")
    ∷ []

unfoldable pub associations_4 : List AiAssociation
associations_4 =
    need (codes "403,4300,4301,4302,4304,4305,4306,4307,4308,4309,4310,4311,4312,4314,4315,4316,4317,4318,4319,4320,4321,4322,4323,4324,4325,4326,4330,4331,4332,4333") (codes "00")
    ∷ need (codes "415") (codes "8020")
    ∷ exclude (codes "420") (codes "421")
    ∷ need (codes "422") (codes "01,02,8006,8026")
    ∷ exclude (codes "422,424") (codes "426")
    ∷ need (codes "423,424,425,426,427") (codes "01,02")
    ∷ exclude (codes "423") (codes "425,426")
    ∷ exclude (codes "425") (codes "423,426")
    ∷ need (codes "427") (codes "422")
    ∷ need (codes "4303") (codes "4302")
    ∷ need (codes "4313") (codes "4312")
    ∷ exclude (codes "4330") (codes "4331")
    ∷ exclude (codes "4331") (codes "4330")
    ∷ exclude (codes "4332") (codes "4333")
    ∷ exclude (codes "4333") (codes "4332")
    ∷ []

unfoldable pub associations_7 : List AiAssociation
associations_7 =
    need (codes "7001") (codes "01,02,8006,8026")
    ∷ need (codes "7002,7003,7005,7006,7007,7008,7009,7010,7011,703n") (codes "01,02")
    ∷ need (codes "7004,710,711,712,713,714,715,716") (codes "01")
    ∷ need (codes "7004") (codes "10")
    ∷ need (codes "7020,7021,7240") (codes "01,8006")
    ∷ need (codes "7020") (codes "416")
    ∷ need (codes "7022") (codes "7021")
    ∷ need (codes "7041") (codes "00")
    ∷ need (codes "723n") (codes "01,8004")
    ∷ need (codes "7241,7242,7253,7254,7255,7256") (codes "8017,8018")
    ∷ need (codes "7250,7251,7252,7257,7258,7259") (codes "8018")
    ∷ []

unfoldable pub associations_8 : List AiAssociation
associations_8 =
    need (codes "8001,8200") (codes "01")
    ∷ need (codes "8005,8008") (codes "01,02")
    ∷ need (codes "8007,8020") (codes "415")
    ∷ need (codes "8009") (codes "00,01")
    ∷ need (codes "8011") (codes "8010")
    ∷ need (codes "8012") (codes "01,8006")
    ∷ need (codes "8019") (codes "8017,8018")
    ∷ need (codes "8026") (codes "37")
    ∷ need (codes "8030") (codes "00,01,253,255,8003,8004,8006,8010,8017,8018")
    ∷ need (codes "8111") (codes "255")
    ∷ []

-- what elements of an AI may ask, by its first digit
abbrev pub associations_by : ℕ → List AiAssociation
associations_by d =
    if is_in_range 48 50 d then associations_0_to_2
    else if d == 51 then associations_3
    else if d == 52 then associations_4
    else if d == 55 then associations_7
    else if d == 56 then associations_8 else []

abbrev pub associations_from : List ℕ → List AiAssociation
associations_from [] = []
associations_from (d ∷ ai) = associations_by d
