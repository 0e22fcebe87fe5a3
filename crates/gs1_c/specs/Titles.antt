-- The data titles of Application Identifiers (GS1 General Specifications, section 3.2). tables/ais makes the lists of tables/ais.tsv.
use Rattle.std.specs.Prelude.{◌&&◌, ◌-◌, ◌++◌, ◌∷◌, [], ℕ, Bool, List, Option, Some, None, bytes_eq, codes, find, length, nat_lt, option_map, slice_index_or, take}
use Rattle.std.specs.Int.{is_in_range}

-- AIs that differ in their last digit alone, which lies between the first and the last, and their title
pub record TitledAis : Type 0 where
  pub stem : List ℕ
  pub first : ℕ
  pub last : ℕ
  pub title : List ℕ

abbrev pub titled : List ℕ → ℕ → ℕ → List ℕ → TitledAis
titled stem first last title = record { stem = stem; first = first; last = last; title = title }

-- the titles of AIs that begin with 0 to 2, with 3, with 4, with 7, and with 8 and 9
unfoldable pub titles_0_to_2 : List TitledAis
titles_0_to_2 =
    titled (codes "0") 48 48 (codes "SSCC")
    ∷ titled (codes "0") 49 49 (codes "GTIN")
    ∷ titled (codes "0") 50 50 (codes "CONTENT")
    ∷ titled (codes "0") 51 51 (codes "MTO GTIN")
    ∷ titled (codes "1") 48 48 (codes "BATCH/LOT")
    ∷ titled (codes "1") 49 49 (codes "PROD DATE")
    ∷ titled (codes "1") 50 50 (codes "DUE DATE")
    ∷ titled (codes "1") 51 51 (codes "PACK DATE")
    ∷ titled (codes "1") 53 53 (codes "BEST BEFORE or BEST BY")
    ∷ titled (codes "1") 54 54 (codes "SELL BY")
    ∷ titled (codes "1") 55 55 (codes "USE BY or EXPIRY")
    ∷ titled (codes "2") 48 48 (codes "VARIANT")
    ∷ titled (codes "2") 49 49 (codes "SERIAL")
    ∷ titled (codes "2") 50 50 (codes "CPV")
    ∷ titled (codes "23") 53 53 (codes "TPX")
    ∷ titled (codes "24") 48 48 (codes "ADDITIONAL ID")
    ∷ titled (codes "24") 49 49 (codes "CUST. PART No.")
    ∷ titled (codes "24") 50 50 (codes "MTO VARIANT")
    ∷ titled (codes "24") 51 51 (codes "PCN")
    ∷ titled (codes "25") 48 48 (codes "SECONDARY SERIAL")
    ∷ titled (codes "25") 49 49 (codes "REF. TO SOURCE")
    ∷ titled (codes "25") 51 51 (codes "GDTI")
    ∷ titled (codes "25") 52 52 (codes "GLN EXTENSION COMPONENT")
    ∷ titled (codes "25") 53 53 (codes "GCN")
    ∷ []

unfoldable pub titles_3 : List TitledAis
titles_3 =
    titled (codes "3") 48 48 (codes "VAR. COUNT")
    ∷ titled (codes "310") 48 53 (codes "NET WEIGHT (kg)")
    ∷ titled (codes "311") 48 53 (codes "LENGTH (m)")
    ∷ titled (codes "312") 48 53 (codes "WIDTH (m)")
    ∷ titled (codes "313") 48 53 (codes "HEIGHT (m)")
    ∷ titled (codes "314") 48 53 (codes "AREA (m" ++ (194 ∷ 178 ∷ []) ++ codes ")")
    ∷ titled (codes "315") 48 53 (codes "NET VOLUME (l)")
    ∷ titled (codes "316") 48 53 (codes "NET VOLUME (m" ++ (194 ∷ 179 ∷ []) ++ codes ")")
    ∷ titled (codes "320") 48 53 (codes "NET WEIGHT (lb)")
    ∷ titled (codes "321") 48 53 (codes "LENGTH (in)")
    ∷ titled (codes "322") 48 53 (codes "LENGTH (ft)")
    ∷ titled (codes "323") 48 53 (codes "LENGTH (yd)")
    ∷ titled (codes "324") 48 53 (codes "WIDTH (in)")
    ∷ titled (codes "325") 48 53 (codes "WIDTH (ft)")
    ∷ titled (codes "326") 48 53 (codes "WIDTH (yd)")
    ∷ titled (codes "327") 48 53 (codes "HEIGHT (in)")
    ∷ titled (codes "328") 48 53 (codes "HEIGHT (ft)")
    ∷ titled (codes "329") 48 53 (codes "HEIGHT (yd)")
    ∷ titled (codes "330") 48 53 (codes "GROSS WEIGHT (kg)")
    ∷ titled (codes "331") 48 53 (codes "LENGTH (m), log")
    ∷ titled (codes "332") 48 53 (codes "WIDTH (m), log")
    ∷ titled (codes "333") 48 53 (codes "HEIGHT (m), log")
    ∷ titled (codes "334") 48 53 (codes "AREA (m" ++ (194 ∷ 178 ∷ []) ++ codes "), log")
    ∷ titled (codes "335") 48 53 (codes "VOLUME (l), log")
    ∷ titled (codes "336") 48 53 (codes "VOLUME (m" ++ (194 ∷ 179 ∷ []) ++ codes "), log")
    ∷ titled (codes "337") 48 53 (codes "KG PER m" ++ (194 ∷ 178 ∷ []))
    ∷ titled (codes "340") 48 53 (codes "GROSS WEIGHT (lb)")
    ∷ titled (codes "341") 48 53 (codes "LENGTH (in), log")
    ∷ titled (codes "342") 48 53 (codes "LENGTH (ft), log")
    ∷ titled (codes "343") 48 53 (codes "LENGTH (yd), log")
    ∷ titled (codes "344") 48 53 (codes "WIDTH (in), log")
    ∷ titled (codes "345") 48 53 (codes "WIDTH (ft), log")
    ∷ titled (codes "346") 48 53 (codes "WIDTH (yd), log")
    ∷ titled (codes "347") 48 53 (codes "HEIGHT (in), log")
    ∷ titled (codes "348") 48 53 (codes "HEIGHT (ft), log")
    ∷ titled (codes "349") 48 53 (codes "HEIGHT (yd), log")
    ∷ titled (codes "350") 48 53 (codes "AREA (in" ++ (194 ∷ 178 ∷ []) ++ codes ")")
    ∷ titled (codes "351") 48 53 (codes "AREA (ft" ++ (194 ∷ 178 ∷ []) ++ codes ")")
    ∷ titled (codes "352") 48 53 (codes "AREA (yd" ++ (194 ∷ 178 ∷ []) ++ codes ")")
    ∷ titled (codes "353") 48 53 (codes "AREA (in" ++ (194 ∷ 178 ∷ []) ++ codes "), log")
    ∷ titled (codes "354") 48 53 (codes "AREA (ft" ++ (194 ∷ 178 ∷ []) ++ codes "), log")
    ∷ titled (codes "355") 48 53 (codes "AREA (yd" ++ (194 ∷ 178 ∷ []) ++ codes "), log")
    ∷ titled (codes "356") 48 53 (codes "NET WEIGHT (t oz)")
    ∷ titled (codes "357") 48 53 (codes "NET VOLUME (oz)")
    ∷ titled (codes "360") 48 53 (codes "NET VOLUME (qt)")
    ∷ titled (codes "361") 48 53 (codes "NET VOLUME (gal.)")
    ∷ titled (codes "362") 48 53 (codes "VOLUME (qt), log")
    ∷ titled (codes "363") 48 53 (codes "VOLUME (gal.), log")
    ∷ titled (codes "364") 48 53 (codes "VOLUME (in" ++ (194 ∷ 179 ∷ []) ++ codes ")")
    ∷ titled (codes "365") 48 53 (codes "VOLUME (ft" ++ (194 ∷ 179 ∷ []) ++ codes ")")
    ∷ titled (codes "366") 48 53 (codes "VOLUME (yd" ++ (194 ∷ 179 ∷ []) ++ codes ")")
    ∷ titled (codes "367") 48 53 (codes "VOLUME (in" ++ (194 ∷ 179 ∷ []) ++ codes "), log")
    ∷ titled (codes "368") 48 53 (codes "VOLUME (ft" ++ (194 ∷ 179 ∷ []) ++ codes "), log")
    ∷ titled (codes "369") 48 53 (codes "VOLUME (yd" ++ (194 ∷ 179 ∷ []) ++ codes "), log")
    ∷ titled (codes "3") 55 55 (codes "COUNT")
    ∷ titled (codes "390") 48 57 (codes "AMOUNT")
    ∷ titled (codes "391") 48 57 (codes "AMOUNT")
    ∷ titled (codes "392") 48 57 (codes "PRICE")
    ∷ titled (codes "393") 48 57 (codes "PRICE")
    ∷ titled (codes "394") 48 51 (codes "PRCNT OFF")
    ∷ titled (codes "395") 48 53 (codes "PRICE/UoM")
    ∷ []

unfoldable pub titles_4 : List TitledAis
titles_4 =
    titled (codes "40") 48 48 (codes "ORDER NUMBER")
    ∷ titled (codes "40") 49 49 (codes "GINC")
    ∷ titled (codes "40") 50 50 (codes "GSIN")
    ∷ titled (codes "40") 51 51 (codes "ROUTE")
    ∷ titled (codes "41") 48 48 (codes "SHIP TO LOC")
    ∷ titled (codes "41") 49 49 (codes "BILL TO")
    ∷ titled (codes "41") 50 50 (codes "PURCHASE FROM")
    ∷ titled (codes "41") 51 51 (codes "SHIP FOR LOC")
    ∷ titled (codes "41") 52 52 (codes "LOC No.")
    ∷ titled (codes "41") 53 53 (codes "PAY TO")
    ∷ titled (codes "41") 54 54 (codes "PROD/SERV LOC")
    ∷ titled (codes "41") 55 55 (codes "PARTY")
    ∷ titled (codes "42") 48 48 (codes "SHIP TO POST")
    ∷ titled (codes "42") 49 49 (codes "SHIP TO POST")
    ∷ titled (codes "42") 50 50 (codes "ORIGIN")
    ∷ titled (codes "42") 51 51 (codes "COUNTRY - INITIAL PROCESS")
    ∷ titled (codes "42") 52 52 (codes "COUNTRY - PROCESS")
    ∷ titled (codes "42") 53 53 (codes "COUNTRY - DISASSEMBLY")
    ∷ titled (codes "42") 54 54 (codes "COUNTRY - FULL PROCESS")
    ∷ titled (codes "42") 55 55 (codes "ORIGIN SUBDIVISION")
    ∷ titled (codes "430") 48 48 (codes "SHIP TO COMP")
    ∷ titled (codes "430") 49 49 (codes "SHIP TO NAME")
    ∷ titled (codes "430") 50 50 (codes "SHIP TO ADD1")
    ∷ titled (codes "430") 51 51 (codes "SHIP TO ADD2")
    ∷ titled (codes "430") 52 52 (codes "SHIP TO SUB")
    ∷ titled (codes "430") 53 53 (codes "SHIP TO LOC")
    ∷ titled (codes "430") 54 54 (codes "SHIP TO REG")
    ∷ titled (codes "430") 55 55 (codes "SHIP TO COUNTRY")
    ∷ titled (codes "430") 56 56 (codes "SHIP TO PHONE")
    ∷ titled (codes "430") 57 57 (codes "SHIP TO GEO")
    ∷ titled (codes "431") 48 48 (codes "RTN TO COMP")
    ∷ titled (codes "431") 49 49 (codes "RTN TO NAME")
    ∷ titled (codes "431") 50 50 (codes "RTN TO ADD1")
    ∷ titled (codes "431") 51 51 (codes "RTN TO ADD2")
    ∷ titled (codes "431") 52 52 (codes "RTN TO SUB")
    ∷ titled (codes "431") 53 53 (codes "RTN TO LOC")
    ∷ titled (codes "431") 54 54 (codes "RTN TO REG")
    ∷ titled (codes "431") 55 55 (codes "RTN TO COUNTRY")
    ∷ titled (codes "431") 56 56 (codes "RTN TO POST")
    ∷ titled (codes "431") 57 57 (codes "RTN TO PHONE")
    ∷ titled (codes "432") 48 48 (codes "SRV DESCRIPTION")
    ∷ titled (codes "432") 49 49 (codes "DANGEROUS GOODS")
    ∷ titled (codes "432") 50 50 (codes "AUTH LEAVE")
    ∷ titled (codes "432") 51 51 (codes "SIG REQUIRED")
    ∷ titled (codes "432") 52 52 (codes "NBEF DEL DT")
    ∷ titled (codes "432") 53 53 (codes "NAFT DEL DT")
    ∷ titled (codes "432") 54 54 (codes "REL DATE")
    ∷ titled (codes "433") 48 48 (codes "MAX TEMP F")
    ∷ titled (codes "433") 49 49 (codes "MAX TEMP C")
    ∷ titled (codes "433") 50 50 (codes "MIN TEMP F")
    ∷ titled (codes "433") 51 51 (codes "MIN TEMP C")
    ∷ []

unfoldable pub titles_7 : List TitledAis
titles_7 =
    titled (codes "700") 49 49 (codes "NSN")
    ∷ titled (codes "700") 50 50 (codes "MEAT CUT")
    ∷ titled (codes "700") 51 51 (codes "EXPIRY TIME")
    ∷ titled (codes "700") 52 52 (codes "ACTIVE POTENCY")
    ∷ titled (codes "700") 53 53 (codes "CATCH AREA")
    ∷ titled (codes "700") 54 54 (codes "FIRST FREEZE DATE")
    ∷ titled (codes "700") 55 55 (codes "HARVEST DATE")
    ∷ titled (codes "700") 56 56 (codes "AQUATIC SPECIES")
    ∷ titled (codes "700") 57 57 (codes "FISHING GEAR TYPE")
    ∷ titled (codes "701") 48 48 (codes "PROD METHOD")
    ∷ titled (codes "701") 49 49 (codes "TEST BY DATE")
    ∷ titled (codes "702") 48 48 (codes "REFURB LOT")
    ∷ titled (codes "702") 49 49 (codes "FUNC STAT")
    ∷ titled (codes "702") 50 50 (codes "REV STAT")
    ∷ titled (codes "702") 51 51 (codes "GIAI - ASSEMBLY")
    ∷ titled (codes "703") 48 57 (codes "PROCESSOR # s")
    ∷ titled (codes "704") 48 48 (codes "UIC+EXT")
    ∷ titled (codes "704") 49 49 (codes "UFRGT UNIT TYPE")
    ∷ titled (codes "71") 48 48 (codes "NHRN PZN")
    ∷ titled (codes "71") 49 49 (codes "NHRN CIP")
    ∷ titled (codes "71") 50 50 (codes "NHRN CN")
    ∷ titled (codes "71") 51 51 (codes "NHRN DRN")
    ∷ titled (codes "71") 52 52 (codes "NHRN AIM")
    ∷ titled (codes "71") 53 53 (codes "NHRN NDC")
    ∷ titled (codes "71") 54 54 (codes "NHRN AIC")
    ∷ titled (codes "723") 48 57 (codes "CERT # s")
    ∷ titled (codes "724") 48 48 (codes "PROTOCOL")
    ∷ titled (codes "724") 49 49 (codes "AIDC MEDIA TYPE")
    ∷ titled (codes "724") 50 50 (codes "VCN")
    ∷ titled (codes "725") 48 48 (codes "DOB")
    ∷ titled (codes "725") 49 49 (codes "DOB TIME")
    ∷ titled (codes "725") 50 50 (codes "BIO SEX")
    ∷ titled (codes "725") 51 51 (codes "FAMILY NAME")
    ∷ titled (codes "725") 52 52 (codes "GIVEN NAME")
    ∷ titled (codes "725") 53 53 (codes "SUFFIX")
    ∷ titled (codes "725") 54 54 (codes "FULL NAME")
    ∷ titled (codes "725") 55 55 (codes "PERSON ADDR")
    ∷ titled (codes "725") 56 56 (codes "BIRTH SEQUENCE")
    ∷ titled (codes "725") 57 57 (codes "BABY")
    ∷ []

unfoldable pub titles_8_and_9 : List TitledAis
titles_8_and_9 =
    titled (codes "800") 49 49 (codes "DIMENSIONS")
    ∷ titled (codes "800") 50 50 (codes "CMT No.")
    ∷ titled (codes "800") 51 51 (codes "GRAI")
    ∷ titled (codes "800") 52 52 (codes "GIAI")
    ∷ titled (codes "800") 53 53 (codes "PRICE PER UNIT")
    ∷ titled (codes "800") 54 54 (codes "ITIP")
    ∷ titled (codes "800") 55 55 (codes "IBAN")
    ∷ titled (codes "800") 56 56 (codes "PROD TIME")
    ∷ titled (codes "800") 57 57 (codes "OPTSEN")
    ∷ titled (codes "801") 48 48 (codes "CPID")
    ∷ titled (codes "801") 49 49 (codes "CPID SERIAL")
    ∷ titled (codes "801") 50 50 (codes "VERSION")
    ∷ titled (codes "801") 51 51 (codes "GMN")
    ∷ titled (codes "801") 52 52 (codes "MUDI")
    ∷ titled (codes "801") 55 55 (codes "GSRN - PROVIDER")
    ∷ titled (codes "801") 56 56 (codes "GSRN - RECIPIENT")
    ∷ titled (codes "801") 57 57 (codes "SRIN")
    ∷ titled (codes "802") 48 48 (codes "REF No.")
    ∷ titled (codes "802") 54 54 (codes "ITIP CONTENT")
    ∷ titled (codes "803") 48 48 (codes "DIGSIG")
    ∷ titled (codes "811") 49 49 (codes "POINTS")
    ∷ titled (codes "820") 48 48 (codes "PRODUCT URL")
    ∷ titled (codes "9") 48 48 (codes "INTERNAL")
    ∷ titled (codes "9") 49 57 (codes "INTERNAL")
    ∷ []

-- all of them
abbrev pub titles : List TitledAis
titles = titles_0_to_2 ++ (titles_3 ++ (titles_4 ++ (titles_7 ++ titles_8_and_9)))

-- whether an AI is one of these
abbrev pub has_ai : List ℕ → TitledAis → Bool
has_ai ai ais = nat_lt 0 (length ai) && (bytes_eq (take (length ai - 1) ai) ais.stem && is_in_range ais.first ais.last (slice_index_or ai (length ai - 1) 0))

-- the title of an AI in a list
abbrev pub title_in : List TitledAis → List ℕ → Option (List ℕ)
title_in list ai = option_map (λ ais. ais.title) (find (has_ai ai) list)

-- the bytes of a title that there may be
abbrev pub title_bytes : Option (List ℕ) → List ℕ
title_bytes None = []
title_bytes (Some title) = title

-- the title of an AI, of no bytes if it has none
abbrev pub title_of : List ℕ → List ℕ
title_of ai = title_bytes (title_in titles ai)
