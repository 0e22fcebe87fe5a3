-- Codes of countries (ISO 3166-1) and of currencies (ISO 4217), the beginning of a GS1 Company Prefix, and GTINs of trade items. tables/ais makes
-- the lists of tables/ais.tsv and tables/codes.tsv.
use Rattle.std.specs.Prelude.{ℕ, Bool, false, ◌&&◌, List, [], ◌∷◌, Option, Some, None, bytes_eq, codes, take, if◌then◌else◌}
use Rattle.element_core.specs.Elements.{is_digit}
use Rattle.answer_core.specs.GtinUses.{no_item}
use Rattle.answer_core.specs.Listed.{is_listed}
use Rattle.answer_core.specs.declared.code.Coding.{Coding}
use Rattle.answer_core.specs.declared.code.Coding.TheVariants as coding
use Rattle.answer_core.specs.declared.conflict.ConflictKind.{ConflictKind}
use Rattle.answer_core.specs.declared.conflict.ConflictKind.TheVariants as kind

-- AIs whose values have codes, and what is wrong if one is in no list
pub record AisWithCodes : Type 0 where
  pub ais : List ℕ
  pub kind : ConflictKind
  pub coding : Coding

abbrev pub coded_ais : List ℕ → ConflictKind → Coding → AisWithCodes
coded_ais ais kind coding = record { ais = ais; kind = kind; coding = coding }

unfoldable pub coded_list : List AisWithCodes
coded_list =
    coded_ais (codes "01,02,03,8006,8026") kind.TradeItem coding.Gtin
    ∷ coded_ais (codes "391n,393n") kind.Currency coding.Currency
    ∷ coded_ais (codes "401") kind.CompanyPrefix coding.Prefix
    ∷ coded_ais (codes "421,422,424,426") kind.Country coding.Country
    ∷ coded_ais (codes "423,425") kind.Country coding.Countries
    ∷ coded_ais (codes "4307,4317") kind.Country coding.CountryLetters
    ∷ coded_ais (codes "703n") kind.Country coding.CountryOrSeveral
    ∷ []

unfoldable pub countries : List ℕ
countries = codes "004,008,010,012,016,020,024,028,031,032,036,040,044,048,050,051,052,056,060,064,068,070,072,074,076,084,086,090,092,096,100,104,108,112,116,120,124,132,136,140,144,148,152,156,158,162,166,170,174,175,178,180,184,188,191,192,196,203,204,208,212,214,218,222,226,231,232,233,234,238,239,242,246,248,250,254,258,260,262,266,268,270,275,276,288,292,296,300,304,308,312,316,320,324,328,332,334,336,340,344,348,352,356,360,364,368,372,376,380,384,388,392,398,400,404,408,410,414,417,418,422,426,428,430,434,438,440,442,446,450,454,458,462,466,470,474,478,480,484,492,496,498,499,500,504,508,512,516,520,524,528,531,533,534,535,540,548,554,558,562,566,570,574,578,580,581,583,584,585,586,591,598,600,604,608,612,616,620,624,626,630,634,638,642,643,646,652,654,659,660,662,663,666,670,674,678,682,686,688,690,694,702,703,704,705,706,710,716,724,728,729,732,740,744,748,752,756,760,762,764,768,772,776,780,784,788,792,795,796,798,800,804,807,818,826,831,832,833,834,840,850,854,858,860,862,876,882,887,894"

unfoldable pub country_letters : List ℕ
country_letters = codes "AF,AL,AQ,DZ,AS,AD,AO,AG,AZ,AR,AU,AT,BS,BH,BD,AM,BB,BE,BM,BT,BO,BA,BW,BV,BR,BZ,IO,SB,VG,BN,BG,MM,BI,BY,KH,CM,CA,CV,KY,CF,LK,TD,CL,CN,TW,CX,CC,CO,KM,YT,CG,CD,CK,CR,HR,CU,CY,CZ,BJ,DK,DM,DO,EC,SV,GQ,ET,ER,EE,FO,FK,GS,FJ,FI,AX,FR,GF,PF,TF,DJ,GA,GE,GM,PS,DE,GH,GI,KI,GR,GL,GD,GP,GU,GT,GN,GY,HT,HM,VA,HN,HK,HU,IS,IN,ID,IR,IQ,IE,IL,IT,CI,JM,JP,KZ,JO,KE,KP,KR,KW,KG,LA,LB,LS,LV,LR,LY,LI,LT,LU,MO,MG,MW,MY,MV,ML,MT,MQ,MR,MU,MX,MC,MN,MD,ME,MS,MA,MZ,OM,NA,NR,NP,NL,CW,AW,SX,BQ,NC,VU,NZ,NI,NE,NG,NU,NF,NO,MP,UM,FM,MH,PW,PK,PA,PG,PY,PE,PH,PN,PL,PT,GW,TL,PR,QA,RE,RO,RU,RW,BL,SH,KN,AI,LC,MF,PM,VC,SM,ST,SA,SN,RS,SC,SL,SG,SK,VN,SI,SO,ZA,ZW,ES,SS,SD,EH,SR,SJ,SZ,SE,CH,SY,TJ,TH,TG,TK,TO,TT,AE,TN,TR,TM,TC,TV,UG,UA,MK,EG,GB,GG,JE,IM,TZ,US,VI,BF,UY,UZ,VE,WF,WS,YE,ZM"

unfoldable pub currencies : List ℕ
currencies = codes "008,012,032,036,044,048,050,051,052,060,064,068,072,084,090,096,104,108,116,124,132,136,144,152,156,170,174,188,191,192,203,208,214,222,230,232,238,242,262,270,292,320,324,328,332,340,344,348,352,356,360,364,368,376,388,392,398,400,404,408,410,414,417,418,422,426,430,434,446,454,458,462,480,484,496,498,504,512,516,524,532,533,548,554,558,566,578,586,590,598,600,604,608,634,643,646,654,682,690,694,702,704,706,710,728,748,752,756,760,764,776,780,784,788,800,807,818,826,834,840,858,860,882,886,901,925,926,927,928,929,930,931,932,933,934,936,938,940,941,943,944,946,947,948,949,950,951,952,953,955,956,957,958,959,960,961,962,963,964,965,967,968,969,970,971,972,973,975,976,977,978,979,980,981,984,985,986,990,994,997,999"

abbrev pub coding_in : List ℕ → List AisWithCodes → Option (ConflictKind × Coding)
coding_in ai [] = None
coding_in ai (c ∷ list) = if is_listed ai c.ais then Some (c.kind, c.coding) else coding_in ai list

-- what the codes of an AI's values are, if they have some
abbrev pub coding_of : List ℕ → Option (ConflictKind × Coding)
coding_of ai = coding_in ai coded_list

-- the first of numbers of three digits that is no country's; what is left over is none
abbrev pub unknown_country : List ℕ → List ℕ
unknown_country (a ∷ b ∷ c ∷ more) =
    if is_listed (a ∷ b ∷ c ∷ []) countries then unknown_country more else a ∷ b ∷ c ∷ []
unknown_country rest = rest

-- a code if it is in no list
abbrev pub unlisted : List ℕ → List ℕ → List ℕ
unlisted code list = if is_listed code list then [] else code

abbrev pub are_four_digits : List ℕ → Bool
are_four_digits (a ∷ b ∷ c ∷ d ∷ []) = is_digit a && (is_digit b && (is_digit c && is_digit d))
are_four_digits _ = false

-- the first code of a value that is in no list, by what its codes are; no sign if there is none
abbrev pub unknown_code : Coding → List ℕ → List ℕ
unknown_code coding.Country value = unknown_country (take 3 value)
unknown_code coding.Countries value = unknown_country value
unknown_code coding.CountryOrSeveral value = if bytes_eq (take 3 value) (codes "999") then [] else unknown_country (take 3 value)
unknown_code coding.CountryLetters value = unlisted value country_letters
unknown_code coding.Currency value = unlisted (take 3 value) currencies
unknown_code coding.Prefix value = if are_four_digits (take 4 value) then [] else take 4 value
unknown_code coding.Gtin value = no_item value
