-- The Application Identifiers, with what their values may be (GS1 General Specifications, section 3.2).
-- tables/ais makes the lists of families of tables/ais.tsv.
use Rattle.std.specs.Prelude.{◌≡◌, ℕ, ◌+◌, ◌-◌, ◌*◌, Bool, true, false, ◌&&◌, ◌||◌, not, List, [], ◌∷◌, ◌++◌, map, length, Option, Some, None, IsTrue, nat_le, bytes_eq, ◌==◌, if◌then◌else◌, codes, find, flat_map}
use Rattle.std.specs.List.{filter, list_all, list_any, range_with_len}
use Rattle.element_core.specs.declared.part.Check.{Check}
use Rattle.element_core.specs.declared.part.Check.TheVariants.{Unchecked, Digit, Characters, Iban}
use Rattle.element_core.specs.declared.part.Part.{Part}
use Rattle.element_core.specs.declared.part.PartFormat.{PartFormat}
use Rattle.element_core.specs.declared.part.PartFormat.TheVariants.{Numeric, Alphanumeric, Component, Base64Url, Capitals, YesNo, Winding, Sex, Zero, Hyphen, Importer}
use Rattle.element_core.specs.declared.part.Rule.{Rule}
use Rattle.element_core.specs.declared.part.Rule.TheVariants.{Free, DayOrMonth, Day, DayAndTime, DayOrMonthAndTime, DayPerhapsTime, OneOrTwoDays, LongDay, LongDayAndTime, NonZero, NoLeadingZero, PieceOfTotal, Position, Percent, Latitude, Longitude, Media, CompanyPrefix, ModelNumber}
use Rattle.element_core.specs.Times.{names_day}

-- an AI, the parts of its value, and whether its length is predefined
pub record Row : Type 0 where
  pub ai : List ℕ
  pub parts : List Part
  pub predefined : Bool
  pub profile : Bool

-- AIs that differ in digits alone, each of whose digits lies between those of the least and the greatest
pub record Family : Type 0 where
  pub least : List ℕ
  pub greatest : List ℕ
  pub parts : List Part
  pub predefined : Bool
  pub profile : Bool

-- this many digits
abbrev pub n : ℕ → Part
n count = record { format = Numeric; least = count; greatest = count; step = 1; check = Unchecked; rule = Free }

-- from the least number of digits to the most
abbrev pub n_to : ℕ → ℕ → Part
n_to least greatest = record { format = Numeric; least = least; greatest = greatest; step = 1; check = Unchecked; rule = Free }

-- digits of which the last is the check digit
abbrev pub n_check : ℕ → Part
n_check count = record { format = Numeric; least = count; greatest = count; step = 1; check = Digit; rule = Free }

-- digits by a rule: this many; from the least to the most; and with a step between their numbers
abbrev pub n_by : Rule → ℕ → Part
n_by rule count = record { format = Numeric; least = count; greatest = count; step = 1; check = Unchecked; rule = rule }

abbrev pub n_to_by : Rule → ℕ → ℕ → Part
n_to_by rule least greatest = record { format = Numeric; least = least; greatest = greatest; step = 1; check = Unchecked; rule = rule }

abbrev pub n_in_steps : Rule → ℕ → ℕ → ℕ → Part
n_in_steps rule least greatest step = record { format = Numeric; least = least; greatest = greatest; step = step; check = Unchecked; rule = rule }

-- YYMMDD; YYMMDDHHMM; and YYMMDDHH, YYMMDDHHMM or YYMMDDHHMMSS
abbrev pub n6_date : Part
n6_date = n_by DayOrMonth 6

abbrev pub n10_date_and_time : Part
n10_date_and_time = n_by DayAndTime 10

abbrev pub n8_to_12_date_and_time : Part
n8_to_12_date_and_time = n_in_steps DayAndTime 8 12 2

-- from the least to the most of the 82 characters, and by a rule
abbrev pub x_to : ℕ → ℕ → Part
x_to least greatest = record { format = Alphanumeric; least = least; greatest = greatest; step = 1; check = Unchecked; rule = Free }

abbrev pub x_by : Rule → ℕ → ℕ → Part
x_by rule least greatest = record { format = Alphanumeric; least = least; greatest = greatest; step = 1; check = Unchecked; rule = rule }

-- the same of other characters, and with what checks them
abbrev pub c_to : PartFormat → ℕ → ℕ → Part
c_to format least greatest = record { format = format; least = least; greatest = greatest; step = 1; check = Unchecked; rule = Free }

abbrev pub c_checked : PartFormat → ℕ → ℕ → Check → Rule → Part
c_checked format least greatest check rule = record { format = format; least = least; greatest = greatest; step = 1; check = check; rule = rule }

-- a family whose AIs need a separator after them, also if their length is fixed
abbrev pub not_predefined : List ℕ → List ℕ → List Part → Family
not_predefined least greatest parts = record { least = least; greatest = greatest; parts = parts; predefined = false; profile = true }

-- a family whose whole length the first two digits say
abbrev pub predefined : List ℕ → List ℕ → Part → Family
predefined least greatest part = record { least = least; greatest = greatest; parts = part ∷ []; predefined = true; profile = true }

-- the same, beyond the profile
abbrev pub beyond : List ℕ → List ℕ → List Part → Family
beyond least greatest parts = record { least = least; greatest = greatest; parts = parts; predefined = false; profile = false }

abbrev pub predefined_beyond : List ℕ → List ℕ → Part → Family
predefined_beyond least greatest part = record { least = least; greatest = greatest; parts = part ∷ []; predefined = true; profile = false }

-- the families of the table whose AIs begin with 0 to 4, and with 5 to 9
unfoldable pub first_families : List Family
first_families =
    predefined (codes "00") (codes "00") (n_check 18)
    ∷ predefined (codes "01") (codes "02") (n_check 14)
    ∷ predefined_beyond (codes "03") (codes "03") (n_check 14)
    ∷ not_predefined (codes "10") (codes "10") (x_to 1 20 ∷ [])
    ∷ predefined (codes "11") (codes "13") n6_date
    ∷ predefined (codes "15") (codes "17") n6_date
    ∷ predefined (codes "20") (codes "20") (n 2)
    ∷ not_predefined (codes "21") (codes "22") (x_to 1 20 ∷ [])
    ∷ beyond (codes "235") (codes "235") (x_to 1 28 ∷ [])
    ∷ not_predefined (codes "240") (codes "241") (x_to 1 30 ∷ [])
    ∷ beyond (codes "242") (codes "242") (n_to 1 6 ∷ [])
    ∷ beyond (codes "243") (codes "243") (x_to 1 20 ∷ [])
    ∷ not_predefined (codes "250") (codes "250") (x_to 1 30 ∷ [])
    ∷ beyond (codes "251") (codes "251") (x_to 1 30 ∷ [])
    ∷ not_predefined (codes "253") (codes "253") (n_check 13 ∷ x_to 0 17 ∷ [])
    ∷ not_predefined (codes "254") (codes "254") (x_to 1 20 ∷ [])
    ∷ beyond (codes "255") (codes "255") (n_check 13 ∷ n_to 0 12 ∷ [])
    ∷ not_predefined (codes "30") (codes "30") (n_to 1 8 ∷ [])
    ∷ predefined (codes "3100") (codes "3165") (n 6)
    ∷ predefined (codes "3200") (codes "3295") (n 6)
    ∷ predefined (codes "3300") (codes "3375") (n 6)
    ∷ predefined (codes "3400") (codes "3495") (n 6)
    ∷ predefined (codes "3500") (codes "3575") (n 6)
    ∷ predefined (codes "3600") (codes "3695") (n 6)
    ∷ not_predefined (codes "37") (codes "37") (n_to 1 8 ∷ [])
    ∷ not_predefined (codes "3900") (codes "3909") (n_to 1 15 ∷ [])
    ∷ not_predefined (codes "3910") (codes "3919") (n 3 ∷ n_to 1 15 ∷ [])
    ∷ not_predefined (codes "3920") (codes "3929") (n_to 1 15 ∷ [])
    ∷ not_predefined (codes "3930") (codes "3939") (n 3 ∷ n_to 1 15 ∷ [])
    ∷ beyond (codes "3940") (codes "3943") (n 4 ∷ [])
    ∷ beyond (codes "3950") (codes "3955") (n 6 ∷ [])
    ∷ not_predefined (codes "400") (codes "401") (x_to 1 30 ∷ [])
    ∷ not_predefined (codes "402") (codes "402") (n_check 17 ∷ [])
    ∷ not_predefined (codes "403") (codes "403") (x_to 1 30 ∷ [])
    ∷ predefined (codes "410") (codes "417") (n_check 13)
    ∷ not_predefined (codes "420") (codes "420") (x_to 1 20 ∷ [])
    ∷ beyond (codes "421") (codes "421") (n 3 ∷ x_to 1 9 ∷ [])
    ∷ not_predefined (codes "422") (codes "422") (n 3 ∷ [])
    ∷ beyond (codes "423") (codes "423") (n_in_steps Free 3 15 3 ∷ [])
    ∷ beyond (codes "424") (codes "424") (n 3 ∷ [])
    ∷ beyond (codes "425") (codes "425") (n_in_steps Free 3 15 3 ∷ [])
    ∷ beyond (codes "426") (codes "426") (n 3 ∷ [])
    ∷ beyond (codes "427") (codes "427") (x_to 1 3 ∷ [])
    ∷ beyond (codes "4300") (codes "4301") (x_by Percent 1 35 ∷ [])
    ∷ beyond (codes "4302") (codes "4306") (x_by Percent 1 70 ∷ [])
    ∷ beyond (codes "4307") (codes "4307") (x_to 2 2 ∷ [])
    ∷ beyond (codes "4308") (codes "4308") (x_to 1 30 ∷ [])
    ∷ beyond (codes "4309") (codes "4309") (n_by Latitude 10 ∷ n_by Longitude 10 ∷ [])
    ∷ beyond (codes "4310") (codes "4311") (x_by Percent 1 35 ∷ [])
    ∷ beyond (codes "4312") (codes "4316") (x_by Percent 1 70 ∷ [])
    ∷ beyond (codes "4317") (codes "4317") (x_to 2 2 ∷ [])
    ∷ beyond (codes "4318") (codes "4318") (x_to 1 20 ∷ [])
    ∷ beyond (codes "4319") (codes "4319") (x_to 1 30 ∷ [])
    ∷ beyond (codes "4320") (codes "4320") (x_by Percent 1 35 ∷ [])
    ∷ beyond (codes "4321") (codes "4323") (c_to YesNo 1 1 ∷ [])
    ∷ beyond (codes "4324") (codes "4325") (n_by DayOrMonthAndTime 10 ∷ [])
    ∷ beyond (codes "4326") (codes "4326") (n_by Day 6 ∷ [])
    ∷ beyond (codes "4330") (codes "4333") (n 6 ∷ c_to Hyphen 0 1 ∷ [])
    ∷ []

unfoldable pub last_families : List Family
last_families =
    beyond (codes "7001") (codes "7001") (n 13 ∷ [])
    ∷ beyond (codes "7002") (codes "7002") (x_to 1 30 ∷ [])
    ∷ not_predefined (codes "7003") (codes "7003") (n10_date_and_time ∷ [])
    ∷ beyond (codes "7004") (codes "7004") (n_to 1 4 ∷ [])
    ∷ beyond (codes "7005") (codes "7005") (x_to 1 12 ∷ [])
    ∷ beyond (codes "7006") (codes "7006") (n_by Day 6 ∷ [])
    ∷ beyond (codes "7007") (codes "7007") (n_in_steps OneOrTwoDays 6 12 6 ∷ [])
    ∷ beyond (codes "7008") (codes "7008") (x_to 1 3 ∷ [])
    ∷ beyond (codes "7009") (codes "7009") (x_to 1 10 ∷ [])
    ∷ beyond (codes "7010") (codes "7010") (x_to 1 2 ∷ [])
    ∷ beyond (codes "7011") (codes "7011") (n_in_steps DayPerhapsTime 6 10 4 ∷ [])
    ∷ beyond (codes "7020") (codes "7022") (x_to 1 20 ∷ [])
    ∷ beyond (codes "7023") (codes "7023") (x_by CompanyPrefix 1 30 ∷ [])
    ∷ beyond (codes "7030") (codes "7039") (n 3 ∷ x_to 1 27 ∷ [])
    ∷ beyond (codes "7040") (codes "7040") (n 1 ∷ x_to 2 2 ∷ c_to Importer 1 1 ∷ [])
    ∷ beyond (codes "7041") (codes "7041") (x_to 1 4 ∷ [])
    ∷ beyond (codes "710") (codes "716") (x_to 1 20 ∷ [])
    ∷ beyond (codes "7230") (codes "7239") (x_to 2 2 ∷ x_to 1 28 ∷ [])
    ∷ beyond (codes "7240") (codes "7240") (x_to 1 20 ∷ [])
    ∷ beyond (codes "7241") (codes "7241") (n_by Media 2 ∷ [])
    ∷ beyond (codes "7242") (codes "7242") (x_to 1 25 ∷ [])
    ∷ beyond (codes "7250") (codes "7250") (n_by LongDay 8 ∷ [])
    ∷ beyond (codes "7251") (codes "7251") (n_by LongDayAndTime 12 ∷ [])
    ∷ beyond (codes "7252") (codes "7252") (c_to Sex 1 1 ∷ [])
    ∷ beyond (codes "7253") (codes "7254") (x_by Percent 1 40 ∷ [])
    ∷ beyond (codes "7255") (codes "7255") (x_to 1 10 ∷ [])
    ∷ beyond (codes "7256") (codes "7256") (x_by Percent 1 90 ∷ [])
    ∷ beyond (codes "7257") (codes "7257") (x_by Percent 1 70 ∷ [])
    ∷ beyond (codes "7258") (codes "7258") (x_by Position 3 3 ∷ [])
    ∷ beyond (codes "7259") (codes "7259") (x_by Percent 1 40 ∷ [])
    ∷ beyond (codes "8001") (codes "8001") (n_by NonZero 4 ∷ n_by NonZero 5 ∷ n_by NonZero 3 ∷ c_to Winding 1 1 ∷ n 1 ∷ [])
    ∷ beyond (codes "8002") (codes "8002") (x_to 1 20 ∷ [])
    ∷ beyond (codes "8003") (codes "8003") (c_to Zero 1 1 ∷ n_check 13 ∷ x_to 0 16 ∷ [])
    ∷ beyond (codes "8004") (codes "8004") (x_by CompanyPrefix 1 30 ∷ [])
    ∷ not_predefined (codes "8005") (codes "8005") (n 6 ∷ [])
    ∷ beyond (codes "8006") (codes "8006") (n_check 14 ∷ n_by PieceOfTotal 4 ∷ [])
    ∷ beyond (codes "8007") (codes "8007") (c_checked Capitals 1 34 Iban Free ∷ [])
    ∷ not_predefined (codes "8008") (codes "8008") (n8_to_12_date_and_time ∷ [])
    ∷ beyond (codes "8009") (codes "8009") (x_to 1 50 ∷ [])
    ∷ beyond (codes "8010") (codes "8010") (c_checked Component 1 30 Unchecked CompanyPrefix ∷ [])
    ∷ beyond (codes "8011") (codes "8011") (n_to_by NoLeadingZero 1 12 ∷ [])
    ∷ beyond (codes "8012") (codes "8012") (x_to 1 20 ∷ [])
    ∷ beyond (codes "8013") (codes "8013") (c_checked Alphanumeric 1 25 Characters CompanyPrefix ∷ [])
    ∷ beyond (codes "8014") (codes "8014") (c_checked Alphanumeric 1 25 Characters ModelNumber ∷ [])
    ∷ beyond (codes "8017") (codes "8017") (n_check 18 ∷ [])
    ∷ not_predefined (codes "8018") (codes "8018") (n_check 18 ∷ [])
    ∷ beyond (codes "8019") (codes "8019") (n_to 1 10 ∷ [])
    ∷ not_predefined (codes "8020") (codes "8020") (x_to 1 25 ∷ [])
    ∷ beyond (codes "8026") (codes "8026") (n_check 14 ∷ n_by PieceOfTotal 4 ∷ [])
    ∷ beyond (codes "8030") (codes "8030") (c_to Base64Url 1 90 ∷ [])
    ∷ beyond (codes "8110") (codes "8110") (x_to 1 70 ∷ [])
    ∷ beyond (codes "8111") (codes "8111") (n 4 ∷ [])
    ∷ beyond (codes "8112") (codes "8112") (x_to 1 70 ∷ [])
    ∷ beyond (codes "8200") (codes "8200") (x_to 1 70 ∷ [])
    ∷ not_predefined (codes "90") (codes "90") (x_to 1 30 ∷ [])
    ∷ not_predefined (codes "91") (codes "99") (x_to 1 90 ∷ [])
    ∷ []

-- the families of the table
unfoldable pub families : List Family
families = first_families ++ last_families

-- the AIs each of whose digits lies between those of the two
abbrev pub ais : List ℕ → List ℕ → List (List ℕ)
ais (a ∷ least) (z ∷ greatest) = flat_map (λ d. map (λ ai. d ∷ ai) (ais least greatest)) (range_with_len a (z + 1 - a))
ais [] greatest = [] ∷ []
ais (a ∷ least) [] = []

-- the rows of a family
abbrev pub rows_of : Family → List Row
rows_of f = map (λ ai. record { ai = ai; parts = f.parts; predefined = f.predefined; profile = f.profile }) (ais f.least f.greatest)

-- the table of all AIs
unfoldable pub every_row : List Row
every_row = flat_map rows_of families

-- the table of the profile
abbrev pub ai_rows : List Row
ai_rows = filter (λ row. row.profile) every_row

-- whether an AI is one of these two
abbrev pub is_7003_or_8008 : List ℕ → Bool
is_7003_or_8008 ai = bytes_eq ai (codes "7003") || bytes_eq ai (codes "8008")

-- the table of the first edition: today's without these two AIs
abbrev pub first_rows : List Row
first_rows = filter (λ row. not (is_7003_or_8008 row.ai)) ai_rows

-- how many bytes a value has at least
abbrev pub least_of : List Part → ℕ
least_of [] = 0
least_of (p ∷ parts) = p.least + least_of parts

-- how many bytes a value has at most
abbrev pub greatest_of : List Part → ℕ
greatest_of [] = 0
greatest_of (p ∷ parts) = p.greatest + greatest_of parts

-- whether a part names a day
abbrev pub is_dated : List Part → Bool
is_dated parts = list_any (λ p. names_day p.rule) parts

-- whether the text begins with the AI
abbrev pub begins : List ℕ → List ℕ → Bool
begins [] text = true
begins (a ∷ ai) [] = false
begins (a ∷ ai) (b ∷ text) = a == b && begins ai text

-- the row whose AI the text begins with, of all
abbrev pub row_at : List ℕ → Option Row
row_at text = find (λ row. begins row.ai text) every_row

-- ---- laws

-- no AI of the list is the beginning of another, nor stands twice
abbrev pub none_begins_another : List Row → Bool
none_begins_another [] = true
none_begins_another (r ∷ rs) = list_all (λ s. not (begins r.ai s.ai || begins s.ai r.ai)) rs && none_begins_another rs

-- the whole length, AI included, that the first two digits give (section 7.8); 03, 04, 14, 18 and 19 have one, and no AI here
abbrev pub length_by : ℕ → Option ℕ
length_by first =
    if first == 0 then Some 20
    else if nat_le first 3 then Some 16
    else if first == 4 then Some 18
    else if nat_le 11 first && nat_le first 19 then Some 8
    else if first == 20 then Some 4
    else if nat_le 31 first && nat_le first 36 then Some 10
    else if first == 41 then Some 16
    else None

-- the predefined length by the first two digits of an AI, if it has one
abbrev pub predefined_length : List ℕ → Option ℕ
predefined_length (a ∷ b ∷ ai) = length_by (10 * (a - 48) + (b - 48))
predefined_length _ = None

-- the first two digits say whether the length is predefined, and which it is
abbrev pub first_digits_decide : Row → Option ℕ → Bool
first_digits_decide row None = not row.predefined
first_digits_decide row (Some all) = row.predefined && (least_of row.parts + length row.ai == all) && (greatest_of row.parts + length row.ai == all)

-- no AI of the table is the beginning of another
abbrev pub NoAiBeginsAnother : Type 0
NoAiBeginsAnother = IsTrue (none_begins_another every_row)

-- the first two digits of each AI decide
abbrev pub FirstDigitsDecide : Type 0
FirstDigitsDecide = IsTrue (list_all (λ row. first_digits_decide row (predefined_length row.ai)) every_row)

-- the first edition has 405 AIs
abbrev pub CountsFirstRows : Type 0
CountsFirstRows = length first_rows ≡ 405

-- every AI is one of 536, and those of the profile are 407
abbrev pub CountsRows : Type 0
CountsRows = (length every_row ≡ 536) × (length ai_rows ≡ 407)

-- from the least number of digits to the most, in steps of this
abbrev pub has_digits : Part → ℕ → ℕ → ℕ → Bool
has_digits p least greatest step = (p.least == least) && ((p.greatest == greatest) && (p.step == step))

-- each rule of days has its number of digits
abbrev pub has_digits_of : Part → Rule → Bool
has_digits_of p DayOrMonth = has_digits p 6 6 1
has_digits_of p Day = has_digits p 6 6 1
has_digits_of p DayAndTime = has_digits p 10 10 1 || has_digits p 8 12 2
has_digits_of p DayOrMonthAndTime = has_digits p 10 10 1
has_digits_of p DayPerhapsTime = has_digits p 6 10 4
has_digits_of p OneOrTwoDays = has_digits p 6 12 6
has_digits_of p LongDay = has_digits p 8 8 1
has_digits_of p LongDayAndTime = has_digits p 12 12 1
has_digits_of p _ = true

-- every part but the last has one length; a part with a day stands alone, and has the digits of its rule
abbrev pub have_one_length : List Part → Bool
have_one_length [] = false
have_one_length (p ∷ []) = has_digits_of p p.rule
have_one_length (p ∷ q ∷ parts) = (p.least == p.greatest) && (not (names_day p.rule) && (not (names_day q.rule) && have_one_length (q ∷ parts)))

-- so it is in each row
abbrev pub PartsHaveOneLength : Type 0
PartsHaveOneLength = IsTrue (list_all (λ row. have_one_length row.parts) every_row)
