-- The keys of Digital Links and their qualifiers (GS1 Digital Link: URI syntax, sections 4.2 to 4.5).
use Rattle.std.specs.Prelude.{ℕ, Bool, true, false, List, Option, Some, None, codes, if◌then◌else◌}
use Rattle.std.specs.Str.{bytes_eq}

-- a primary key
abbrev pub is_key : List ℕ → Bool
is_key ai =
    if bytes_eq ai (codes "00") then true
    else if bytes_eq ai (codes "01") then true
    else if bytes_eq ai (codes "253") then true
    else if bytes_eq ai (codes "255") then true
    else if bytes_eq ai (codes "401") then true
    else if bytes_eq ai (codes "402") then true
    else if bytes_eq ai (codes "414") then true
    else if bytes_eq ai (codes "415") then true
    else if bytes_eq ai (codes "417") then true
    else if bytes_eq ai (codes "8003") then true
    else if bytes_eq ai (codes "8004") then true
    else if bytes_eq ai (codes "8006") then true
    else if bytes_eq ai (codes "8010") then true
    else if bytes_eq ai (codes "8013") then true
    else if bytes_eq ai (codes "8017") then true
    else if bytes_eq ai (codes "8018") then true
    else false

-- the place of a qualifier of a trade item: variant, lot, serial number, third party's serial number
abbrev pub gtin_place : List ℕ → Option ℕ
gtin_place ai =
    if bytes_eq ai (codes "22") then Some 0
    else if bytes_eq ai (codes "10") then Some 1
    else if bytes_eq ai (codes "21") then Some 2
    else if bytes_eq ai (codes "235") then Some 3
    else None

-- of a piece of a trade item
abbrev pub itip_place : List ℕ → Option ℕ
itip_place ai =
    if bytes_eq ai (codes "22") then Some 0
    else if bytes_eq ai (codes "10") then Some 1
    else if bytes_eq ai (codes "21") then Some 2
    else None

-- of a location
abbrev pub location_place : List ℕ → Option ℕ
location_place ai =
    if bytes_eq ai (codes "254") then Some 0
    else if bytes_eq ai (codes "7040") then Some 1
    else None

-- of who is paid
abbrev pub payment_place : List ℕ → Option ℕ
payment_place ai = if bytes_eq ai (codes "8020") then Some 0 else None

-- of a party or an asset
abbrev pub production_place : List ℕ → Option ℕ
production_place ai = if bytes_eq ai (codes "7040") then Some 0 else None

-- of a component
abbrev pub cpid_place : List ℕ → Option ℕ
cpid_place ai = if bytes_eq ai (codes "8011") then Some 0 else None

-- of a service relation
abbrev pub gsrn_place : List ℕ → Option ℕ
gsrn_place ai = if bytes_eq ai (codes "8019") then Some 0 else None

-- the place of a qualifier among those of a key
abbrev pub place_by : List ℕ → List ℕ → Option ℕ
place_by key ai =
    if bytes_eq key (codes "01") then gtin_place ai
    else if bytes_eq key (codes "8006") then itip_place ai
    else if bytes_eq key (codes "414") then location_place ai
    else if bytes_eq key (codes "415") then payment_place ai
    else if bytes_eq key (codes "417") then production_place ai
    else if bytes_eq key (codes "8004") then production_place ai
    else if bytes_eq key (codes "8010") then cpid_place ai
    else if bytes_eq key (codes "8017") then gsrn_place ai
    else if bytes_eq key (codes "8018") then gsrn_place ai
    else None
