-- Digital Links: URIs that carry elements (GS1 Digital Link: URI syntax).
use Rattle.std.specs.Prelude.{◌==◌, ◌&&◌, ◌||◌, ◌++◌, ◌+◌, ◌-◌, not, ℕ, Bool, true, false, List, [], ◌∷◌, Option, Some, None, Result, Ok, Err, codes, drop, take, length, replicate, nat_le, option_map, slice_index, if◌then◌else◌}
use Rattle.std.specs.Char.{is_ascii_digit, is_ascii_graphic, to_ascii_lowercase}
use Rattle.std.specs.List.{after_first, before_first, list_all, slice_split}
use Rattle.std.specs.Str.{bytes_eq}
use Rattle.element_core.specs.Elements.{Entry}
use Rattle.element_core.specs.Pairs.{list_fault}
use Rattle.element_core.specs.declared.fault.ElementFault.{ElementFault}
use Rattle.element_core.specs.declared.fault.ElementFault.TheVariants.{TooLong}
use Rattle.message_core.specs.declared.fault.MessageFault.{MessageFault}
use Rattle.message_core.specs.declared.fault.MessageFault.TheVariants.{Elements, Kind}
use Rattle.message_core.specs.Coding.{decoded, is_coded}
use Rattle.element_core.specs.Terms.{Terms}
use Rattle.message_core.specs.Keys.{is_key, place_by}

-- ---- the key in the path

-- the segments of a path
abbrev pub segments : List ℕ → List (List ℕ)
segments path = slice_split (λ b. b == 47) path

-- qualifiers of a key with their values, in their order, the first of them at this place or behind it
abbrev pub follow_by : ℕ → Option ℕ → (ℕ → Bool) → Bool
follow_by least None more = false
follow_by least (Some place) more = nat_le least place && more (place + 1)

abbrev pub follow_all : List ℕ → ℕ → List (List ℕ) → Bool
follow_all key least [] = true
follow_all key least (ai ∷ []) = false
follow_all key least (ai ∷ value ∷ rest) = follow_by least (place_by key ai) (λ next. follow_all key next rest)

-- a key, its value and its qualifiers
abbrev pub is_keyed : List (List ℕ) → Bool
is_keyed (key ∷ value ∷ rest) = is_key key && follow_all key 0 rest
is_keyed _ = false

-- what stands from the key on, the first segment from which on this is all
abbrev pub key_part : List (List ℕ) → Option (List (List ℕ))
key_part [] = None
key_part (s ∷ ss) = if is_keyed (s ∷ ss) then Some (s ∷ ss) else key_part ss

-- ---- pairs

-- a GTIN of 8, 12 or 13 digits has zeros before it
abbrev pub fourteen : List ℕ → List ℕ
fourteen value =
    if (length value == 8) || ((length value == 12) || (length value == 13)) then replicate (14 - length value) 48 ++ value
    else value

-- an AI of the path and its value
abbrev pub path_entry : List ℕ → List ℕ → Entry
path_entry ai value =
    record { ai = ai; value = if bytes_eq ai (codes "01") then fourteen (decoded 43 value) else decoded 43 value }

abbrev pub path_entries : List (List ℕ) → List Entry
path_entries (ai ∷ value ∷ rest) = path_entry ai value ∷ path_entries rest
path_entries _ = []

-- the parameters of a query, the name of one, and whether it is to be an AI: it is digits
abbrev pub parameters : List ℕ → List (List ℕ)
parameters query = slice_split (λ b. b == 38) query

abbrev pub name_of : List ℕ → List ℕ
name_of parameter = before_first (λ b. b == 61) parameter

abbrev pub is_ai : List ℕ → Bool
is_ai name = not (length name == 0) && list_all is_ascii_digit name

-- such a parameter is an AI and its value, in which `+` may stand for a blank, which no value has
abbrev pub query_entry : List ℕ → Entry
query_entry parameter = record { ai = name_of parameter; value = decoded 32 (after_first (λ b. b == 61) parameter) }

abbrev pub query_entries : List (List ℕ) → List Entry
query_entries [] = []
query_entries (p ∷ ps) = if is_ai (name_of p) then query_entry p ∷ query_entries ps else query_entries ps

-- ---- a URI

-- the scheme, in any case
abbrev pub begins_any_case : List ℕ → List ℕ → Bool
begins_any_case [] text = true
begins_any_case (a ∷ small) [] = false
begins_any_case (a ∷ small) (b ∷ text) = (to_ascii_lowercase b == a) && begins_any_case small text

abbrev pub begins_http : List ℕ → Bool
begins_http text = begins_any_case (codes "http://") text

abbrev pub begins_https : List ℕ → Bool
begins_https text = begins_any_case (codes "https://") text

abbrev pub begins_link : List ℕ → Bool
begins_link text = begins_http text || begins_https text

abbrev pub behind_scheme : List ℕ → List ℕ
behind_scheme text = if begins_http text then drop 7 text else drop 8 text

-- a path without one slash at its end
abbrev pub without_slash : List ℕ → List ℕ
without_slash path = if slice_index path (length path - 1) == 47 then take (length path - 1) path else path

-- a query without `;`, which some take for `&`, and without `%` in its names
abbrev pub is_plain_name : List ℕ → Bool
is_plain_name parameter = list_all (λ b. not (b == 37)) (name_of parameter)

abbrev pub is_plain : List ℕ → Bool
is_plain query = list_all (λ b. not (b == 59)) query && list_all is_plain_name (parameters query)

-- what stands before the fragment; of it the host with the path, and the query
abbrev pub front_of : List ℕ → List ℕ
front_of text = before_first (λ b. b == 35) (behind_scheme text)

abbrev pub host_and_path : List ℕ → List ℕ
host_and_path text = before_first (λ b. b == 63) (front_of text)

abbrev pub query_of : List ℕ → List ℕ
query_of text = after_first (λ b. b == 63) (front_of text)

abbrev pub host_of : List ℕ → List ℕ
host_of text = before_first (λ b. b == 47) (host_and_path text)

abbrev pub path_of : List ℕ → List ℕ
path_of text = without_slash (after_first (λ b. b == 47) (host_and_path text))

-- bytes of a URI, each `%` with its two digits
abbrev pub is_written : List ℕ → Bool
is_written text = list_all is_ascii_graphic text && is_coded text

-- a host that is not empty
abbrev pub has_host : List ℕ → Bool
has_host text = not (length (host_of text) == 0)

-- a URI of the web with a host and a plain query
abbrev pub is_uri : List ℕ → Bool
is_uri text = begins_link text && (is_written text && (has_host text && is_plain (query_of text)))

-- its elements as they are written, if it is a Digital Link: those of the path from its key on, then those of the query
abbrev pub link_entries : List ℕ → Option (List Entry)
link_entries text =
    if is_uri text then option_map (λ part. path_entries part ++ query_entries (parameters (query_of text))) (key_part (segments (path_of text)))
    else None

-- ---- what is said

-- no more than 48 entries, and none of more than 192 bytes: others fit no element string
abbrev pub fits_entry : Entry → Bool
fits_entry e = nat_le (length e.ai) 192 && nat_le (length e.value) 192

abbrev pub fits_all : List Entry → Bool
fits_all es = list_all fits_entry es

abbrev pub fits : List Entry → Bool
fits es = nat_le (length es) 48 && fits_all es

-- elements by their fault
abbrev pub entries_said_by : List Entry → Option ElementFault → Result (List Entry) MessageFault
entries_said_by es None = Ok es
entries_said_by es (Some fault) = Err (Elements fault)

abbrev pub entries_said : Terms → List Entry → Result (List Entry) MessageFault
entries_said year es = if fits es then entries_said_by es (list_fault year es) else Err (Elements TooLong)

-- a URI: its elements, or why it has none
abbrev pub link_said_by : Terms → Option (List Entry) → Result (List Entry) MessageFault
link_said_by year None = Err Kind
link_said_by year (Some es) = entries_said year es

abbrev pub link_said : Terms → List ℕ → Result (List Entry) MessageFault
link_said year text = link_said_by year (link_entries text)
