-- Texts that say the elements of an answer: what a scanner sends, and Digital Links.
use Rattle.std.specs.Prelude.{◌==◌, ◌&&◌, ◌||◌, ◌++◌, ℕ, Bool, false, not, true, List, [], ◌∷◌, Option, Some, None, Result, Ok, Err, length, slice_get, if◌then◌else◌}
use Rattle.std.specs.Char.{is_ascii_alphanumeric}
use Rattle.std.specs.List.{list_all, position_or_len, remove}
use Rattle.element_core.specs.Elements.{Entry, canonical}
use Rattle.element_core.specs.Pairs.{list_fault}
use Rattle.element_core.specs.Terms.{Terms}
use Rattle.element_core.specs.declared.fault.ElementFault.{ElementFault}
use Rattle.message_core.specs.Coding.{encoded}
use Rattle.message_core.specs.Faults.{message_fault_text}
use Rattle.message_core.specs.Keys.{is_key, place_by}
use Rattle.message_core.specs.Links.{is_uri, without_slash}
use Rattle.message_core.specs.Symbologies.{identifier_of}
use Rattle.message_core.specs.declared.fault.MessageFault.{MessageFault}
use Rattle.message_core.specs.declared.fault.MessageFault.TheVariants.{Elements, Kind}
use Rattle.message_core.specs.declared.symbology.Symbology.{Symbology}
use Rattle.message_core.specs.declared.symbology.Symbology.TheVariants as symbology
use Rattle.answer_core.specs.Formats.{entries_in, fault_words, placed_words}
use Rattle.answer_core.specs.Refusals.{refusal_numbered}
use Rattle.answer_core.specs.declared.answer.Answer.{Answer}

-- a text, or why there is none
abbrev pub Writing : Type 0
Writing = Result (List ℕ) MessageFault

abbrev pub writing_text : Writing → List ℕ
writing_text (Ok text) = text
writing_text (Err fault) = message_fault_text fault

-- a text of elements, if they have no fault by the terms
abbrev pub faultless_by : List ℕ → Option ElementFault → Writing
faultless_by text None = Ok text
faultless_by text (Some fault) = Err (Elements fault)

-- what is written of an answer by what is written of elements: that of its elements, or its error
abbrev pub written_text : (List Entry → Writing) → Answer → List ℕ
written_text write a =
    if a.fault == 0 then writing_text (write (entries_in a)) else placed_words (fault_words (refusal_numbered a.fault)) a.place

-- ---- what a scanner sends (GS1 General Specifications, section 5.1.3)

-- a symbology whose symbols carry element strings
abbrev pub carries_elements : Symbology → Bool
carries_elements symbology.Gs1128 = true
carries_elements symbology.DataBar = true
carries_elements symbology.DataMatrix = true
carries_elements symbology.QrCode = true
carries_elements symbology.DotCode = true
carries_elements _ = false

-- its identifier and the element string
abbrev pub sent : Terms → Symbology → List Entry → Writing
sent terms s es = faultless_by (identifier_of s ++ canonical es) (list_fault terms es)

abbrev pub scan_text : Terms → Option Symbology → List Entry → Writing
scan_text terms None es = Err Kind
scan_text terms (Some s) es = if carries_elements s then sent terms s es else Err Kind

-- ---- the order of a link (GS1 Digital Link: URI syntax, section 4)

-- elements in the path of a link, and those in its query
pub record Parted : Type 0 where
  pub path : List Entry
  pub query : List Entry

-- an element of the query goes to the end of the path
abbrev pub moved_by : Option Entry → ℕ → Parted → Parted
moved_by None i p = p
moved_by (Some e) i p = record { path = p.path ++ e ∷ []; query = remove p.query i }

abbrev pub moved_at : ℕ → Parted → Parted
moved_at i p = moved_by (slice_get p.query i) i p

-- the first of the query for which this holds
abbrev pub moved : (Entry → Bool) → Parted → Parted
moved is p = moved_at (position_or_len is p.query) p

abbrev pub is_key_entry : Entry → Bool
is_key_entry e = is_key e.ai

-- a qualifier of a key, at this place behind it
abbrev pub is_at_place : ℕ → Option ℕ → Bool
is_at_place place None = false
is_at_place place (Some p) = p == place

abbrev pub qualifies : List ℕ → ℕ → Entry → Bool
qualifies key place e = is_at_place place (place_by key e.ai)

-- behind a key stand its qualifiers in their order; a third party's serial number (AI 235, at place 3) is one only without others
abbrev pub with_last : List ℕ → Parted → Parted
with_last key p = if length p.path == 1 then moved (qualifies key 3) p else p

abbrev pub with_qualifiers : List ℕ → Parted → Parted
with_qualifiers key p = with_last key (moved (qualifies key 2) (moved (qualifies key 1) (moved (qualifies key 0) p)))

abbrev pub parted_by : List Entry → Parted → Option Parted
parted_by [] p = None
parted_by (key ∷ path) p = Some (with_qualifiers key.ai p)

-- the first element whose AI is a key, behind it its qualifiers, and the others in the query; none without a key
abbrev pub parted : List Entry → Option Parted
parted es = let p = moved is_key_entry (record { path = []; query = es }) in parted_by p.path p

-- ---- the text of a link

-- bytes that stand for themselves: letters, digits and - . _ ~ (RFC 3986, section 2.3)
abbrev pub is_unreserved : ℕ → Bool
is_unreserved b = is_ascii_alphanumeric b || ((b == 45) || ((b == 46) || ((b == 95) || (b == 126))))

-- elements in percent codes: a sign before the first, another before each other, and one between AI and value
abbrev pub coded_elements : ℕ → ℕ → ℕ → List Entry → List ℕ
coded_elements first next between [] = []
coded_elements first next between (e ∷ es) =
    (first ∷ e.ai) ++ ((between ∷ encoded is_unreserved e.value) ++ coded_elements next next between es)

-- /AI/value and so on, ?AI=value&AI=value
abbrev pub parted_text : Parted → List ℕ
parted_text p = coded_elements 47 47 47 p.path ++ coded_elements 63 38 61 p.query

-- a URI that a path may follow: it has neither ? nor #
abbrev pub is_stem : List ℕ → Bool
is_stem stem = is_uri stem && (list_all (λ b. not (b == 63)) stem && list_all (λ b. not (b == 35)) stem)

abbrev pub link_of : Terms → List ℕ → Parted → Writing
link_of terms stem p = faultless_by (stem ++ parted_text p) (list_fault terms (p.path ++ p.query))

abbrev pub link_by : Terms → List ℕ → Option Parted → Writing
link_by terms stem None = Err Kind
link_by terms stem (Some p) = link_of terms stem p

abbrev pub stem_link : Terms → List ℕ → List Entry → Writing
stem_link terms stem es = if is_stem stem then link_by terms stem (parted es) else Err Kind

abbrev pub checked_by : Option ElementFault → Writing → Writing
checked_by None w = w
checked_by (Some fault) w = Err (Elements fault)

-- the link of elements that have no error, with a stem; a slash at the end of the stem does not count
abbrev pub link_text : Terms → List ℕ → List Entry → Writing
link_text terms stem es = checked_by (list_fault terms es) (stem_link terms (without_slash stem) es)
