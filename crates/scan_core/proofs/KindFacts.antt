-- The kinds of symbols that show a number, as the tests that they pass.
use Rattle.std.proofs.Common.{◌≡◌, ◌≢◌, ℕ, ◌%◌, ◌≤◌, ◌==◌, ◌&&◌, ◌||◌, ◌<◌, nat_le, nat_lt, not, Bool, true, List, ◌++◌, length, reverse, Option, Some, None, refl, sym, ap, subst, ◌∙◌, arith, eqb-true, get_or}
use Rattle.std.proofs.lemmas.Bool.{and_parts}
use Rattle.std.proofs.lemmas.List.{get_or_append_left, length-append, reverse-append}
use Rattle.std.proofs.lemmas.Bool.Decides.{nat_tests}
use Rattle.ean_code.specs.declared.kind.Kind.{Kind}
use Rattle.ean_code.specs.Symbols.{IsNumberSymbol, module_count, structure_of, width_count}
use Rattle.ean_code.specs.declared.kind.Kind.TheVariants.{Ean13, Ean8, UpcE, Itf14}
use Rattle.ean_code.proofs.AllKinds.{each_kind}
use Rattle.scan_core.specs.declared.carrier.Carrier.{Carrier}
use Rattle.scan_core.specs.declared.carrier.Carrier.TheVariants as carrier
use Rattle.scan_core.specs.Showing.{kind_of}

-- the carrier of a kind
abbrev carrier_of : Option Kind → Carrier
carrier_of (Some Ean13) = carrier.Ean13
carrier_of (Some Ean8) = carrier.Ean8
carrier_of (Some UpcE) = carrier.UpcE
carrier_of (Some Itf14) = carrier.Itf14
carrier_of None = carrier.Gs1128

carried_back : (c : Carrier) → carrier_of (kind_of c) ≡ c
carried_back carrier.Ean13 = refl
carried_back carrier.Ean8 = refl
carried_back carrier.UpcE = refl
carried_back carrier.Itf14 = refl
carried_back carrier.Gs1128 = refl

pub one_carrier : (c d : Carrier) → kind_of c ≡ kind_of d → c ≡ d
one_carrier c d e = sym (carried_back c) ∙ ap carrier_of e ∙ carried_back d

-- 25 runs at least and 595 at most, an odd number, and 5 to 1,091 modules
pub record HasFew (kind : Kind) : Type 0 where
  pub least : 25 ≤ width_count kind
  pub most : width_count kind ≤ 595
  pub odd : width_count kind % 2 ≡ 1
  pub wide : 5 ≤ module_count kind
  pub modules : module_count kind ≤ 1091

pub few : (kind : Kind) → HasFew kind
few kind =
    let sizes : Kind → Bool = λ k. nat_le 25 (width_count k) && nat_le (width_count k) 595 in
    let size = and_parts (nat_le 25 (width_count kind)) (nat_le (width_count kind) 595) (each_kind sizes refl kind) in
    let wide : nat_le 5 (module_count kind) ≡ true = each_kind (λ k. nat_le 5 (module_count k)) refl kind in
    let modules : nat_le (module_count kind) 1091 ≡ true = each_kind (λ k. nat_le (module_count k) 1091) refl kind in
    let least = size.0 in
    let most = size.1 in
    record {
      least = grind (arith, nat_tests);
      most = grind (arith, nat_tests);
      odd = eqb-true _ _ (each_kind (λ k. width_count k % 2 == 1) refl kind);
      wide = grind (arith, nat_tests);
      modules = grind (arith, nat_tests);
    }

-- none but EAN-8 has as many runs as some GS1-128
pub apart : (kind : Kind) → width_count kind ≢ 43 → width_count kind % 6 ≢ 1
apart kind other =
    let test = each_kind (λ k. (width_count k == 43) || not (width_count k % 6 == 1)) refl kind in grind (arith, nat_tests, other)

-- ---- the ends of a symbol

-- a bar and then a space, of one module each
pub record EndsNarrow (ws : List ℕ) : Type 0 where
  pub long : 1 < length ws
  pub bar : get_or ws 0 0 ≡ 1
  pub space : get_or ws 1 0 ≡ 1

abbrev is_narrow : List ℕ → Bool
is_narrow ws = nat_lt 1 (length ws) && ((get_or ws 0 0 == 1) && (get_or ws 1 0 == 1))

narrow_from : (ws : List ℕ) → is_narrow ws ≡ true → EndsNarrow ws
narrow_from ws h =
    let parts = and_parts (nat_lt 1 (length ws)) ((get_or ws 0 0 == 1) && (get_or ws 1 0 == 1)) h in
    let ones = and_parts (get_or ws 0 0 == 1) (get_or ws 1 0 == 1) parts.1 in
    let long = parts.0 in
    record { long = grind (arith, nat_tests); bar = eqb-true _ _ ones.0; space = eqb-true _ _ ones.1 }

longer : (xs ys : List ℕ) → EndsNarrow xs → EndsNarrow (xs ++ ys)
longer xs ys e =
    let long = e.long in
    let n = length-append xs ys in
    record {
      long = omega arith;
      bar = get_or_append_left xs ys 0 0 (omega arith) ∙ e.bar;
      space = get_or_append_left xs ys 0 1 (omega arith) ∙ e.space;
    }

-- each number's symbol begins and ends so
pub narrow_ends : (kind : Kind) (ms ds : List ℕ) → IsNumberSymbol kind ms ds → EndsNarrow ms × EndsNarrow (reverse ms)
narrow_ends kind ms ds e =
    let start = (structure_of kind).start in
    let inside = (structure_of kind).inside ds in
    let stop = (structure_of kind).stop in
    let begin = narrow_from start (each_kind (λ k. is_narrow (structure_of k).start) refl kind) in
    let end = narrow_from (reverse stop) (each_kind (λ k. is_narrow (reverse (structure_of k).stop)) refl kind) in
    let back : reverse (start ++ (inside ++ stop)) ≡ (reverse stop ++ reverse inside) ++ reverse start =
    reverse-append start (inside ++ stop) ∙ ap (λ ws. ws ++ reverse start) (reverse-append inside stop) in (
      subst EndsNarrow (sym e.widths) (longer start (inside ++ stop) begin),
      subst EndsNarrow (sym (ap reverse e.widths ∙ back)) (longer (reverse stop ++ reverse inside) (reverse start) (longer (reverse stop) (reverse inside) end)),
    )
