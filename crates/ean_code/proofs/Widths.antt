-- Widths that a test finds to be those of modules.
use Rattle.std.proofs.Common.{◌≡◌, ℕ, Bool, true, ◌&&◌, nat_le, List, [], ◌∷◌, refl}
use Rattle.std.specs.List.{list_all}
use Rattle.std.proofs.lemmas.Bool.{and_parts, leb-true, le-leb}
use Rattle.ean_code.specs.Widths.{AreWidths}

-- the test of the code
abbrev pub are_widths : List ℕ → Bool
are_widths ws = list_all (λ w. nat_le 1 w && nat_le w 4) ws

pub AreWidths-from : (ws : List ℕ) → are_widths ws ≡ true → AreWidths ws
AreWidths-from [] h = tt
AreWidths-from (w ∷ ws) h =
    let parts = and_parts (nat_le 1 w && nat_le w 4) (are_widths ws) h in
    let both = and_parts (nat_le 1 w) (nat_le w 4) parts.0 in
    ((leb-true 1 w both.0, leb-true w 4 both.1), AreWidths-from ws parts.1)

pub AreWidths-to : (ws : List ℕ) → AreWidths ws → are_widths ws ≡ true
AreWidths-to [] h = refl
AreWidths-to (w ∷ ws) h = rw (le-leb 1 w h.0.0, le-leb w 4 h.0.1) (AreWidths-to ws h.1)
